use Rattle.std.proofs.Common.{◌≡◌, ◌+◌, ◌++◌, length, take, drop, set, sym, ◌∙◌, subst, arith, rules, tests, length-take}
use Rattle.std.proofs.lemmas.List.{set-get_or}
use Rattle.store.specs.Maps.{keys_not_below}
use Rattle.store.specs.Orders.{below}
use Rattle.store.specs.Walks.{walked}
use Rattle.store.proofs.Keys.{key_order}
use Rattle.store.proofs.Walks.{Met, ahead, asked, one_met, none_met, met_front, met_more, met_all, met_most, keys-few}
use Rattle.store.proofs.walk.keys_from.Goals as goal

pub returns-in_default-clause-walks : goal.returns-in_default-clause-walks
returns-in_default-clause-walks g c =
    let o = key_order g.met.S.Key.Ord.total g.met.S.Key.Key.one in
    let es = g.S.Store.entries c.args.store.now in
    let ks = keys_not_below (below g.S.Key.Ord.cmp) es c.args.from in
    let ps = c.args.places.now in
    let most = c.min-most.result in
    let i = c.loop-met.met in
    let said : c.and_then.result ≡ asked (below g.S.Key.Ord.cmp) es c.loop-met.next = search (rules, tests) in
    let none = subst (λ l. Met ks (take most ps) l c.loop-met.place-items i) (none_met o es c.loop-met.next (sym said ∙ c.in_default.is)) c.loop-met.invariant in
    let long = length-take most ps in
    rw set-get_or (met_all ks ps _ i (met_front ks ps c.loop-met.place-items i most _ none (omega arith) (omega arith)) (omega arith))

pub loop-met-preserved : goal.loop-met-preserved
loop-met-preserved g c =
    let o = key_order g.met.S.Key.Ord.total g.met.S.Key.Key.one in
    let es = g.S.Store.entries c.args.store.now in
    let said : c.and_then.result ≡ asked (below g.S.Key.Ord.cmp) es c.loop-met.next = search (rules, tests) in
    let e = one_met o es c.loop-met.next c.in-Some.key c.successor-next.result (g.met.S.Store.ascends c.args.store.now) (sym said ∙ c.in-Some.is) c.successor-next.ensures in
    let ks = keys_not_below (below g.S.Key.Ord.cmp) es c.args.from in
    let ps = take c.min-most.result c.args.places.now in
    let more = met_more ks ps c.loop-met.place-items c.loop-met.met c.in-Some.key _ _ c.loop-met.invariant e (omega arith) in
    subst (λ k. Met ks ps (ahead (below g.S.Key.Ord.cmp) es c.successor-next.result) (set c.loop-met.place-items c.loop-met.met k) (c.loop-met.met + 1)) (search rules) more

pub returns-clause-walks : goal.returns-clause-walks
returns-clause-walks g c =
    let es = g.S.Store.entries c.args.store.now in
    let ks = keys_not_below (below g.S.Key.Ord.cmp) es c.args.from in
    let ps = c.args.places.now in
    let most = c.min-most.result in
    let i = c.loop-met.met in
    let few = keys-few (below g.S.Key.Ord.cmp) es c.args.from in
    let long = length-take most ps in
    let end : i ≡ most = omega arith in
    let after = c.loop-met.place-items ++ drop most ps in
    let whole = met_front ks ps c.loop-met.place-items i most _ c.loop-met.invariant (omega arith) (omega arith) in
    subst (λ j. (j, after) ≡ walked ks ps) end (met_most ks ps after i _ (length es) whole few (omega arith))
