use Rattle.std.proofs.Common.{◌≡◌, ◌-◌, length, rules}
use Rattle.std.proofs.lemmas.Result.{err_from_is_err_and}
use Rattle.refusal.specs.declared.Reason.TheVariants.{TooMany}
use Rattle.refusal.specs.Refusals.{refusal}
use Rattle.reader.proofs.Turns.{refused, surplus, stopped}
use Rattle.reader.proofs.items.all_items.Goals as goal

pub returns-in_err-item-clause-reads : goal.returns-in_err-item-clause-reads
returns-in_err-item-clause-reads g c =
    let r = err_from_is_err_and c.from_residual.result c.from_residual.ensures.1 in
    rw (r.1, r.2)
    (refused (g.row.N - length c.loop-item.items) (g.T.Item.item_at c.args.given) c.loop-item.items c.in_err-item.field-0.0 c.loop-item.lines c.read.new.lines _ c.in_err-item.ensures c.loop-item.invariant)

pub returns-in_err-map_err-clause-reads : goal.returns-in_err-map_err-clause-reads
returns-in_err-map_err-clause-reads g c =
    let r = err_from_is_err_and c.from_residual-in_err-map_err.result c.from_residual-in_err-map_err.ensures.1 in
    let k = c.in_err-map_err.ensures.cases in
    let why : c.in_err-map_err.field-0.0 ≡ refusal TooMany c.loop-item.lines.1 = search rules in
    rw (r.1, r.2, why)
    (surplus g.row.N (g.T.Item.item_at c.args.given) c.loop-item.items c.push.new.self c.in_ok-item.item c.loop-item.lines c.read.new.lines c.push.result _ (record {}) c.in_ok-item.ensures c.push.ensures.pushes (search rules) c.loop-item.invariant)

pub returns-then-not-more-clause-reads : goal.returns-then-not-more-clause-reads
returns-then-not-more-clause-reads g c =
    stopped g.row.N (g.T.Item.item_at c.args.given) c.loop-item.items c.push.new.self c.in_ok-item.item c.loop-item.lines c.read.new.lines c.push.result _ c.in_ok-item.ensures c.push.ensures.pushes (search rules) c.if-not-more.ensures c.loop-item.invariant
