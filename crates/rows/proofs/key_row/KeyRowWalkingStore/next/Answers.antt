use Rattle.std.proofs.Common.{◌≡◌, None, Some, arith, rules, tests}
use Rattle.std.specs.Option.{MatchOption}
use Rattle.store.specs.Orders.{below}
use Rattle.store.proofs.Places.{least_place, least_past}
use Rattle.rows.proofs.key_row.KeyRowWalkingStore.next.Goals as goal

pub returns : goal.returns
returns g c =
    let said : MatchOption c.get.result (c.map.result ≡ None) (λ x. c.map.result ≡ Some x.now.key) = search (rules, tests) in
    let p = least_place (below g.K.Ord.cmp) c.args.self.now.cells.items c.args.from.now in
    let q = least_past (below g.K.Ord.cmp) c.args.self.now.cells.items c.args.from.now in
    grind arith
