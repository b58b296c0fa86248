use Rattle.store.specs.Orders.{below}
use Rattle.store.proofs.Walks.{Met, ahead}
use Rattle.store.proofs.walk.keys_from.Given as goal

abbrev pub invariant-loop-met : goal.invariant-loop-met
invariant-loop-met g l =
    let left = ahead (below g.S.Key.Ord.cmp) (g.S.Store.entries l.store) in
    Met (left l.initial.next) l.initial.place-items (left l.next) l.place-items l.met
