use Rattle.std.proofs.Common.{true, false, sym}
use Rattle.store.specs.Orders.{below}
use Rattle.store.proofs.Answers.{took}
use Rattle.store.proofs.Places.{removing-missing}
use Rattle.store.proofs.Keys.{key_order}
use Rattle.rows.proofs.KeyRows.{removed}
use Rattle.rows.proofs.key_row.KeyRowStore.take.Goals as goal

pub returns-in_default-clause-takes : goal.returns-in_default-clause-takes
returns-in_default-clause-takes g c =
    let es = c.args.self.now.cells.items in
    let k = c.args.key.now in
    let m = c.in_default.ensures.1 in
    took (below g.K.Ord.cmp) es es k false m (sym (removing-missing (below g.K.Ord.cmp) es k m))

pub invariant_of-self : goal.invariant_of-self
invariant_of-self g c =
    let o = key_order g.met.K.Ord.total g.met.K.Key.one in
    let s = c.args.self.now in
    record { ascends = (removed o s.cells.items c.remove.new.self.items c.args.key.now c.in-Ok.place s.ascends c.in-Ok.ensures c.remove.ensures.items).0 }

pub returns-clause-takes : goal.returns-clause-takes
returns-clause-takes g c =
    let o = key_order g.met.K.Ord.total g.met.K.Key.one in
    let s = c.args.self.now in
    let r = removed o s.cells.items c.remove.new.self.items c.args.key.now c.in-Ok.place s.ascends c.in-Ok.ensures c.remove.ensures.items in
    took (below g.K.Ord.cmp) s.cells.items c.remove.new.self.items c.args.key.now true c.in-Ok.ensures.1 r.1
