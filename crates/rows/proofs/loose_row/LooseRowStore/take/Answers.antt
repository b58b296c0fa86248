use Rattle.std.proofs.Common.{true, false, sym}
use Rattle.store.specs.Orders.{below}
use Rattle.store.proofs.Answers.{took}
use Rattle.store.proofs.Places.{removing-missing}
use Rattle.store.proofs.Keys.{key_order}
use Rattle.rows.specs.LooseRows.{sorted}
use Rattle.rows.proofs.Loose.{missing_found, spot_held, gap_filled}
use Rattle.rows.proofs.loose_row.LooseRowStore.take.Goals as goal

pub returns-in_default-clause-takes : goal.returns-in_default-clause-takes
returns-in_default-clause-takes g c =
    let es = sorted (below g.K.Ord.cmp) c.args.self.now.cells.items in
    let k = c.args.key.now in
    let m = missing_found (below g.K.Ord.cmp) es k c.in_default.ensures in
    took (below g.K.Ord.cmp) es es k false m (sym (removing-missing (below g.K.Ord.cmp) es k m))

pub invariant_of-self : goal.invariant_of-self
invariant_of-self g c =
    let o = key_order g.met.K.Ord.total g.met.K.Key.one in
    let s = c.args.self.now in
    record { distinct = (gap_filled o s.cells.items c.swap_remove.new.self.items c.args.key.now s.distinct c.in-Some.place c.in-Some.ensures c.swap_remove.ensures.items).0 }

pub returns-clause-takes : goal.returns-clause-takes
returns-clause-takes g c =
    let o = key_order g.met.K.Ord.total g.met.K.Key.one in
    let s = c.args.self.now in
    let es = sorted (below g.K.Ord.cmp) s.cells.items in
    let k = c.args.key.now in
    let fs = c.swap_remove.new.self.items in
    let h = spot_held o s.cells.items fs k s.distinct c.in-Some.place c.in-Some.ensures in
    let r = gap_filled o s.cells.items fs k s.distinct c.in-Some.place c.in-Some.ensures c.swap_remove.ensures.items in
    took (below g.K.Ord.cmp) es _ k true h r.1
