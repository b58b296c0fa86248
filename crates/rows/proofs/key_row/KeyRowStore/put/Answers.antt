use Rattle.std.proofs.Common.{arith}
use Rattle.store.proofs.Answers.{put_held, put_new}
use Rattle.store.proofs.Keys.{key_order}
use Rattle.rows.specs.Cells.{cell_count}
use Rattle.store.specs.Orders.{below}
use Rattle.rows.proofs.KeyRows.{replaced, inserted}
use Rattle.rows.proofs.key_row.KeyRowStore.put.Goals as goal

pub invariant_of-self : goal.invariant_of-self
invariant_of-self g c =
    let o = key_order g.met.K.Ord.total g.met.K.Key.one in
    let s = c.args.self.now in
    record { ascends = (replaced o s.cells.items c.set.new.self.items c.args.key c.in-Ok.place s.ascends c.args.value c.in-Ok.ensures (grind arith)).0 }

pub invariant_of-self-in-Err-2 : goal.invariant_of-self-in-Err-2
invariant_of-self-in-Err-2 g c =
    let o = key_order g.met.K.Ord.total g.met.K.Key.one in
    let s = c.args.self.now in
    record { ascends = (inserted o s.cells.items c.insert.new.self.items c.args.key c.in-Err.field-0 s.ascends c.args.value c.in-Err.ensures c.insert.ensures.items).0 }

pub returns-in-Ok-clause-puts : goal.returns-in-Ok-clause-puts
returns-in-Ok-clause-puts g c =
    let o = key_order g.met.K.Ord.total g.met.K.Key.one in
    let s = c.args.self.now in
    let r = replaced o s.cells.items c.set.new.self.items c.args.key c.in-Ok.place s.ascends c.args.value c.in-Ok.ensures (grind arith) in
    put_held (below g.K.Ord.cmp) s.cells.items c.set.new.self.items c.args.key (cell_count s.cells) c.args.value c.in-Ok.ensures.1 r.1

pub returns-in-Err-2-clause-puts : goal.returns-in-Err-2-clause-puts
returns-in-Err-2-clause-puts g c =
    let o = key_order g.met.K.Ord.total g.met.K.Key.one in
    let s = c.args.self.now in
    let r = inserted o s.cells.items c.insert.new.self.items c.args.key c.in-Err.field-0 s.ascends c.args.value c.in-Err.ensures c.insert.ensures.items in
    put_new (below g.K.Ord.cmp) s.cells.items c.insert.new.self.items c.args.key (cell_count s.cells) c.args.value (grind arith) r.1
