use Rattle.std.proofs.Common.{refl, arith}
use Rattle.store.specs.Orders.{below}
use Rattle.store.proofs.Answers.{put_held, put_new, put_refused}
use Rattle.store.proofs.Keys.{key_order}
use Rattle.rows.specs.Cells.{cell_count}
use Rattle.rows.specs.LooseRows.{sorted, few}
use Rattle.rows.proofs.Loose.{missing_found, full, spot_held, value_set, entry_pushed}
use Rattle.rows.proofs.loose_row.LooseRowStore.put.Goals as goal

pub invariant_of-self : goal.invariant_of-self
invariant_of-self g c =
    let o = key_order g.met.K.Ord.total g.met.K.Key.one in
    let s = c.args.self.now in
    record { distinct = (value_set o s.cells.items c.set.new.self.items c.args.key s.distinct c.in-Some.place c.args.value c.in-Some.ensures (grind arith)).0 }

pub invariant_of-self-in-None-2 : goal.invariant_of-self-in-None-2
invariant_of-self-in-None-2 g c =
    let o = key_order g.met.K.Ord.total g.met.K.Key.one in
    let s = c.args.self.now in
    record { distinct = (entry_pushed o s.cells.items c.push.new.self.items c.args.key s.distinct c.args.value c.in-None.ensures c.push.ensures.items).0 }

pub returns-in-None-clause-puts : goal.returns-in-None-clause-puts
returns-in-None-clause-puts g c =
    let o = key_order g.met.K.Ord.total g.met.K.Key.one in
    let s = c.args.self.now in
    let es = sorted (below g.K.Ord.cmp) s.cells.items in
    let n = full o s.cells.items s.distinct in
    put_refused (below g.K.Ord.cmp) es es c.args.key (cell_count s.cells) c.args.value c.at.result (missing_found (below g.K.Ord.cmp) es c.args.key c.in-None.ensures) (grind arith) c.at.ensures refl

pub returns-in-Some-clause-puts : goal.returns-in-Some-clause-puts
returns-in-Some-clause-puts g c =
    let o = key_order g.met.K.Ord.total g.met.K.Key.one in
    let s = c.args.self.now in
    let es = sorted (below g.K.Ord.cmp) s.cells.items in
    let r = value_set o s.cells.items c.set.new.self.items c.args.key s.distinct c.in-Some.place c.args.value c.in-Some.ensures (grind arith) in
    put_held (below g.K.Ord.cmp) es _ c.args.key (cell_count s.cells) c.args.value (spot_held o s.cells.items c.set.new.self.items c.args.key s.distinct c.in-Some.place c.in-Some.ensures) r.1

pub returns-in-None-2-clause-puts : goal.returns-in-None-2-clause-puts
returns-in-None-2-clause-puts g c =
    let o = key_order g.met.K.Ord.total g.met.K.Key.one in
    let s = c.args.self.now in
    let es = sorted (below g.K.Ord.cmp) s.cells.items in
    let r = entry_pushed o s.cells.items c.push.new.self.items c.args.key s.distinct c.args.value c.in-None.ensures c.push.ensures.items in
    let n = few o s.cells.items in
    put_new (below g.K.Ord.cmp) es _ c.args.key (cell_count s.cells) c.args.value (grind arith) r.1
