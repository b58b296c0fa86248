use Rattle.std.proofs.Common.{arith}
use Rattle.store.specs.Orders.{below}
use Rattle.store.proofs.Places.{holds_past, place_most}
use Rattle.rows.proofs.KeyRows.{held_there}
use Rattle.rows.proofs.key_row.KeyRow.seek.Goals as goal

pub returns-in-Some : goal.returns-in-Some
returns-in-Some g c =
    let h = held_there g.met.K.Ord.total c.args.self.now.cells.items c.args.key.now c.in-Some.entry.now in
    let e = g.met.K.Ord.matches_eq c.in-Some.entry.now.key c.args.key.now in
    grind (arith, c.in-Some.ensures)

pub returns-in_default : goal.returns-in_default
returns-in_default g c =
    let h = held_there g.met.K.Ord.total c.args.self.now.cells.items c.args.key.now c.in-Some.entry.now in
    let e = g.met.K.Ord.matches_eq c.in-Some.entry.now.key c.args.key.now in
    grind (arith, c.in-Some.ensures)

pub returns-in_default-2 : goal.returns-in_default-2
returns-in_default-2 g c =
    let es = c.args.self.now.cells.items in
    let h = holds_past (below g.K.Ord.cmp) es c.args.key.now in
    let m = place_most (below g.K.Ord.cmp) es c.args.key.now in
    grind arith
