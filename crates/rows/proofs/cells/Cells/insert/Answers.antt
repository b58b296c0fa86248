use Rattle.std.proofs.Common.{ap, arith, length-take}
use Rattle.rows.proofs.Shifts.{shifted_up}
use Rattle.rows.proofs.cells.Cells.insert.Goals as goal

pub returns-clause-items : goal.returns-clause-items
returns-clause-items g c =
    let f = c.self.inside in
    let held = ap (λ f. f.items) c.self.view_is in
    let room = ap (λ f. f.free) c.self.view_is in
    let u = shifted_up f.cells.now c.args.index f.used c.args.item in
    grind (arith, length-take)
