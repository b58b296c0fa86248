use Rattle.std.proofs.Common.{ap, arith, length-take}
use Rattle.rows.proofs.Shifts.{shifted_down}
use Rattle.rows.proofs.cells.Cells.remove.Goals as goal

pub returns-clause-items : goal.returns-clause-items
returns-clause-items g c =
    let f = c.self.inside in
    let held = ap (λ f. f.items) c.self.view_is in
    let u = shifted_down f.cells.now c.args.index f.used in
    grind (arith, length-take)
