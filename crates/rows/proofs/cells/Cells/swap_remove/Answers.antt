use Rattle.std.proofs.Common.{ap, arith, length-take}
use Rattle.rows.proofs.Shifts.{filled}
use Rattle.rows.proofs.cells.Cells.swap_remove.Goals as goal

pub returns-clause-items : goal.returns-clause-items
returns-clause-items g c = λ d.
    let f = c.self.inside in
    let held = ap (λ f. f.items) c.self.view_is in
    let u = filled f.cells.now c.args.index f.used c.index-self-last.result d in
    grind (arith, length-take)
