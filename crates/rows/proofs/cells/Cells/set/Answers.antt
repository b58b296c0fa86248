use Rattle.std.proofs.Common.{ap, arith, length-take}
use lib.Seq.{take-set-lt}
use Rattle.rows.proofs.cells.Cells.set.Goals as goal

pub returns-clause-items : goal.returns-clause-items
returns-clause-items g c =
    let f = c.self.inside in
    let held = ap (λ f. f.items) c.self.view_is in
    let u = take-set-lt f.used f.cells.now c.args.index c.args.item in
    grind (arith, length-take)
