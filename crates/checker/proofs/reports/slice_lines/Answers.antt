use Rattle.std.proofs.Common.{◌++◌, ap, ◌∙◌, arith}
use Rattle.std.proofs.lemmas.Grind.{common_steps}
use Rattle.checker.proofs.Rows.{one_more}
use Rattle.checker.proofs.reports.slice_lines.Goals as goal

pub loop-slice-preserved : goal.loop-slice-preserved
loop-slice-preserved c =
    let lines = c.loop-slice.lines.bytes in
    let more = c.push_str.ensures.bytes ∙ ap (λ t. lines ++ t) (c.as_str.ensures.value ∙ c.text.ensures) in
    (one_more c.args.slices.now c.loop-slice.slice-index c.slice-item.result lines c.push_str.new.self.bytes _ c.loop-slice-test.true c.slice-item.is more c.loop-slice.invariant.0, grind (arith, common_steps))
