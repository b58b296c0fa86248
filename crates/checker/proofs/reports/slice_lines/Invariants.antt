use Rattle.std.proofs.Common.{◌≡◌, ◌*◌, ◌++◌, length, drop}
use Rattle.checker.specs.Reports.{slice_lines_text}
use Rattle.checker.proofs.reports.slice_lines.Given as goal

abbrev pub invariant-loop-slice : goal.invariant-loop-slice
invariant-loop-slice l = (l.lines.bytes ++ slice_lines_text (drop l.slice-index l.slices) ≡ slice_lines_text l.slices) × (length l.lines.bytes ≡ 16 * l.slice-index)
