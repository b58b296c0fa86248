-- Slice lines, one after the other.
use Rattle.std.proofs.Common.{◌≡◌, ℕ, ◌+◌, ◌<◌, List, ◌∷◌, ◌++◌, length, get_or, drop, sym, ap, ◌∙◌, append_assoc}
use Rattle.std.proofs.lemmas.List.{at_drop_more}
use Rattle.identity.specs.declared.snssai.Snssai.{Snssai}
use Rattle.writer.specs.Texts.{text_of_slice}
use Rattle.checker.specs.Reports.{slice_lines_text}

-- with the line of one more slice, and those of the slices after it, the lines are still the same
pub one_more : (slices : List Snssai) (i : ℕ) (s : Snssai) (lines more all : List ℕ) → i < length slices → s ≡ get_or slices i s → more ≡ lines ++ text_of_slice s → lines ++ slice_lines_text (drop i slices) ≡ all → more ++ slice_lines_text (drop (i + 1) slices) ≡ all
one_more slices i s lines more all h at e inv =
    let rest = slice_lines_text (drop (i + 1) slices) in
    ap (λ l. l ++ rest) e ∙ append_assoc lines (text_of_slice s) rest ∙ ap (λ x. lines ++ slice_lines_text (x ∷ drop (i + 1) slices)) at
    ∙ sym (at_drop_more (λ l. lines ++ slice_lines_text l) slices i s h) ∙ inv
