-- Cutting by the scan for the first empty line.
use Rattle.std.proofs.Common.{◌≡◌, ℕ, suc, ◌+◌, ◌-◌, ◌<◌, ◌≤◌, min, Bool, true, cond, ◌&&◌, eqb, List, [], ◌∷◌, ◌++◌, length, get_or, take, drop, ltb, Some, None, Option, refl, sym, ap, ◌∙◌, append_assoc, append-nil, arith, length-append}
use Rattle.std.proofs.lemmas.Bool.Decides.{nat_tests}
use Rattle.std.proofs.lemmas.Grind.{common_steps}
use Rattle.std.proofs.lemmas.List.{drop_min, take_all, take_rest}
use Rattle.std.proofs.lemmas.Slice.Zip.{length-zip}
use Rattle.std.specs.List.{zip, position_or_len}
use Rattle.std.specs.Option.{MatchOption}
use Rattle.checker.specs.Pieces.{cut, pieces_of, up_to}

-- the first piece ends where the scan does, and the others begin after that line feed
scan : (fresh : Bool) (piece bs : List ℕ) → 0 < length piece + length bs → cut fresh piece bs ≡ (piece ++ take (up_to fresh bs) bs) ∷ pieces_of (drop (suc (up_to fresh bs)) bs)
scan fresh piece [] some = grind (arith, nat_tests, append-nil)
scan fresh piece (b ∷ bs) some = grind (arith, nat_tests, append-nil, append_assoc, length-append, scan (eqb b 10) (piece ++ b ∷ []) bs)

-- the same, with the parts of the input as the code takes them
pub next_piece : (bs : List ℕ) (n a : ℕ) → n ≡ up_to true bs → a ≡ min (n + 1) (length bs) → 0 < length bs → pieces_of bs ≡ take n bs ∷ pieces_of (take (length bs - a) (drop a bs))
next_piece bs n a e after some =
    let rest = sym (drop_min (n + 1) bs) ∙ ap (λ k. drop k bs) (sym after) ∙ sym (take_rest bs a) in
    grind (arith, scan true [] bs (omega arith), rest)

pub fewer : (all rest : List (List ℕ)) (piece : List ℕ) → all ≡ piece ∷ rest → length rest < length all
fewer all rest piece e = let l = ap length e in omega arith

-- a byte and the one before it: both are line feeds
abbrev pub empty_line? : ℕ × ℕ → Bool
empty_line? p = eqb p.0 10 && eqb p.1 10

paired : (before : ℕ) (bs : List ℕ) → position_or_len empty_line? (zip (before ∷ bs) bs) ≡ up_to (eqb before 10) bs
paired before [] = refl
paired before (b ∷ bs) = grind (arith, nat_tests, paired b bs)

within : (fresh : Bool) (bs : List ℕ) → up_to fresh bs ≤ length bs
within fresh [] = omega arith
within fresh (b ∷ bs) = grind (arith, nat_tests, within (eqb b 10) bs)

-- in a text that does not begin with an empty line, the first one is the second line feed of the first pair
pub first_pair : (text rest : List ℕ) (r : Option ℕ) (n : ℕ) → 1 ≤ length text → (get_or text 0 0 ≡ 10 → ⊥) → rest ≡ take (length text - 1) (drop 1 text) → r ≡ cond (ltb (position_or_len empty_line? (zip text rest)) (length (zip text rest))) (Some (position_or_len empty_line? (zip text rest))) None → MatchOption r (n ≡ length text) (λ i. n ≡ i + 1) → n ≡ up_to true text
first_pair [] rest r n some other is found told = absurd (omega arith)
first_pair (b ∷ bs) rest r n some other is found told =
    let all : rest ≡ bs = is ∙ take_all _ bs (omega arith) in
    let place = paired b bs in
    let most = within (eqb b 10) bs in
    let long : length (zip (b ∷ bs) bs) ≡ length bs = length-zip (b ∷ bs) bs ∙ omega arith in
    let from = rw all at found in
    grind (arith, nat_tests, common_steps)
