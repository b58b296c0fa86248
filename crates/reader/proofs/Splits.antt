-- The first line of a text, taken off.
use Rattle.std.proofs.Common.{◌≡◌, ℕ, suc, ◌+◌, ◌-◌, ◌<◌, ◌==◌, List, length, take, drop, Some, None, Option, ap, ◌∙◌, add-one, arith}
use Rattle.std.proofs.lemmas.List.{take_rest}
use Rattle.std.proofs.lemmas.Bool.Decides.{nat_tests}
use Rattle.std.specs.List.{position}
use Rattle.identity.specs.Prefixes.{after}
use Rattle.identity.specs.Chains.{given}
use Rattle.reader.specs.Lines.{end_of_line, first_line, after_line, value_and_rest}

-- where the first line feed stands
abbrev pub feed : List ℕ → Option ℕ
feed text = position (λ b. b == 10) text

pub no_feed : (key text : List ℕ) → feed text ≡ None → None ≡ value_and_rest key text
no_feed key text e = grind (arith, nat_tests)

-- the first line, up to its feed
pub line_before : (text : List ℕ) (n : ℕ) → feed text ≡ Some n → (n < length text) × (n ≡ end_of_line text) × (first_line text ≡ Some (take n text))
line_before text n e = grind (arith, nat_tests)

-- its value
pub value_before : (key text : List ℕ) (n : ℕ) → feed text ≡ Some n → value_and_rest key text ≡ given (after key (take n text)) (λ v. Some (v, after_line text))
value_before key text n e = ap (λ o. given (given o (after key)) (λ v. Some (v, after_line text))) (line_before text n e).2

-- what follows it
pub rest_after : (text : List ℕ) (n : ℕ) → feed text ≡ Some n → take (length text - (n + 1)) (drop (n + 1) text) ≡ after_line text
rest_after text n e = take_rest text (n + 1) ∙ ap (λ k. drop k text) (add-one n ∙ ap suc (line_before text n e).1)
