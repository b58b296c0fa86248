-- What one turn of the reading of digits keeps.
use Rattle.std.proofs.Common.{◌≡◌, ℕ, ◌+◌, ◌-◌, ◌*◌, ◌<◌, ◌≤◌, List, [], ◌∷◌, length, get_or, drop, Some, None, ◌∙◌, arith}
use Rattle.std.proofs.lemmas.List.{at_drop_more}
use Rattle.std.proofs.lemmas.Bool.{lt-leb, and_right, cond-false}
use Rattle.identity.specs.Decimals.{digits?, digit_of, value_after, digits_after}

grows : (n : ℕ) (bs : List ℕ) → n ≤ value_after n bs
grows n [] = omega arith
grows n (b ∷ bs) = omega (arith, grows (n * 10 + (b - 48)) bs)

-- past the most, whatever follows
big : (n most : ℕ) (bs : List ℕ) → most < n → digits_after n most bs ≡ None
big n most bs h = cond-false _ _ _ (and_right (digits? bs) _ (lt-leb (value_after n bs) most (omega (arith, grows n bs))))

on_digit : (n most b : ℕ) (bs : List ℕ) (d : ℕ) → digit_of b ≡ Some d → digits_after n most (b ∷ bs) ≡ digits_after (n * 10 + d) most bs
on_digit n most b bs d e = grind arith

step : (n most : ℕ) (xs : List ℕ) (i d : ℕ) → i < length xs → digit_of (get_or xs i 0) ≡ Some d → digits_after n most (drop i xs) ≡ digits_after (n * 10 + d) most (drop (i + 1) xs)
step n most xs i d h e = at_drop_more (digits_after n most) xs i 0 h ∙ on_digit n most (get_or xs i 0) (drop (i + 1) xs) d e

pub past : (n most : ℕ) (xs : List ℕ) (i d : ℕ) → i < length xs → digit_of (get_or xs i 0) ≡ Some d → most < n * 10 + d → digits_after n most (drop i xs) ≡ None
past n most xs i d h e l = step n most xs i d h e ∙ big (n * 10 + d) most (drop (i + 1) xs) l
