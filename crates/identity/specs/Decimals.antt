-- A whole number in decimal digits.
use Rattle.std.specs.Prelude.{ℕ, ◌+◌, ◌-◌, ◌*◌, Bool, true, false, cond, not, ◌&&◌, List, [], ◌∷◌, Some, None, Option, ◌==◌, nat_le}
use Rattle.identity.specs.Classes.{class_of}

abbrev pub digit? : ℕ → Bool
digit? b = class_of b == 1

abbrev pub digit_of : ℕ → Option ℕ
digit_of b = cond (digit? b) (Some (b - 48)) None

-- digits alone
abbrev pub digits? : List ℕ → Bool
digits? [] = true
digits? (b ∷ bs) = digit? b && digits? bs

-- the number that digits write after the number n
abbrev pub value_after : ℕ → List ℕ → ℕ
value_after n [] = n
value_after n (b ∷ bs) = value_after (n * 10 + (b - 48)) bs

-- the number that digits write
abbrev pub value : List ℕ → ℕ
value bs = value_after 0 bs

abbrev pub digits_after : ℕ → ℕ → List ℕ → Option ℕ
digits_after n most bs = cond (digits? bs && nat_le (value_after n bs) most) (Some (value_after n bs)) None

-- digits alone that write at most the number most
abbrev pub digits_of : ℕ → List ℕ → Option ℕ
digits_of most bs = digits_after 0 most bs

-- at least one byte, and no leading 0 before another
abbrev pub plain? : List ℕ → Bool
plain? [] = false
plain? (b ∷ []) = true
plain? (b ∷ c ∷ bs) = not (b == 48)

-- a lawful number of at most so much
abbrev pub decimal_of : ℕ → List ℕ → Option ℕ
decimal_of most bs = cond (plain? bs) (digits_of most bs) None
