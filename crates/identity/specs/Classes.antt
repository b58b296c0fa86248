-- The class of a byte: 1 for a decimal digit, 2 for a letter A to F, 0 for every other byte.
use Rattle.std.specs.Prelude.{ℕ, Bool, cond, ◌&&◌, nat_le}
use Rattle.identity.specs.declared.class.Class.{Class}
use Rattle.identity.specs.declared.class.Class.TheVariants.{Other, Digit, Letter}

-- the number of each class
abbrev pub class_number : Class → ℕ
class_number Other = 0
class_number Digit = 1
class_number Letter = 2

abbrev pub between? : ℕ → ℕ → ℕ → Bool
between? low high b = nat_le low b && nat_le b high

abbrev pub class_of : ℕ → ℕ
class_of b = cond (between? 48 57 b) 1 (cond (between? 65 70 b) 2 0)
