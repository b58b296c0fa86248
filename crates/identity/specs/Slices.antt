-- A slice's identity, and how it is written.
use Rattle.std.specs.Prelude.{ℕ, ◌+◌, ◌-◌, ◌*◌, cond, ◌&&◌, List, length, Some, None, Option, ◌==◌, slice_index}
use Rattle.std.proofs.Math.Decide.{dec_lt}
use Rattle.identity.specs.Chains.{given, provided}
use Rattle.identity.specs.Classes.{class_of}
use Rattle.identity.specs.declared.snssai.Snssai.{Snssai}

-- the slice of a type and a differentiator, where that has 24 bits
unfoldable pub snssai : ℕ → ℕ → Option Snssai
snssai type mark = provided (dec_lt mark 16777216) (λ h. Some (record { sst = type; sd = mark; bits = h }))

-- an upper-case hexadecimal digit
abbrev pub nibble_of : ℕ → Option ℕ
nibble_of b = cond (class_of b == 1) (Some (b - 48)) (cond (class_of b == 2) (Some (b - 55)) None)

-- two of them
abbrev pub octet_of : ℕ → ℕ → Option ℕ
octet_of a b = given (nibble_of a) (λ high. given (nibble_of b) (λ low. Some (high * 16 + low)))

abbrev pub octet_at : List ℕ → ℕ → Option ℕ
octet_at bs i = octet_of (slice_index bs i) (slice_index bs (i + 1))

-- two digits: the differentiator is not given
abbrev pub short_form : List ℕ → Option Snssai
short_form bs = given (octet_at bs 0) (λ type. snssai type 16777215)

-- two digits, and six after the hyphen
abbrev pub long_form : List ℕ → Option Snssai
long_form bs =
    given (octet_at bs 0) (λ type. given (octet_at bs 3) (λ high. given (octet_at bs 5) (λ mid. given (octet_at bs 7) (λ low.
    snssai type (high * 65536 + mid * 256 + low)))))

-- the slice that a value writes
abbrev pub slice_of : List ℕ → Option Snssai
slice_of bs =
    cond (length bs == 2) (short_form bs)
    (cond (length bs == 9 && slice_index bs 2 == 45) (long_form bs) None)
