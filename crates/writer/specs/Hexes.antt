-- A slice's long form.
use Rattle.std.specs.Prelude.{ℕ, ◌+◌, ◌/◌, ◌%◌, cond, List, [], ◌∷◌, ◌++◌, nat_lt}
use Rattle.identity.specs.declared.snssai.Snssai.{Snssai}

-- an upper-case hexadecimal digit
abbrev pub hex_of : ℕ → ℕ
hex_of n = cond (nat_lt n 10) (48 + n) (55 + n)

-- the two digits of an octet
abbrev pub octet_text : ℕ → List ℕ
octet_text n = hex_of (n / 16) ∷ hex_of (n % 16) ∷ []

-- the octet of the type, a hyphen and the three octets of the differentiator
abbrev pub long_text : Snssai → List ℕ
long_text s = octet_text s.sst ++ 45 ∷ [] ++ octet_text (s.sd / 65536) ++ octet_text (s.sd / 256 % 256) ++ octet_text (s.sd % 256)
