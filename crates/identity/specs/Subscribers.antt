-- A UE's identity, and how it is written.
use Rattle.std.specs.Prelude.{ℕ, ◌^◌, cond, ◌&&◌, List, length, Some, None, codes, Option, nat_le}
use Rattle.std.proofs.Math.Decide.{dec_le, dec_lt}
use Rattle.identity.specs.Chains.{given, provided}
use Rattle.identity.specs.Decimals.{digits?, value}
use Rattle.identity.specs.Prefixes.{after}
use Rattle.identity.specs.declared.supi.Supi.{Supi}

-- the UE whose IMSI has so many digits and this value, where they are 5 to 15 and can write it
unfoldable pub supi : ℕ → ℕ → Option Supi
supi count number =
    provided (dec_le 5 count) (λ l. provided (dec_le count 15) (λ m. provided (dec_lt number (10 ^ count)) (λ f.
    Some (record { digits = count; value = number; least = l; most = m; fits = f }))))

-- the UE of an IMSI: 5 to 15 digits
abbrev pub imsi_of : List ℕ → Option Supi
imsi_of bs = cond (nat_le 5 (length bs) && nat_le (length bs) 15 && digits? bs) (supi (length bs) (value bs)) None

-- the UE that a value writes
abbrev pub supi_of : List ℕ → Option Supi
supi_of bs = given (after (codes "imsi-") bs) imsi_of
