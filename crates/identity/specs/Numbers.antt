-- The plain numbers that name an NF or a PDU session, and how they are written.
use Rattle.std.specs.Prelude.{ℕ, List, Some, Option}
use Rattle.std.proofs.Math.Decide.{dec_lt}
use Rattle.identity.specs.Chains.{given, provided}
use Rattle.identity.specs.Decimals.{decimal_of}
use Rattle.identity.specs.declared.number.NfNumber.{NfNumber}
use Rattle.identity.specs.declared.number.SessionId.{SessionId}

-- the NF of a number, where that is in range
unfoldable pub nf : ℕ → Option NfNumber
nf n = provided (dec_lt n 65536) (λ h. Some (record { number = n; range = h }))

-- the PDU session of a number, where that is in range
unfoldable pub session : ℕ → Option SessionId
session n = provided (dec_lt n 256) (λ h. Some (record { number = n; range = h }))

-- what a value writes
abbrev pub nf_of : List ℕ → Option NfNumber
nf_of bs = given (decimal_of 65535 bs) nf

abbrev pub session_of : List ℕ → Option SessionId
session_of bs = given (decimal_of 255 bs) session
