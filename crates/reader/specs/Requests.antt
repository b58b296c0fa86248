-- A request's text, line by line.
use Rattle.std.specs.Prelude.{ℕ, List, [], codes, Option, Result}
use Rattle.refusal.specs.declared.Refusal.{Refusal}
use Rattle.identity.specs.declared.snssai.Snssai.{Snssai}
use Rattle.identity.specs.declared.supi.Supi.{Supi}
use Rattle.identity.specs.Decimals.{decimal_of}
use Rattle.identity.specs.Slices.{slice_of}
use Rattle.identity.specs.Subscribers.{supi_of}
use Rattle.identity.specs.Words.{access_of}
use Rattle.reader.specs.declared.request.Call.{Call}
use Rattle.reader.specs.declared.request.Call.TheVariants as call
use Rattle.reader.specs.declared.request.Request.{Request}
use Rattle.reader.specs.declared.words.Operation.{Operation}
use Rattle.reader.specs.declared.words.Operation.TheVariants.{Ue, Pdu}
use Rattle.reader.specs.Readings.{Reading, and_then, gives, field_at, at_most_at}
use Rattle.reader.specs.Words.{operation_of, ue_flag_of, pdu_flag_of}

-- the lines of a call after its operation: a flag, a UE, and a number under a key of its own
abbrev pub call_lines_at : {F N : Type 0} → (List ℕ → Option F) → List ℕ → (List ℕ → Option N) → Reading (F × Supi × N)
call_lines_at flag_of key number_of =
    and_then (field_at (codes "flag=") flag_of) (λ flag.
    and_then (field_at (codes "ue=") supi_of) (λ ue.
    and_then (field_at key number_of) (λ n.
    gives (flag, ue, n))))

-- a registration names its AMF
abbrev pub ue_call_at : Reading (Call × Supi)
ue_call_at = and_then (call_lines_at ue_flag_of (codes "nf=") (decimal_of 65535)) (λ c. gives (call.Ue c.0 c.2, c.1))

-- a PDU session has its ID
abbrev pub pdu_call_at : Reading (Call × Supi)
pdu_call_at = and_then (call_lines_at pdu_flag_of (codes "session=") (decimal_of 255)) (λ c. gives (call.Pdu c.0 c.2, c.1))

abbrev pub call_of : Operation → Reading (Call × Supi)
call_of Ue = ue_call_at
call_of Pdu = pdu_call_at

-- what is asked, and for which UE
unfoldable pub call_at : Reading (Call × Supi)
call_at = and_then (field_at (codes "op=") operation_of) call_of

-- a slice, on a line of its own
abbrev pub slice_at : List Snssai → Reading Snssai
slice_at before = field_at (codes "slice=") slice_of

-- at most eight slices
unfoldable pub slices_at : Reading (List Snssai)
slices_at = at_most_at 8 slice_at []

-- a whole request
abbrev pub request_at : Reading Request
request_at =
    and_then call_at (λ c.
    and_then (field_at (codes "access=") access_of) (λ a.
    and_then slices_at (λ ss.
    gives (record { call = c.0; ue = c.1; access = a; slices = ss }))))

-- what a request's text says, or why and at which line it is refused
unfoldable pub request_of : List ℕ → Result Request Refusal
request_of text = (request_at (text, 1)).0
