-- The refusals that fit a request's text.
use Rattle.std.specs.Prelude.{◌≡◌, ℕ, ◌-◌, ◌<◌, ◌≤◌, true, false, ◌⊎◌, List, [], ◌∷◌, Some, None, codes, Option, slice_index_or}
use Rattle.refusal.specs.declared.Reason.TheVariants.{MissingKey, UnlawfulValue, TooMany}
use Rattle.refusal.specs.declared.Refusal.{Refusal}
use Rattle.refusal.specs.Refusals.{refusal}
use Rattle.identity.specs.Chains.{given}
use Rattle.identity.specs.Decimals.{decimal_of}
use Rattle.identity.specs.Slices.{slice_of}
use Rattle.identity.specs.Subscribers.{supi_of}
use Rattle.identity.specs.Words.{access_of}
use Rattle.reader.specs.declared.words.Operation.{Operation}
use Rattle.reader.specs.declared.words.Operation.TheVariants.{Ue, Pdu}
use Rattle.reader.specs.Faults.{goes_on, value_on, Rule, rule}
use Rattle.reader.specs.Words.{operation_of, ue_flag_of, pdu_flag_of}

-- what the first line asks for
abbrev pub operation_in : List ℕ → Option Operation
operation_in text = given (value_on (codes "op=") text 1) operation_of

abbrev pub flag_rule : Option Operation → Rule
flag_rule None = rule (codes "flag=") ue_flag_of
flag_rule (Some Ue) = rule (codes "flag=") ue_flag_of
flag_rule (Some Pdu) = rule (codes "flag=") pdu_flag_of

abbrev pub consumer_rule : Option Operation → Rule
consumer_rule None = rule (codes "nf=") (decimal_of 65535)
consumer_rule (Some Ue) = rule (codes "nf=") (decimal_of 65535)
consumer_rule (Some Pdu) = rule (codes "session=") (decimal_of 255)

abbrev pub slice_rule : Rule
slice_rule = rule (codes "slice=") slice_of

-- five lines, each with its own key; every line after them is a slice
abbrev pub head_rules : Option Operation → List Rule
head_rules op =
    rule (codes "op=") operation_of ∷ flag_rule op ∷ rule (codes "ue=") supi_of ∷ consumer_rule op ∷ rule (codes "access=") access_of ∷ []

-- what is due on line n, from 1
abbrev pub rule_on : List ℕ → ℕ → Rule
rule_on text n = slice_index_or (head_rules (operation_in text)) (n - 1) slice_rule

-- a line must stand there: the head and one slice, and whatever the text goes on with
abbrev pub Due : List ℕ → ℕ → Type 0
Due text n = (0 < n) × ((n ≤ 6) ⊎ (goes_on text (n - 1) ≡ true))

pub data RequestFault (text : List ℕ) : Refusal → Type 0 where
  missing : {n : ℕ} → Due text n → value_on (rule_on text n).key text n ≡ None → RequestFault text (refusal MissingKey n)
  unlawful : {n : ℕ} {v : List ℕ} → value_on (rule_on text n).key text n ≡ Some v → (rule_on text n).lawful v ≡ false → RequestFault text (refusal UnlawfulValue n)
  surplus : {n : ℕ} {v : List ℕ} → 13 < n → value_on (codes "slice=") text n ≡ Some v → RequestFault text (refusal TooMany n)
