-- The refusals that fit a text of settings.
use Rattle.std.specs.Prelude.{◌≡◌, ℕ, zero, suc, ◌+◌, ◌-◌, ◌*◌, ◌/◌, ◌%◌, ◌<◌, ◌≤◌, true, false, ◌⊎◌, List, [], ◌∷◌, Some, None, codes, Option, slice_index_or}
use Rattle.refusal.specs.declared.Reason.TheVariants.{MissingKey, UnlawfulValue, TooMany, SliceTwice, EntriesBelowMax, StoreTooSmall}
use Rattle.refusal.specs.declared.Refusal.{Refusal}
use Rattle.refusal.specs.Refusals.{refusal}
use Rattle.identity.specs.Chains.{given}
use Rattle.identity.specs.Decimals.{decimal_of}
use Rattle.identity.specs.Slices.{slice_of}
use Rattle.identity.specs.declared.snssai.Snssai.{Snssai}
use Rattle.reader.specs.declared.settings.Capacities.{Capacities}
use Rattle.reader.specs.Faults.{goes_on, value_on, Rule, rule}
use Rattle.reader.specs.RequestFaults.{slice_rule}
use Rattle.reader.specs.Words.{counted_of}

-- the five lines of a block
abbrev pub block_rules : List Rule
block_rules =
    slice_rule ∷ rule (codes "ue-max=") (decimal_of 20000) ∷ rule (codes "ue-entries=") (decimal_of 40000)
    ∷ rule (codes "pdu-max=") (decimal_of 40000) ∷ rule (codes "count=") counted_of ∷ []

-- what is due on line n, from 1
abbrev pub rule_on : ℕ → Rule
rule_on n = slice_index_or block_rules ((n - 1) % 5) slice_rule

-- a line must stand there: all of the first block, and of each block that the text goes on with
abbrev pub Due : List ℕ → ℕ → Type 0
Due text n = (0 < n) × ((n ≤ 5) ⊎ (goes_on text (5 * ((n - 1) / 5)) ≡ true))

-- the lines of block b, from 0
abbrev pub slice_line_of : ℕ → ℕ
slice_line_of b = 5 * b + 1

abbrev pub max_line_of : ℕ → ℕ
max_line_of b = 5 * b + 2

abbrev pub entries_line_of : ℕ → ℕ
entries_line_of b = 5 * b + 3

abbrev pub sessions_line_of : ℕ → ℕ
sessions_line_of b = 5 * b + 4

-- what those lines say, where they are lawful
abbrev pub slice_in : List ℕ → ℕ → Option Snssai
slice_in text b = given (value_on (codes "slice=") text (slice_line_of b)) slice_of

abbrev pub max_in : List ℕ → ℕ → Option ℕ
max_in text b = given (value_on (codes "ue-max=") text (max_line_of b)) (decimal_of 20000)

abbrev pub entries_in : List ℕ → ℕ → Option ℕ
entries_in text b = given (value_on (codes "ue-entries=") text (entries_line_of b)) (decimal_of 40000)

abbrev pub sessions_in : List ℕ → ℕ → Option ℕ
sessions_in text b = given (value_on (codes "pdu-max=") text (sessions_line_of b)) (decimal_of 40000)

abbrev pub or_zero : Option ℕ → ℕ
or_zero None = 0
or_zero (Some n) = n

-- the sum of a line's numbers over the first blocks
abbrev pub total : (ℕ → Option ℕ) → ℕ → ℕ
total said zero = 0
total said (suc b) = total said b + or_zero (said b)

pub data SettingsFault (c : Capacities) (text : List ℕ) : Refusal → Type 0 where
  missing : {n : ℕ} → Due text n → value_on (rule_on n).key text n ≡ None → SettingsFault c text (refusal MissingKey n)
  unlawful : {n : ℕ} {v : List ℕ} → value_on (rule_on n).key text n ≡ Some v → (rule_on n).lawful v ≡ false → SettingsFault c text (refusal UnlawfulValue n)
  surplus : (b : ℕ) {v : List ℕ} → 16 ≤ b → value_on (codes "slice=") text (slice_line_of b) ≡ Some v → SettingsFault c text (refusal TooMany (slice_line_of b))
  twice : (a b : ℕ) {s : Snssai} → a < b → slice_in text a ≡ Some s → slice_in text b ≡ Some s → SettingsFault c text (refusal SliceTwice (slice_line_of b))
  below : (b : ℕ) {m n : ℕ} → max_in text b ≡ Some m → entries_in text b ≡ Some n → n < m → SettingsFault c text (refusal EntriesBelowMax (entries_line_of b))
  few-subscriptions : (b : ℕ) {s : Snssai} → slice_in text b ≡ Some s → c.subscriptions < 4 * suc b → SettingsFault c text (refusal StoreTooSmall (slice_line_of b))
  few-entries : (b : ℕ) {n : ℕ} → entries_in text b ≡ Some n → c.ues < total (entries_in text) (suc b) → SettingsFault c text (refusal StoreTooSmall (entries_line_of b))
  few-sessions : (b : ℕ) {n : ℕ} → sessions_in text b ≡ Some n → c.sessions < total (sessions_in text) (suc b) → SettingsFault c text (refusal StoreTooSmall (sessions_line_of b))
