-- The text of settings, line by line.
use Rattle.std.specs.Prelude.{ℕ, suc, ◌+◌, ◌*◌, Bool, cond, ◌&&◌, List, [], length, Some, None, codes, Option, Result, ◌==◌, nat_le, nat_lt}
use Rattle.std.specs.List.{list_any, sum_by}
use Rattle.refusal.specs.declared.Reason.{Reason}
use Rattle.refusal.specs.declared.Reason.TheVariants.{TooMany, SliceTwice, EntriesBelowMax, StoreTooSmall}
use Rattle.refusal.specs.declared.Refusal.{Refusal}
use Rattle.identity.specs.declared.snssai.Snssai.{Snssai}
use Rattle.identity.specs.Slices.{slice_of}
use Rattle.reader.specs.declared.settings.Block.{Block}
use Rattle.reader.specs.declared.settings.Capacities.{Capacities}
use Rattle.reader.specs.declared.settings.Settings.{Settings}
use Rattle.reader.specs.Readings.{Reading, and_then, gives, field_at, number_at, checked, at_most_at}
use Rattle.reader.specs.Words.{counted_of}

abbrev pub same_slice : Snssai → Snssai → Bool
same_slice a b = a.sst == b.sst && a.sd == b.sd

-- a block names the slice
abbrev pub named : Snssai → List Block → Bool
named s bs = list_any (λ b. same_slice b.slice s) bs

-- what blocks reserve in the UE store and in the session store
abbrev pub entries : List Block → ℕ
entries bs = sum_by (λ b. b.ue_entries) bs

abbrev pub sessions : List Block → ℕ
sessions bs = sum_by (λ b. b.pdu_max) bs

-- four subscriptions for each slice
abbrev pub subscriptions : ℕ → ℕ
subscriptions blocks = 4 * blocks

-- why a lawful slice is refused after the blocks that were read
abbrev pub slice_fault : Capacities → List Block → Snssai → Option Reason
slice_fault c bs s =
    cond (nat_le 16 (length bs)) (Some TooMany)
    (cond (named s bs) (Some SliceTwice)
    (cond (nat_lt c.subscriptions (subscriptions (suc (length bs)))) (Some StoreTooSmall) None))

-- why a lawful number of UE entries is refused, where so many are reserved already
abbrev pub entries_fault : ℕ → ℕ → ℕ → ℕ → Option Reason
entries_fault capacity reserved max n =
    cond (nat_lt n max) (Some EntriesBelowMax)
    (cond (nat_lt capacity (reserved + n)) (Some StoreTooSmall) None)

-- why a lawful maximum of sessions is refused
abbrev pub sessions_fault : ℕ → ℕ → ℕ → Option Reason
sessions_fault capacity reserved n = cond (nat_lt capacity (reserved + n)) (Some StoreTooSmall) None

unfoldable pub slice_line_at : Capacities → List Block → Reading Snssai
slice_line_at c bs = checked (field_at (codes "slice=") slice_of) (slice_fault c bs)

unfoldable pub entries_line_at : ℕ → ℕ → ℕ → Reading ℕ
entries_line_at capacity reserved max = checked (number_at (codes "ue-entries=") 40000) (entries_fault capacity reserved max)

unfoldable pub sessions_line_at : ℕ → ℕ → Reading ℕ
sessions_line_at capacity reserved = checked (number_at (codes "pdu-max=") 40000) (sessions_fault capacity reserved)

-- the block after those that were read
unfoldable pub block_at : Capacities → List Block → Reading Block
block_at c bs =
    and_then (slice_line_at c bs) (λ s.
    and_then (number_at (codes "ue-max=") 20000) (λ max.
    and_then (entries_line_at c.ues (entries bs) max) (λ n.
    and_then (sessions_line_at c.sessions (sessions bs)) (λ m.
    and_then (field_at (codes "count=") counted_of) (λ a.
    gives (record { slice = s; ue_max = max; ue_entries = n; pdu_max = m; counted = a }))))))

-- one block or more, up to the end of the text
unfoldable pub blocks_at : Capacities → Reading (List Block)
blocks_at c = at_most_at 16 (block_at c) []

-- whole settings
abbrev pub settings_at : Capacities → Reading Settings
settings_at c = and_then (blocks_at c) (λ bs. gives (record { blocks = bs }))

-- what a text of settings says for stores of these capacities, or why and at which line it is refused
unfoldable pub settings_of : Capacities → List ℕ → Result Settings Refusal
settings_of c text = (settings_at c (text, 1)).0
