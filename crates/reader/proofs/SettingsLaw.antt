-- A text of settings is accepted where no refusal fits it, and else refused with the first that fits.
use Rattle.std.proofs.Common.{◌≡◌, ℕ, zero, suc, ◌+◌, ◌-◌, ◌*◌, ◌/◌, ◌%◌, ◌<◌, ◌≤◌, true, cond, ◌⊎◌, List, [], ◌∷◌, ◌++◌, length, Some, None, Ok, codes, Option, Result, sym, subst, inl, inr, arith}
use Rattle.std.proofs.lemmas.List.{length_push}
use Rattle.refusal.specs.declared.Reason.{Reason}
use Rattle.refusal.specs.declared.Refusal.{Refusal}
use Rattle.identity.specs.Decimals.{decimal_of}
use Rattle.identity.specs.Slices.{slice_of}
use Rattle.reader.specs.declared.settings.Block.{Block}
use Rattle.reader.specs.declared.settings.Capacities.{Capacities}
use Rattle.reader.specs.declared.settings.Settings.{Settings}
use Rattle.reader.specs.Faults.{goes_on, rule, Decided}
use Rattle.reader.specs.Lines.{Place, more?}
use Rattle.reader.specs.Readings.{Reading, and_then, field_at, checked, at_most_at}
use Rattle.reader.specs.SettingsFaults.{
  rule_on,
  Due,
  slice_line_of,
  max_line_of,
  entries_line_of,
  sessions_line_of,
  slice_in,
  entries_in,
  sessions_in,
  SettingsFault,
}
use Rattle.reader.specs.Tables.{entries, sessions, slice_fault, entries_fault, sessions_fault, slice_line_at, entries_line_at, sessions_line_at, block_at, blocks_at, settings_at, settings_of}
use Rattle.reader.specs.Words.{counted_of}
use Rattle.reader.proofs.Reach.{Past, Clean, Judged, Ends, before, Said, in_turn, field_step, checked_step, more_or_end, decides}
use Rattle.reader.proofs.Told.{Told, none_told, told_more}
use Rattle.reader.proofs.SettingsLines.{rule_at, below_sixteen, from_one, ended, ruled, on_plain, slice_judged, entries_judged, sessions_judged}

module _ (c : Capacities) (text : List ℕ) where
  abbrev Fits : Refusal → Type 0
  Fits = SettingsFault c text

  -- a block was read: the text says what it has, and no refusal fits its lines
  data BlockRead (done : List Block) (k : ℕ) : Block → Place → Type 0 where
    block_read : {x : Block} → length done < 16 → slice_in text (length done) ≡ Some x.slice → entries_in text (length done) ≡ Some x.ue_entries → sessions_in text (length done) ≡ Some x.pdu_max → Past Fits (suc (suc (suc (suc (suc k))))) → BlockRead done k x (before text (suc (suc (suc (suc (suc k))))))

  -- a line of block b: its place in the text, and its number by the block
  module _ {A B : Type 0} (k m : ℕ) (line : suc k ≡ m) (key : List ℕ) (read : List ℕ → Option A) (has : rule_on (suc k) ≡ rule key read) (due : Due text (suc k)) (Q : B → Place → Type 0) (f : A → Reading B) (past : Past Fits k) where
    -- what it says, by the block
    by_block : (x : A) → Said text (suc k) key read x → Said text m key read x
    by_block x s = subst (λ n. Said text n key read x) line s

    plain_line : (suc k % 5 ≡ 2) ⊎ (suc k % 5 ≡ 0) → ((x : A) → Said text m key read x → Past Fits (suc k) → Ends Fits Q (f x (before text (suc k)))) → Ends Fits Q (and_then (field_at key read) f (before text k))
    plain_line h next = field_step Fits text k Q f past (ruled c text k key read has due) (λ x s. on_plain c text (suc k) key read x has h s) (λ x s. next x (by_block x s))

    checked-line : (fault : A → Option Reason) → ((x : A) → Said text m key read x → Judged Fits m (fault x)) → ((x : A) → Said text m key read x → fault x ≡ None → Past Fits (suc k) → Ends Fits Q (f x (before text (suc k)))) → Ends Fits Q (and_then (checked (field_at key read) fault) f (before text k))
    checked-line fault judged next =
        checked_step Fits text k Q f past (ruled c text k key read has due) fault
        (λ x s. subst (λ n. Judged Fits n (fault x)) (sym line) (judged x (by_block x s)))
        (λ x s. next x (by_block x s))

  -- the block after those that were read, where all of it is due
  module _ (done : List Block) (k : ℕ) (at : k ≡ 5 * length done) (due : (n : ℕ) → (k < n) × (n ≤ 5 + k) → Due text n) (told : Told text done) where
    block_lines : Past Fits k → Ends Fits (BlockRead done k) (block_at c done (before text k))
    unfolding block_at slice_line_at entries_line_at sessions_line_at
    block_lines past0 =
        let k1 = suc k in let k2 = suc k1 in let k3 = suc k2 in let k4 = suc k3 in
        let b = length done in
        checked-line k (slice_line_of b) (omega arith) (codes "slice=") slice_of (rule_at (suc k) 0 (omega arith)) (due (suc k) (omega arith)) _ _ past0
        (slice_fault c done) (λ s. slice_judged c text done s told) (λ s slice fine past1.
        plain_line k1 (max_line_of b) (omega arith) (codes "ue-max=") (decimal_of 20000) (rule_at (suc k1) 1 (omega arith)) (due (suc k1) (omega arith)) _ _ past1
        (inl (omega arith)) (λ max most past2.
        checked-line k2 (entries_line_of b) (omega arith) (codes "ue-entries=") (decimal_of 40000) (rule_at (suc k2) 2 (omega arith)) (due (suc k2) (omega arith)) _ _ past2
        (entries_fault c.ues (entries done) max) (λ n. entries_judged c text done max n told most) (λ n reserved _ past3.
        checked-line k3 (sessions_line_of b) (omega arith) (codes "pdu-max=") (decimal_of 40000) (rule_at (suc k3) 3 (omega arith)) (due (suc k3) (omega arith)) _ _ past3
        (sessions_fault c.sessions (sessions done)) (λ m. sessions_judged c text done m told) (λ m opened _ past4.
        plain_line k4 (5 * b + 5) (omega arith) (codes "count=") counted_of (rule_at (suc k4) 4 (omega arith)) (due (suc k4) (omega arith)) _ _ past4
        (inr (omega arith)) (λ a _ past5.
        block_read (below_sixteen c done s fine) slice reserved opened past5)))))

  -- all lines of a block are due, of the first one and of each that the text goes on with
  first_due : (n : ℕ) → (0 < n) × (n ≤ 5) → Due text n
  first_due n h = (h.0, inl h.1)

  next_due : (k b n : ℕ) → k ≡ 5 * b → goes_on text k ≡ true → (k < n) × (n ≤ 5 + k) → Due text n
  next_due k b n at on h = let z : k ≡ 5 * ((n - 1) / 5) = omega arith in (omega arith, inr (subst (λ i. goes_on text i ≡ true) z on))

  -- the reading of at most n blocks more, and one that is refused, ends as it must
  abbrev Continues : ℕ → List Block → Type 0
  Continues n done = (k : ℕ) → k ≡ 5 * length done → ((i : ℕ) → (k < i) × (i ≤ 5 + k) → Due text i) → Told text done → Past Fits k → Ends Fits (λ bs q. Clean Fits) (at_most_at n (block_at c) done (before text k))

  -- a seventeenth block is not read
  full : (done : List Block) (k : ℕ) → 16 ≤ length done → (x : Block) (q : Place) → BlockRead done k x q → ⊥
  full done k h x q (block_read l s e m past) = omega arith

  -- after a block comes the next one or the end
  after_block : (n : ℕ) (done : List Block) (k : ℕ) → k ≡ 5 * length done → Told text done → ((x : Block) → Continues n (done ++ x ∷ [])) → (x : Block) (q : Place) → BlockRead done k x q → Ends Fits (λ bs s. Clean Fits) (cond (more? q) (at_most_at n (block_at c) (done ++ x ∷ []) q) (Ok (done ++ x ∷ []), q))
  after_block n done k at told next x q (block_read l s e m past) =
      let k5 = suc (suc (suc (suc (suc k)))) in
      let b = length (done ++ x ∷ []) in
      let longer = length_push done x in
      let here : k5 ≡ 5 * b = omega arith in
      more_or_end Fits text k5 _ (at_most_at n (block_at c) (done ++ x ∷ []) (before text k5)) (done ++ x ∷ [])
      (λ on. next x k5 here (λ i. next_due k5 b i here on) (told_more text done x told s e m) past)
      (λ end. ended c text k5 b here (omega arith) end past)

  -- all blocks, up to the end of the text or to the seventeenth
  block_steps : (n : ℕ) (done : List Block) → n + length done ≡ 16 → Continues n done
  unfolding at_most_at
  block_steps zero done room k at due told past =
      in_turn Fits text (BlockRead done k) _ (block_at c done) _ (before text k) (block_lines done k at due told past) (λ x q r. absurd (full done k (omega arith) x q r))
  block_steps (suc n) done room k at due told past =
      in_turn Fits text (BlockRead done k) _ (block_at c done) _ (before text k) (block_lines done k at due told past)
      (after_block n done k at told (λ x. let longer = length_push done x in block_steps n (done ++ x ∷ []) (omega arith)))

-- the reading of settings decides by the refusals that fit their text
pub settings_decided : (c : Capacities) (text : List ℕ) → Decided (SettingsFault c text) (settings_of c text)
unfolding settings_of blocks_at
settings_decided c text =
    decides (SettingsFault c text) (settings_at c (text, 1)).0 (settings_at c (text, 1)).1
    (in_turn (SettingsFault c text) text (λ bs q. Clean (SettingsFault c text)) _ (blocks_at c) _ (text, 1)
    (block_steps c text 16 [] (omega arith) 0 (omega arith) (first_due c text) (none_told text) (from_one c text))
    (λ bs q none. none))

pub decided : (c : Capacities) (text : List ℕ) (r : Result Settings Refusal) → r ≡ settings_of c text → Decided (SettingsFault c text) r
decided c text r e = subst (Decided (SettingsFault c text)) (sym e) (settings_decided c text)
