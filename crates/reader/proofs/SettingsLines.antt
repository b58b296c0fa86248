-- Which refusals fit the lines of a text of settings, and that the reading gives the least of them.
use Rattle.std.proofs.Common.{◌≡◌, ℕ, suc, ◌+◌, ◌-◌, ◌*◌, ◌/◌, ◌%◌, ◌<◌, ◌≤◌, false, ltb, leb, ◌⊎◌, List, length, get_or, is_some, Some, None, codes, Option, sym, refl, ap, ◌∙◌, subst, inl, inr, arith, lit≤}
use Rattle.std.proofs.lemmas.Bool.{both_ways, cond_both, leb-true, leb-false, ltb-true, ltb-false}
use Rattle.std.proofs.lemmas.Option.{same_Some}
use Rattle.std.proofs.lemmas.Bool.Decides.{nat_tests}
use Rattle.refusal.specs.declared.Reason.{Reason}
use Rattle.refusal.specs.declared.Reason.TheVariants.{MissingKey, UnlawfulValue, TooMany, SliceTwice, EntriesBelowMax, StoreTooSmall}
use Rattle.refusal.specs.declared.Refusal.{Refusal}
use Rattle.refusal.specs.Refusals.{refusal}
use Rattle.identity.specs.declared.snssai.Snssai.{Snssai}
use Rattle.identity.specs.Decimals.{decimal_of}
use Rattle.identity.specs.Slices.{slice_of}
use Rattle.reader.specs.declared.settings.Block.{Block}
use Rattle.reader.specs.declared.settings.Capacities.{Capacities}
use Rattle.reader.specs.Faults.{goes_on, value_on, rule}
use Rattle.reader.specs.RequestFaults.{slice_rule}
use Rattle.reader.specs.SettingsFaults.{
  block_rules,
  rule_on,
  Due,
  slice_line_of,
  entries_line_of,
  sessions_line_of,
  slice_in,
  max_in,
  entries_in,
  sessions_in,
  total,
  SettingsFault,
  missing,
  unlawful,
  surplus,
  twice,
  below,
  few-subscriptions,
  few-entries,
  few-sessions,
}
use Rattle.reader.specs.Tables.{named, entries, sessions, slice_fault, entries_fault, sessions_fault}
use Rattle.reader.proofs.Reach.{Past, Least, Clear, Clean, Judged, Said, Ruled, value_read, is_line, not_both, under_rule, reads_key, reads_value, stays_ended, silent, silent_read}
use Rattle.reader.proofs.Told.{Told, total_more}

-- the rule of a line by its place in its block, from 0
pub rule_at : (n j : ℕ) → (n - 1) % 5 ≡ j → rule_on n ≡ get_or block_rules j slice_rule
rule_at n j e = ap (λ i. get_or block_rules i slice_rule) e

-- a slice that is not refused is among the first sixteen
pub below_sixteen : (c : Capacities) (done : List Block) (x : Snssai) → slice_fault c done x ≡ None → length done < 16
below_sixteen c done x e = grind (arith, nat_tests)

module _ (c : Capacities) (text : List ℕ) where
  abbrev pub Fits : Refusal → Type 0
  Fits = SettingsFault c text

  -- every refusal stands on a line, from 1
  pub from_one : Past Fits 0
  from_one g (missing d e) = d.0
  from_one g (unlawful {n} {v} e l) = is_line (rule_on n).key text n v e
  from_one g (surplus b h e) = omega arith
  from_one g (twice a b h e f) = omega arith
  from_one g (below b e f h) = omega arith
  from_one g (few-subscriptions b e h) = omega arith
  from_one g (few-entries b e h) = omega arith
  from_one g (few-sessions b e h) = omega arith

  -- after the end no refusal fits
  pub ended : (k b : ℕ) → k ≡ 5 * b → 0 < b → goes_on text k ≡ false → Past Fits k → Clean Fits
  ended k b at h end past g (missing {n} d e) =
      let l = past (refusal MissingKey n) (missing d e) in
      let m = 5 * ((n - 1) / 5) in
      elim d.1 [ inl few ↦ absurd (omega arith) | inr on ↦ both_ways (goes_on text m) (stays_ended text k m end (omega arith)) on ]
  ended k b at h end past g (unlawful {n} {v} e l) = silent (rule_on n).key text k n v end (past (refusal UnlawfulValue n) (unlawful e l)) e
  ended k b at h end past g (surplus a {v} l e) = silent (codes "slice=") text k (slice_line_of a) v end (past (refusal TooMany (slice_line_of a)) (surplus a l e)) e
  ended k b at h end past g (twice a d {s} l e f) = silent_read (codes "slice=") text slice_of k (slice_line_of d) s end (past (refusal SliceTwice (slice_line_of d)) (twice a d l e f)) f
  ended k b at h end past g (below a {m} {n} e f l) =
      silent_read (codes "ue-entries=") text (decimal_of 40000) k (entries_line_of a) n end (past (refusal EntriesBelowMax (entries_line_of a)) (below a e f l)) f
  ended k b at h end past g (few-subscriptions a {s} e l) =
      silent_read (codes "slice=") text slice_of k (slice_line_of a) s end (past (refusal StoreTooSmall (slice_line_of a)) (few-subscriptions a e l)) e
  ended k b at h end past g (few-entries a {n} e l) =
      silent_read (codes "ue-entries=") text (decimal_of 40000) k (entries_line_of a) n end (past (refusal StoreTooSmall (entries_line_of a)) (few-entries a e l)) e
  ended k b at h end past g (few-sessions a {n} e l) =
      silent_read (codes "pdu-max=") text (decimal_of 40000) k (sessions_line_of a) n end (past (refusal StoreTooSmall (sessions_line_of a)) (few-sessions a e l)) e

  module _ {A : Type 0} (n : ℕ) (key : List ℕ) (read : List ℕ → Option A) (has : rule_on n ≡ rule key read) where
    -- a line that has a value lacks no key
    least_unlawful : (v : List ℕ) → value_on key text n ≡ Some v → Least Fits n UnlawfulValue
    least_unlawful v s g (missing {n = m} d e) z = absurd (not_both (value_on key text n) v s (under_rule text key read rule_on m n None z has e))
    least_unlawful v s g (unlawful e l) z = lit≤ tt
    least_unlawful v s g (surplus b h e) z = lit≤ tt
    least_unlawful v s g (twice a b h e f) z = lit≤ tt
    least_unlawful v s g (below b e f h) z = lit≤ tt
    least_unlawful v s g (few-subscriptions b e h) z = lit≤ tt
    least_unlawful v s g (few-entries b e h) z = lit≤ tt
    least_unlawful v s g (few-sessions b e h) z = lit≤ tt

  -- a line of which only the rule is known
  pub ruled : {A : Type 0} (k : ℕ) (key : List ℕ) (read : List ℕ → Option A) → rule_on (suc k) ≡ rule key read → Due text (suc k) → Ruled Fits text k key read
  ruled k key read has due = record {
    lacking = λ s. missing due (rw has s);
    unread = λ v s e. unlawful {v = v} (rw has s) (rw has (ap is_some e));
    least = least_unlawful (suc k) key read has;
  }

  -- what else may fit the slice line of block b, where it names x
  abbrev OnSlice : ℕ → Snssai → Reason → Type 0
  OnSlice b x why =
      ((why ≡ TooMany) × (16 ≤ b))
      ⊎ ((why ≡ SliceTwice) × ((a : ℕ) × (a < b) × (slice_in text a ≡ Some x)))
      ⊎ ((why ≡ StoreTooSmall) × (c.subscriptions < 4 * suc b))

  -- its line of UE entries, where its maximum is m and it reserves n
  abbrev OnEntries : ℕ → ℕ → ℕ → Reason → Type 0
  OnEntries b m n why = ((why ≡ EntriesBelowMax) × (n < m)) ⊎ ((why ≡ StoreTooSmall) × (c.ues < total (entries_in text) b + n))

  -- and its line of sessions, where their maximum is n
  abbrev OnSessions : ℕ → ℕ → Reason → Type 0
  OnSessions b n why = (why ≡ StoreTooSmall) × (c.sessions < total (sessions_in text) b + n)

  -- whatever fits such a line is one of these
  on-slice : (b : ℕ) (x : Snssai) → slice_in text b ≡ Some x → (g : Refusal) → Fits g → g.line ≡ slice_line_of b → OnSlice b x g.reason
  on-slice b x s g (missing {n} d e) z = absurd (reads_key text (codes "slice=") slice_of rule_on n (slice_line_of b) x z (rule_at (slice_line_of b) 0 (omega arith)) s e)
  on-slice b x s g (unlawful {n} {v} e l) z = absurd (reads_value text (codes "slice=") slice_of rule_on n (slice_line_of b) x v z (rule_at (slice_line_of b) 0 (omega arith)) s e l)
  on-slice b x s g (surplus d h e) z = inl (refl, omega arith)
  on-slice b x s g (twice a d {s = y} h e f) z =
      let same : d ≡ b = omega arith in
      inr (inl (refl, (a, omega arith, e ∙ sym (subst (λ i. slice_in text i ≡ Some y) same f) ∙ s)))
  on-slice b x s g (below d e f h) z = absurd (omega arith)
  on-slice b x s g (few-subscriptions d e h) z = inr (inr (refl, omega arith))
  on-slice b x s g (few-entries d e h) z = absurd (omega arith)
  on-slice b x s g (few-sessions d e h) z = absurd (omega arith)

  on-entries : (b m n : ℕ) → max_in text b ≡ Some m → entries_in text b ≡ Some n → (g : Refusal) → Fits g → g.line ≡ entries_line_of b → OnEntries b m n g.reason
  on-entries b m n t s g (missing {n = i} d e) z = absurd (reads_key text (codes "ue-entries=") (decimal_of 40000) rule_on i (entries_line_of b) n z (rule_at (entries_line_of b) 2 (omega arith)) s e)
  on-entries b m n t s g (unlawful {n = i} {v} e l) z = absurd (reads_value text (codes "ue-entries=") (decimal_of 40000) rule_on i (entries_line_of b) n v z (rule_at (entries_line_of b) 2 (omega arith)) s e l)
  on-entries b m n t s g (surplus d h e) z = absurd (omega arith)
  on-entries b m n t s g (twice a d h e f) z = absurd (omega arith)
  on-entries b m n t s g (below d {m = i} {n = j} e f h) z =
      let same : d ≡ b = omega arith in
      let p = same_Some _ _ (sym (subst (λ a. max_in text a ≡ Some i) same e) ∙ t) in
      let q = same_Some _ _ (sym (subst (λ a. entries_in text a ≡ Some j) same f) ∙ s) in
      inl (refl, omega arith)
  on-entries b m n t s g (few-subscriptions d e h) z = absurd (omega arith)
  on-entries b m n t s g (few-entries d e h) z =
      let same : d ≡ b = omega arith in
      let sum = total_more (entries_in text) b n s in
      let l = subst (λ a. c.ues < total (entries_in text) (suc a)) same h in
      inr (refl, omega arith)
  on-entries b m n t s g (few-sessions d e h) z = absurd (omega arith)

  on-sessions : (b n : ℕ) → sessions_in text b ≡ Some n → (g : Refusal) → Fits g → g.line ≡ sessions_line_of b → OnSessions b n g.reason
  on-sessions b n s g (missing {n = i} d e) z = absurd (reads_key text (codes "pdu-max=") (decimal_of 40000) rule_on i (sessions_line_of b) n z (rule_at (sessions_line_of b) 3 (omega arith)) s e)
  on-sessions b n s g (unlawful {n = i} {v} e l) z = absurd (reads_value text (codes "pdu-max=") (decimal_of 40000) rule_on i (sessions_line_of b) n v z (rule_at (sessions_line_of b) 3 (omega arith)) s e l)
  on-sessions b n s g (surplus d h e) z = absurd (omega arith)
  on-sessions b n s g (twice a d h e f) z = absurd (omega arith)
  on-sessions b n s g (below d e f h) z = absurd (omega arith)
  on-sessions b n s g (few-subscriptions d e h) z = absurd (omega arith)
  on-sessions b n s g (few-entries d e h) z = absurd (omega arith)
  on-sessions b n s g (few-sessions d e h) z =
      let same : d ≡ b = omega arith in
      let sum = total_more (sessions_in text) b n s in
      let l = subst (λ a. c.sessions < total (sessions_in text) (suc a)) same h in
      (refl, omega arith)

  -- nothing else fits the second and the fifth line of a block
  pub on_plain : {A : Type 0} (n : ℕ) (key : List ℕ) (read : List ℕ → Option A) (x : A) → rule_on n ≡ rule key read → (n % 5 ≡ 2) ⊎ (n % 5 ≡ 0) → Said text n key read x → Clear Fits n
  on_plain n key read x has h s g (missing {n = i} d e) z = reads_key text key read rule_on i n x z has s e
  on_plain n key read x has h s g (unlawful {n = i} {v} e l) z = reads_value text key read rule_on i n x v z has s e l
  on_plain n key read x has h s g (surplus d l e) z = omega arith
  on_plain n key read x has h s g (twice a d l e f) z = omega arith
  on_plain n key read x has h s g (below d e f l) z = omega arith
  on_plain n key read x has h s g (few-subscriptions d e l) z = omega arith
  on_plain n key read x has h s g (few-entries d e l) z = omega arith
  on_plain n key read x has h s g (few-sessions d e l) z = omega arith

  -- the reading refuses a line of a lawful value as it must, where the blocks before it were read
  pub slice_judged : (done : List Block) (x : Snssai) → Told text done → slice_in text (length done) ≡ Some x → Judged Fits (slice_line_of (length done)) (slice_fault c done x)
  slice_judged done x told s =
      let b = length done in
      let line = Judged Fits (slice_line_of b) in
      let fit = on-slice b x s in
      cond_both (leb 16 b) _ _ line (λ m. (surplus b (leb-true 16 b m) (value_read (value_on (codes "slice=") text (slice_line_of b)) slice_of x s).1, λ g h z. let f = fit g h z in grind arith)) λ m.
      let few = leb-false 16 b m in
      cond_both (named x done) _ _ line (λ t. let a = told.known x t in (twice a.0 b a.1 a.2 s, λ g h z. let f = fit g h z in grind arith)) λ t.
      let new = λ (a : ℕ). told.unknown x a t in
      cond_both (ltb c.subscriptions (4 * suc b)) _ _ line (λ p. (few-subscriptions b s (ltb-true c.subscriptions (4 * suc b) p), λ g h z. let f = fit g h z in grind (arith, new))) λ p.
      let room = ltb-false c.subscriptions (4 * suc b) p in λ g h z. let f = fit g h z in grind (arith, new)

  pub entries_judged : (done : List Block) (m n : ℕ) → Told text done → max_in text (length done) ≡ Some m → entries_in text (length done) ≡ Some n → Judged Fits (entries_line_of (length done)) (entries_fault c.ues (entries done) m n)
  entries_judged done m n told t s =
      let b = length done in
      let line = Judged Fits (entries_line_of b) in
      let fit = on-entries b m n t s in
      let sum = total_more (entries_in text) b n s in
      let so_far = told.reserved in
      cond_both (ltb n m) _ _ line (λ l. (below b t s (ltb-true n m l), λ g h z. let f = fit g h z in grind arith)) λ l.
      let enough = ltb-false n m l in
      cond_both (ltb c.ues (entries done + n)) _ _ line
      (λ p. let q = ltb-true c.ues (entries done + n) p in (few-entries b s (omega arith), λ g h z. let f = fit g h z in grind arith))
      (λ p. let q = ltb-false c.ues (entries done + n) p in λ g h z. let f = fit g h z in grind arith)

  pub sessions_judged : (done : List Block) (n : ℕ) → Told text done → sessions_in text (length done) ≡ Some n → Judged Fits (sessions_line_of (length done)) (sessions_fault c.sessions (sessions done) n)
  sessions_judged done n told s =
      let b = length done in
      let line = Judged Fits (sessions_line_of b) in
      let fit = on-sessions b n s in
      let sum = total_more (sessions_in text) b n s in
      let so_far = told.open_for in
      cond_both (ltb c.sessions (sessions done + n)) _ _ line
      (λ p. let q = ltb-true c.sessions (sessions done + n) p in (few-sessions b s (omega arith), λ g h z. let f = fit g h z in grind arith))
      (λ p. let q = ltb-false c.sessions (sessions done + n) p in λ g h z. let f = fit g h z in grind arith)
