-- Where a reading leads that goes through a text line by line: past a line that no refusal fits, or to the first refusal.
use Rattle.std.proofs.Common.{◌≡◌, ℕ, zero, suc, ◌<◌, ◌≤◌, true, false, cond, ltb, List, [], length, is_some, Some, None, Ok, Err, Option, Result, sym, refl, ap, ◌∙◌, subst, inl, inr, arith}
use Rattle.std.proofs.lemmas.List.{nil_from_length}
use Rattle.std.proofs.lemmas.Option.{none-some}
use Rattle.std.proofs.lemmas.Bool.{both_ways, cases_eq, cond_both, ltb-false}
use Rattle.refusal.specs.declared.Reason.{Reason}
use Rattle.refusal.specs.declared.Reason.TheVariants.{MissingKey, UnlawfulValue, TooMany}
use Rattle.refusal.specs.declared.Refusal.{Refusal}
use Rattle.refusal.specs.Refusals.{number, refusal}
use Rattle.identity.specs.Chains.{given}
use Rattle.reader.specs.Faults.{skip, goes_on, value_on, Rule, rule, First, Decided}
use Rattle.reader.specs.Lines.{Place, more?, after_line, value_of, value_or}
use Rattle.reader.specs.Readings.{Reading, onward, and_then, as_lawful, lawful, field_at, refused_by, tested, checked, one_too_many}

-- every refusal that fits stands after line k
abbrev pub Past : (Refusal → Type 0) → ℕ → Type 0
Past Fits k = (g : Refusal) → Fits g → k < g.line

-- the refusal fits, and it is the first that does
abbrev pub Leads : (Refusal → Type 0) → Refusal → Type 0
Leads Fits f = Fits f × ((g : Refusal) → Fits g → First f g)

-- on line n no refusal fits with a smaller number
abbrev pub Least : (Refusal → Type 0) → ℕ → Reason → Type 0
Least Fits n why = (g : Refusal) → Fits g → g.line ≡ n → number why ≤ number g.reason

-- no refusal fits
abbrev pub Clean : (Refusal → Type 0) → Type 0
Clean Fits = (g : Refusal) → Fits g → ⊥

-- no refusal fits on line n
abbrev pub Clear : (Refusal → Type 0) → ℕ → Type 0
Clear Fits n = (g : Refusal) → Fits g → g.line ≡ n → ⊥

-- what is due of a line whose value is read: with no fault no refusal fits it, and else that fault does with the smallest number
abbrev pub Judged : (Refusal → Type 0) → ℕ → Option Reason → Type 0
Judged Fits n None = Clear Fits n
Judged Fits n (Some why) = Fits (refusal why n) × Least Fits n why

abbrev pub EndsAt : {A : Type 0} → (Refusal → Type 0) → (A → Place → Type 0) → Result A Refusal → Place → Type 0
EndsAt Fits P (Ok x) q = P x q
EndsAt Fits P (Err f) q = Leads Fits f

-- a reading is refused with the first refusal, or P holds of what it read and of the place after it
abbrev pub Ends : {A : Type 0} → (Refusal → Type 0) → (A → Place → Type 0) → Result A Refusal × Place → Type 0
Ends Fits P r = EndsAt Fits P r.0 r.1

-- before line k + 1 of a text
abbrev pub before : List ℕ → ℕ → Place
before text k = (skip k text, suc k)

-- a missing key has the smallest number
one_least : (why : Reason) → 1 ≤ number why
one_least why = grind arith

-- what a line with a key and its reading comes to
data Line {A : Type 0} (text : List ℕ) (k : ℕ) (key : List ℕ) (read : List ℕ → Option A) : Result A Refusal → Place → Type 0 where
  lacks : value_on key text (suc k) ≡ None → Line text k key read (Err (refusal MissingKey (suc k))) (before text k)
  wrong : {v : List ℕ} → value_on key text (suc k) ≡ Some v → read v ≡ None → Line text k key read (Err (refusal UnlawfulValue (suc k))) (before text (suc k))
  right : {v : List ℕ} {x : A} → value_on key text (suc k) ≡ Some v → read v ≡ Some x → Line text k key read (Ok x) (before text (suc k))

-- each line is one of these
value_way : {A : Type 0} (text : List ℕ) (k : ℕ) (key v : List ℕ) (read : List ℕ → Option A) (l : Option A) → value_on key text (suc k) ≡ Some v → read v ≡ l → Line text k key read (lawful (suc k) l) (before text (suc k))
value_way text k key v read None s e = wrong s e
value_way text k key v read (Some x) s e = right s e

key_way : {A : Type 0} (text : List ℕ) (k : ℕ) (key : List ℕ) (read : List ℕ → Option A) (o : Option (List ℕ)) → value_on key text (suc k) ≡ o → Line text k key read (as_lawful (suc k) read (value_or (before text k) o).0) (value_or (before text k) o).1
key_way text k key read None s = lacks s
key_way text k key read (Some v) s = value_way text k key v read (read v) s refl

line_way : {A : Type 0} (text : List ℕ) (k : ℕ) (key : List ℕ) (read : List ℕ → Option A) → Line text k key read (field_at key read (before text k)).0 (field_at key read (before text k)).1
unfolding field_at
line_way text k key read = key_way text k key read (value_of key (skip k text)) refl

-- line n has a value under the key, and it is read as x
abbrev pub Said : {A : Type 0} → List ℕ → ℕ → List ℕ → (List ℕ → Option A) → A → Type 0
Said text n key read x = given (value_on key text n) read ≡ Some x

-- which refusals fit line k + 1 while its value is not read
pub record Ruled {A : Type 0} (Fits : Refusal → Type 0) (text : List ℕ) (k : ℕ) (key : List ℕ) (read : List ℕ → Option A) : Type 0 where
  pub lacking : value_on key text (suc k) ≡ None → Fits (refusal MissingKey (suc k))
  pub unread : (v : List ℕ) → value_on key text (suc k) ≡ Some v → read v ≡ None → Fits (refusal UnlawfulValue (suc k))
  pub least : (v : List ℕ) → value_on key text (suc k) ≡ Some v → Least Fits (suc k) UnlawfulValue

said : {A : Type 0} (text : List ℕ) (k : ℕ) (key v : List ℕ) (read : List ℕ → Option A) (x : A) → value_on key text (suc k) ≡ Some v → read v ≡ Some x → Said text (suc k) key read x
said text k key v read x s e = ap (λ o. given o read) s ∙ e

-- the value that was read
pub value_read : {A B : Type 0} (o : Option A) (read : A → Option B) (x : B) → given o read ≡ Some x → (v : A) × (o ≡ Some v)
value_read None read x e = absurd (none-some x e)
value_read (Some v) read x e = (v, refl)

-- a line that has a value
pub is_line : (key text : List ℕ) (n : ℕ) (v : List ℕ) → value_on key text n ≡ Some v → 0 < n
is_line key text zero v e = absurd (none-some v e)
is_line key text (suc n) v e = omega arith

-- no value is both there and absent
pub not_both : {A : Type 0} (o : Option A) (v : A) → o ≡ Some v → o ≡ None → ⊥
not_both o v s n = none-some v (sym n ∙ s)

-- the value under the rule of a line, where the line and its rule are known
pub under_rule : {A : Type 0} (text key : List ℕ) (read : List ℕ → Option A) (due : ℕ → Rule) (n m : ℕ) (o : Option (List ℕ)) → n ≡ m → due m ≡ rule key read → value_on (due n).key text n ≡ o → value_on key text m ≡ o
under_rule text key read due n m o z has e = ap (λ r. value_on r.key text m) (sym has) ∙ ap (λ i. value_on (due i).key text i) (sym z) ∙ e

lawful-rule : {A : Type 0} (key : List ℕ) (read : List ℕ → Option A) (due : ℕ → Rule) (n m : ℕ) (v : List ℕ) → n ≡ m → due m ≡ rule key read → (due n).lawful v ≡ false → is_some (read v) ≡ false
lawful-rule key read due n m v z has e = ap (λ r. r.lawful v) (sym has) ∙ ap (λ i. (due i).lawful v) (sym z) ∙ e

-- a value that is read is neither absent nor unlawful
not_absent : {A B : Type 0} (o : Option A) (read : A → Option B) (x : B) → given o read ≡ Some x → o ≡ None → ⊥
not_absent o read x e n = not_both (given o read) x e (ap (λ i. given i read) n)

not_unlawful : {A B : Type 0} (o : Option A) (read : A → Option B) (x : B) (v : A) → given o read ≡ Some x → o ≡ Some v → is_some (read v) ≡ false → ⊥
not_unlawful o read x v e s l = both_ways (is_some (read v)) l (ap is_some (sym (ap (λ i. given i read) s) ∙ e))

-- a line that is read under its rule neither lacks its key nor is unlawful
pub reads_key : {A : Type 0} (text key : List ℕ) (read : List ℕ → Option A) (due : ℕ → Rule) (n m : ℕ) (x : A) → n ≡ m → due m ≡ rule key read → Said text m key read x → value_on (due n).key text n ≡ None → ⊥
reads_key text key read due n m x z has s e = not_absent (value_on key text m) read x s (under_rule text key read due n m None z has e)

pub reads_value : {A : Type 0} (text key : List ℕ) (read : List ℕ → Option A) (due : ℕ → Rule) (n m : ℕ) (x : A) (v : List ℕ) → n ≡ m → due m ≡ rule key read → Said text m key read x → value_on (due n).key text n ≡ Some v → (due n).lawful v ≡ false → ⊥
reads_value text key read due n m x v z has s e l = not_unlawful (value_on key text m) read x v s (under_rule text key read due n m (Some v) z has e) (lawful-rule key read due n m v z has l)

module _ (Fits : Refusal → Type 0) (text : List ℕ) where
  -- a refusal that fits the next line is the first, where none of that line has a smaller number
  leads : (k : ℕ) (why : Reason) → Past Fits k → Fits (refusal why (suc k)) → Least Fits (suc k) why → Leads Fits (refusal why (suc k))
  leads k why past fits least =
      (fits, λ g h. elim (cases_eq g.line (suc k)) [ inl e ↦ inr (sym e, least g h e) | inr n ↦ let p = past g h in inl (omega arith) ])

  -- past one more line
  further : (k : ℕ) → Past Fits k → Clear Fits (suc k) → Past Fits (suc k)
  further k past clear g h =
      let p = past g h in
      elim (cases_eq g.line (suc k)) [ inl e ↦ absurd (clear g h e) | inr n ↦ omega arith ]

  onward_ends : {A B : Type 0} (P : A → Place → Type 0) (Q : B → Place → Type 0) (r : Result A Refusal) (q : Place) (f : A → Reading B) → EndsAt Fits P r q → ((x : A) (s : Place) → P x s → Ends Fits Q (f x s)) → Ends Fits Q (onward r q f)
  onward_ends P Q (Ok x) q f h next = next x q h
  onward_ends P Q (Err e) q f h next = h

  -- one reading and then another
  pub in_turn : {A B : Type 0} (P : A → Place → Type 0) (Q : B → Place → Type 0) (m : Reading A) (f : A → Reading B) (p : Place) → Ends Fits P (m p) → ((x : A) (s : Place) → P x s → Ends Fits Q (f x s)) → Ends Fits Q (and_then m f p)
  in_turn P Q m f p = onward_ends P Q (m p).0 (m p).1 f

  -- a line that is not read
  lacking_ends : {A : Type 0} {key : List ℕ} {read : List ℕ → Option A} (k : ℕ) → Past Fits k → Ruled Fits text k key read → value_on key text (suc k) ≡ None → Leads Fits (refusal MissingKey (suc k))
  lacking_ends k past rules s = leads k MissingKey past (rules.lacking s) (λ g h e. one_least g.reason)

  unread_ends : {A : Type 0} {key : List ℕ} {read : List ℕ → Option A} (k : ℕ) (v : List ℕ) → Past Fits k → Ruled Fits text k key read → value_on key text (suc k) ≡ Some v → read v ≡ None → Leads Fits (refusal UnlawfulValue (suc k))
  unread_ends k v past rules s e = leads k UnlawfulValue past (rules.unread v s e) (rules.least v s)

  -- a line that is read, and the fault that its value may have
  fault_step : {A B : Type 0} (k : ℕ) (Q : B → Place → Type 0) (f : A → Reading B) (x : A) (o : Option Reason) → Past Fits k → Judged Fits (suc k) o → (o ≡ None → Past Fits (suc k) → Ends Fits Q (f x (before text (suc k)))) → Ends Fits Q (onward (refused_by (suc k) x o) (before text (suc k)) f)
  fault_step k Q f x None past clear next = next refl (further k past clear)
  fault_step k Q f x (Some why) past fault next = leads k why past fault.0 fault.1

  module _ {A B : Type 0} {key : List ℕ} {read : List ℕ → Option A} (k : ℕ) (Q : B → Place → Type 0) (f : A → Reading B) (past : Past Fits k) (rules : Ruled Fits text k key read) where
    line_step : (r : Result A Refusal) (q : Place) → Line text k key read r q → ((x : A) → Said text (suc k) key read x → Clear Fits (suc k)) → ((x : A) → Said text (suc k) key read x → Past Fits (suc k) → Ends Fits Q (f x (before text (suc k)))) → Ends Fits Q (onward r q f)
    line_step r q (lacks s) clear next = lacking_ends k past rules s
    line_step r q (wrong {v} s e) clear next = unread_ends k v past rules s e
    line_step r q (right {v} {x} s e) clear next = let t = said text k key v read x s e in next x t (further k past (clear x t))

    -- a line, and what is read after it
    pub field_step : ((x : A) → Said text (suc k) key read x → Clear Fits (suc k)) → ((x : A) → Said text (suc k) key read x → Past Fits (suc k) → Ends Fits Q (f x (before text (suc k)))) → Ends Fits Q (and_then (field_at key read) f (before text k))
    field_step = line_step (field_at key read (before text k)).0 (field_at key read (before text k)).1 (line_way text k key read)

    tested_step : (fault : A → Option Reason) (r : Result A Refusal) (q : Place) → Line text k key read r q → ((x : A) → Said text (suc k) key read x → Judged Fits (suc k) (fault x)) → ((x : A) → Said text (suc k) key read x → fault x ≡ None → Past Fits (suc k) → Ends Fits Q (f x (before text (suc k)))) → Ends Fits Q (onward (tested (suc k) fault r) q f)
    tested_step fault r q (lacks s) judged next = lacking_ends k past rules s
    tested_step fault r q (wrong {v} s e) judged next = unread_ends k v past rules s e
    tested_step fault r q (right {v} {x} s e) judged next = let t = said text k key v read x s e in fault_step k Q f x (fault x) past (judged x t) (next x t)

    -- a checked line, and what is read after it
    pub checked_step : (fault : A → Option Reason) → ((x : A) → Said text (suc k) key read x → Judged Fits (suc k) (fault x)) → ((x : A) → Said text (suc k) key read x → fault x ≡ None → Past Fits (suc k) → Ends Fits Q (f x (before text (suc k)))) → Ends Fits Q (and_then (checked (field_at key read) fault) f (before text k))
    unfolding checked
    checked_step fault = tested_step fault (field_at key read (before text k)).0 (field_at key read (before text k)).1 (line_way text k key read)

  -- a line of an item that is one too many
  surplus_line : {A B : Type 0} {key : List ℕ} {read : List ℕ → Option A} (k : ℕ) (Q : B → Place → Type 0) (r : Result A Refusal) (q : Place) → Past Fits k → Ruled Fits text k key read → Line text k key read r q → ((x : A) → Said text (suc k) key read x → Judged Fits (suc k) (Some TooMany)) → Ends Fits Q (onward r q (λ x s. (Err (refusal TooMany (suc k)), s)))
  surplus_line k Q r q past rules (lacks s) judged = lacking_ends k past rules s
  surplus_line k Q r q past rules (wrong {v} s e) judged = unread_ends k v past rules s e
  surplus_line {key = key} {read = read} k Q r q past rules (right {v} {x} s e) judged = let j = judged x (said text k key v read x s e) in leads k TooMany past j.0 j.1

  pub surplus_step : {A B : Type 0} {key : List ℕ} {read : List ℕ → Option A} (k : ℕ) (Q : B → Place → Type 0) → Past Fits k → Ruled Fits text k key read → ((x : A) → Said text (suc k) key read x → Judged Fits (suc k) (Some TooMany)) → Ends Fits Q (one_too_many (field_at key read) (before text k))
  surplus_step {key = key} {read = read} k Q past rules = surplus_line k Q (field_at key read (before text k)).0 (field_at key read (before text k)).1 past rules (line_way text k key read)

  -- the reading goes on where the text does, and else it is at its end
  pub more_or_end : {A : Type 0} (k : ℕ) (Q : A → Place → Type 0) (r : Result A Refusal × Place) (x : A) → (goes_on text k ≡ true → Ends Fits Q r) → (goes_on text k ≡ false → Q x (before text k)) → Ends Fits Q (cond (more? (before text k)) r (Ok x, before text k))
  more_or_end k Q r x on end = cond_both (more? (before text k)) r (Ok x, before text k) (Ends Fits Q) on end

-- a reading that is refused with the first refusal, or accepts where none fits, decides
pub decides : {A : Type 0} (Fits : Refusal → Type 0) (r : Result A Refusal) (q : Place) → EndsAt Fits (λ x s. Clean Fits) r q → Decided Fits r
decides Fits (Ok x) q h = h
decides Fits (Err f) q h = h

-- nothing follows the end of a text
at_end : (text : List ℕ) (n : ℕ) → goes_on text n ≡ false → skip n text ≡ []
at_end text n e = nil_from_length (skip n text) (omega (arith, ltb-false 0 (length (skip n text)) e))

none_after : (text : List ℕ) (n m : ℕ) → goes_on text n ≡ false → n ≤ m → skip m text ≡ []
none_after text n zero e h = let z : n ≡ 0 = omega arith in subst (λ i. skip i text ≡ []) z (at_end text n e)
none_after text n (suc m) e h =
    elim (cases_eq n (suc m)) [
      | inl z ↦ subst (λ i. skip i text ≡ []) z (at_end text n e)
      | inr z ↦ ap after_line (none_after text n m e (omega arith))
    ]

-- so the text does not go on there, and no line has a value
pub stays_ended : (text : List ℕ) (n m : ℕ) → goes_on text n ≡ false → n ≤ m → goes_on text m ≡ false
stays_ended text n m e h = ap (λ l. ltb 0 (length l)) (none_after text n m e h)

silent_line : (key text : List ℕ) (n m : ℕ) → goes_on text n ≡ false → n < m → value_on key text m ≡ None
silent_line key text n zero e h = absurd (omega arith)
silent_line key text n (suc m) e h = ap (value_of key) (none_after text n m e (omega arith))

pub silent : (key text : List ℕ) (n m : ℕ) (v : List ℕ) → goes_on text n ≡ false → n < m → value_on key text m ≡ Some v → ⊥
silent key text n m v e h s = not_both (value_on key text m) v s (silent_line key text n m e h)

pub silent_read : {A : Type 0} (key text : List ℕ) (read : List ℕ → Option A) (n m : ℕ) (x : A) → goes_on text n ≡ false → n < m → Said text m key read x → ⊥
silent_read key text read n m x e h s = not_absent (value_on key text m) read x s (silent_line key text n m e h)
