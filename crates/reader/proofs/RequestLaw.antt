-- A request's text is accepted where no refusal fits it, and else refused with the first that fits.
use Rattle.std.proofs.Common.{◌≡◌, ℕ, zero, suc, ◌+◌, ◌-◌, ◌<◌, ◌≤◌, true, false, List, [], ◌∷◌, ◌++◌, length, is_some, Some, None, codes, Option, Result, sym, refl, ap, subst, inl, inr, arith, lit≤}
use Rattle.std.proofs.lemmas.List.{get_or_past, length_push}
use Rattle.std.proofs.lemmas.Bool.{both_ways}
use Rattle.refusal.specs.declared.Reason.TheVariants.{MissingKey, UnlawfulValue, TooMany}
use Rattle.refusal.specs.declared.Refusal.{Refusal}
use Rattle.refusal.specs.Refusals.{refusal}
use Rattle.identity.specs.declared.snssai.Snssai.{Snssai}
use Rattle.identity.specs.declared.supi.Supi.{Supi}
use Rattle.identity.specs.Decimals.{decimal_of}
use Rattle.identity.specs.Slices.{slice_of}
use Rattle.identity.specs.Subscribers.{supi_of}
use Rattle.identity.specs.Words.{access_of}
use Rattle.reader.specs.declared.request.Call.{Call}
use Rattle.reader.specs.declared.request.Request.{Request}
use Rattle.reader.specs.declared.words.Operation.{Operation}
use Rattle.reader.specs.declared.words.Operation.TheVariants.{Ue, Pdu}
use Rattle.reader.specs.Faults.{goes_on, value_on, rule, Decided}
use Rattle.reader.specs.Lines.{Place}
use Rattle.reader.specs.Readings.{Reading, and_then, gives, field_at, at_most_at}
use Rattle.reader.specs.RequestFaults.{operation_in, head_rules, slice_rule, rule_on, Due, RequestFault, missing, unlawful, surplus}
use Rattle.reader.specs.Requests.{call_lines_at, call_of, call_at, slice_at, slices_at, request_at, request_of}
use Rattle.reader.specs.Words.{operation_of, ue_flag_of, pdu_flag_of}
use Rattle.reader.proofs.Reach.{Past, Least, Clean, Judged, Ends, before, Said, Ruled, value_read, is_line, not_both, under_rule, reads_key, reads_value, in_turn, field_step, surplus_step, more_or_end, decides, stays_ended, silent}

-- what follows the call of a request
abbrev rest_of : Call × Supi → Reading Request
rest_of c =
    and_then (field_at (codes "access=") access_of) (λ a.
    and_then slices_at (λ ss.
    gives (record { call = c.0; ue = c.1; access = a; slices = ss })))

module _ (text : List ℕ) where
  abbrev Fits : Refusal → Type 0
  Fits = RequestFault text

  -- what is due on line k + 1 is this key and this reading
  abbrev Has : {A : Type 0} → ℕ → List ℕ → (List ℕ → Option A) → Type 0
  Has k key read = rule_on text (suc k) ≡ rule key read

  -- every refusal stands on a line, from 1
  from_one : Past Fits 0
  from_one g (missing d e) = d.0
  from_one g (unlawful {n} {v} e l) = is_line (rule_on text n).key text n v e
  from_one g (surplus h e) = omega arith

  -- after the end no refusal fits
  ended : (k : ℕ) → 6 ≤ k → goes_on text k ≡ false → Past Fits k → Clean Fits
  ended k h end past g (missing {n} d e) =
      let l = past (refusal MissingKey n) (missing d e) in
      elim d.1 [ inl m ↦ absurd (omega arith) | inr on ↦ both_ways (goes_on text (n - 1)) (stays_ended text k (n - 1) end (omega arith)) on ]
  ended k h end past g (unlawful {n} {v} e l) = silent (rule_on text n).key text k n v end (past (refusal UnlawfulValue n) (unlawful e l)) e
  ended k h end past g (surplus {n} {v} m e) = silent (codes "slice=") text k n v end (past (refusal TooMany n) (surplus m e)) e

  module _ {A : Type 0} (k : ℕ) (key : List ℕ) (read : List ℕ → Option A) (has : Has k key read) where
    -- a line that has a value lacks no key
    least_unlawful : (v : List ℕ) → value_on key text (suc k) ≡ Some v → Least Fits (suc k) UnlawfulValue
    least_unlawful v s g (missing {n} d e) z = absurd (not_both (value_on key text (suc k)) v s (under_rule text key read (rule_on text) n (suc k) None z has e))
    least_unlawful v s g (unlawful e l) z = lit≤ tt
    least_unlawful v s g (surplus h e) z = lit≤ tt

    -- a line of which only the rule is known
    ruled : Due text (suc k) → Ruled Fits text k key read
    ruled due = record {
      lacking = λ s. missing due (rw has s);
      unread = λ v s e. unlawful {v = v} (rw has s) (rw has (ap is_some e));
      least = least_unlawful;
    }

    -- a line whose value is read can only be one slice too many
    only-surplus : (x : A) → Said text (suc k) key read x → (g : Refusal) → Fits g → g.line ≡ suc k → (g.reason ≡ TooMany) × (13 ≤ k)
    only-surplus x s g (missing {n} d e) z = absurd (reads_key text key read (rule_on text) n (suc k) x z has s e)
    only-surplus x s g (unlawful {n} {v} e l) z = absurd (reads_value text key read (rule_on text) n (suc k) x v z has s e l)
    only-surplus x s g (surplus h e) z = (refl, omega arith)

    -- before the ninth slice nothing fits it
    plain_step : {B : Type 0} (Q : B → Place → Type 0) (f : A → Reading B) → Due text (suc k) → k < 13 → Past Fits k → ((x : A) → Said text (suc k) key read x → Past Fits (suc k) → Ends Fits Q (f x (before text (suc k)))) → Ends Fits Q (and_then (field_at key read) f (before text k))
    plain_step Q f due h past = field_step Fits text k Q f past (ruled due) (λ x s g fits e. let f = only-surplus x s g fits e in omega arith)

    -- a line of the head
    head_step : {B : Type 0} (Q : B → Place → Type 0) (f : A → Reading B) → k < 6 → Past Fits k → ((x : A) → Said text (suc k) key read x → Past Fits (suc k) → Ends Fits Q (f x (before text (suc k)))) → Ends Fits Q (and_then (field_at key read) f (before text k))
    head_step Q f h past = plain_step Q f (omega arith, inl (omega arith)) (omega arith) past

  -- every line from the sixth is a slice
  is_slice : (k : ℕ) → 5 ≤ k → Has k (codes "slice=") slice_of
  is_slice k h = get_or_past (head_rules (operation_in text)) (suc k - 1) slice_rule (omega arith)

  -- the ninth slice is one too many
  ninth : (k : ℕ) (x : Snssai) → 13 ≤ k → Said text (suc k) (codes "slice=") slice_of x → Judged Fits (suc k) (Some TooMany)
  ninth k x h s =
      let v = value_read (value_on (codes "slice=") text (suc k)) slice_of x s in
      (surplus (omega arith) v.1, λ g fits z. let f = only-surplus k (codes "slice=") slice_of (is_slice k (omega arith)) x s g fits z in grind arith)

  -- all slices, up to the end of the text or to the ninth
  slice_steps : (n : ℕ) (done : List Snssai) (k : ℕ) → k ≡ 5 + length done → n + length done ≡ 8 → Due text (suc k) → Past Fits k → Ends Fits (λ ss q. Clean Fits) (at_most_at n slice_at done (before text k))
  unfolding at_most_at
  slice_steps zero done k at room due past =
      surplus_step Fits text k _ past (ruled k (codes "slice=") slice_of (is_slice k (omega arith)) due) (λ x. ninth k x (omega arith))
  slice_steps (suc n) done k at room due past =
      plain_step k (codes "slice=") slice_of (is_slice k (omega arith)) _ _ due (omega arith) past (λ x _ past1.
      let longer = length_push done x in
      let next : suc k ≡ suc (suc k) - 1 = omega arith in
      more_or_end Fits text (suc k) _ (at_most_at n slice_at (done ++ x ∷ []) (before text (suc k))) (done ++ x ∷ [])
      (λ on. slice_steps n (done ++ x ∷ []) (suc k) (omega arith) (omega arith) (omega arith, inr (subst (λ i. goes_on text i ≡ true) next on)) past1)
      (λ end. ended (suc k) (omega arith) end past1))

  slices_read : Past Fits 5 → Ends Fits (λ ss q. Clean Fits) (slices_at (before text 5))
  unfolding slices_at
  slices_read past = slice_steps 8 [] 5 (omega arith) (omega arith) (omega arith, inl (omega arith)) past

  -- the call has brought the reading past line 4
  data Called : Place → Type 0 where
    called : Past Fits 4 → Called (before text 4)

  -- the three lines after the operation
  lines_read : {F N : Type 0} (flag_of : List ℕ → Option F) (key : List ℕ) (number_of : List ℕ → Option N) → Has 1 (codes "flag=") flag_of → Has 3 key number_of → Past Fits 1 → Ends Fits (λ c q. Called q) (call_lines_at flag_of key number_of (before text 1))
  lines_read flag_of key number_of flags numbers past1 =
      head_step 1 (codes "flag=") flag_of flags _ _ (omega arith) past1 (λ flag _ past2.
      head_step 2 (codes "ue=") supi_of refl _ _ (omega arith) past2 (λ ue _ past3.
      head_step 3 key number_of numbers _ _ (omega arith) past3 (λ n _ past4.
      called past4)))

  call_under : (op : Operation) → operation_in text ≡ Some op → Past Fits 1 → Ends Fits (λ c q. Called q) (call_of op (before text 1))
  call_under Ue is past1 = in_turn Fits text (λ c q. Called q) _ (call_lines_at ue_flag_of (codes "nf=") (decimal_of 65535)) _ (before text 1) (lines_read ue_flag_of (codes "nf=") (decimal_of 65535) (rw is) (rw is) past1) (λ c q h. h)
  call_under Pdu is past1 = in_turn Fits text (λ c q. Called q) _ (call_lines_at pdu_flag_of (codes "session=") (decimal_of 255)) _ (before text 1) (lines_read pdu_flag_of (codes "session=") (decimal_of 255) (rw is) (rw is) past1) (λ c q h. h)

  call_read : Ends Fits (λ c q. Called q) (call_at (before text 0))
  unfolding call_at
  call_read = head_step 0 (codes "op=") operation_of refl _ call_of (omega arith) from_one call_under

  rest_read : (c : Call × Supi) (q : Place) → Called q → Ends Fits (λ r s. Clean Fits) (rest_of c q)
  rest_read c q (called past4) =
      head_step 4 (codes "access=") access_of refl _ _ (omega arith) past4 (λ a _ past5.
      in_turn Fits text (λ ss s. Clean Fits) _ slices_at _ (before text 5) (slices_read past5) (λ ss s none. none))

-- the reading of a request decides by the refusals that fit its text
pub request_decided : (text : List ℕ) → Decided (RequestFault text) (request_of text)
unfolding request_of
request_decided text =
    decides (RequestFault text) (request_at (text, 1)).0 (request_at (text, 1)).1
    (in_turn (RequestFault text) text (λ c q. Called text q) _ call_at rest_of (text, 1) (call_read text) (rest_read text))

pub decided : (text : List ℕ) (r : Result Request Refusal) → r ≡ request_of text → Decided (RequestFault text) r
decided text r e = subst (Decided (RequestFault text)) (sym e) (request_decided text)
