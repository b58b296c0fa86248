-- What the blocks that were read tell of their text.
use Rattle.std.proofs.Common.{◌≡◌, ℕ, suc, ◌+◌, ◌<◌, true, false, ◌||◌, ◌⊎◌, List, [], ◌∷◌, ◌++◌, length, Some, Option, sym, refl, ap, ◌∙◌, subst, inl, inr, arith}
use Rattle.std.proofs.lemmas.List.{length_push}
use Rattle.std.proofs.lemmas.List.Folds.{list_any-append}
use Rattle.std.proofs.lemmas.Option.{same_Some}
use Rattle.std.proofs.lemmas.List.Sums.{sum_by_push}
use Rattle.std.proofs.lemmas.Bool.{and_from, and_parts, both_ways, cases_eq, false≢true, eq-eqb, eqb-true, or_cases, or_parts}
use Rattle.std.proofs.lemmas.Bool.Decides.{nat_tests}
use Rattle.identity.specs.declared.snssai.Snssai.{Snssai}
use Rattle.identity.proofs.Made.{slice_made}
use Rattle.reader.specs.declared.settings.Block.{Block}
use Rattle.reader.specs.SettingsFaults.{slice_in, entries_in, sessions_in, or_zero, total}
use Rattle.reader.specs.Tables.{same_slice, named, entries, sessions}

-- the reserved entries and sessions, and the slices that are named, are those of the text's first blocks
pub record Told (text : List ℕ) (done : List Block) : Type 0 where
  pub reserved : entries done ≡ total (entries_in text) (length done)
  pub open_for : sessions done ≡ total (sessions_in text) (length done)
  pub known : (s : Snssai) → named s done ≡ true → (a : ℕ) × (a < length done) × (slice_in text a ≡ Some s)
  pub unknown : (s : Snssai) (a : ℕ) → named s done ≡ false → a < length done → slice_in text a ≡ Some s → ⊥

-- a slice is its type and its differentiator
same_from_test : (a b : Snssai) → same_slice a b ≡ true → a ≡ b
same_from_test a b e =
    let p = and_parts _ _ e in
    let t = eqb-true a.sst b.sst p.0 in
    let d = eqb-true a.sd b.sd p.1 in
    let m = slice_made a in
    let n = slice_made b in
    cc

test_from_same : (a b : Snssai) → a ≡ b → same_slice a b ≡ true
test_from_same a b e = and_from _ _ (eq-eqb a.sst b.sst (ap (λ s. s.sst) e)) (eq-eqb a.sd b.sd (ap (λ s. s.sd) e))

-- one more block at the end
named_push : (s : Snssai) (done : List Block) (x : Block) → named s (done ++ x ∷ []) ≡ (named s done || same_slice x.slice s)
named_push s done x = let e = list_any-append (λ (b : Block). same_slice b.slice s) done (x ∷ []) in grind (arith, nat_tests)

pub total_more : (told : ℕ → Option ℕ) (b n : ℕ) → told b ≡ Some n → total told (suc b) ≡ total told b + n
total_more told b n e = ap (λ m. total told b + or_zero m) e

total_push : (told : ℕ → Option ℕ) (done : List Block) (x : Block) (n : ℕ) → told (length done) ≡ Some n → total told (length (done ++ x ∷ [])) ≡ total told (length done) + n
total_push told done x n e =
    let z : length (done ++ x ∷ []) ≡ suc (length done) = omega (arith, length_push done x) in
    ap (total told) z ∙ total_more told (length done) n e

module _ (text : List ℕ) where
  pub none_told : Told text []
  none_told = record { reserved = refl; open_for = refl; known = λ s e. absurd (false≢true e); unknown = λ s a e h. absurd (omega arith) }

  module _ (done : List Block) (x : Block) (told : Told text done) (s : Snssai) (is : slice_in text (length done) ≡ Some x.slice) where
    known_more : (named s done ≡ true) ⊎ (same_slice x.slice s ≡ true) → (a : ℕ) × (a < length (done ++ x ∷ [])) × (slice_in text a ≡ Some s)
    known_more (inl e) = let k = told.known s e in let n = length_push done x in (k.0, omega arith, k.2)
    known_more (inr e) = let n = length_push done x in (length done, omega arith, is ∙ ap (λ i. Some i) (same_from_test x.slice s e))

    unknown_more : (a : ℕ) → (named s done ≡ false) × (same_slice x.slice s ≡ false) → a < length (done ++ x ∷ []) → slice_in text a ≡ Some s → ⊥
    unknown_more a apart h e =
        let n = length_push done x in
        elim (cases_eq a (length done)) [
          | inl z ↦ both_ways (same_slice x.slice s) apart.1 (test_from_same x.slice s (same_Some _ _ (sym is ∙ subst (λ i. slice_in text i ≡ Some s) z e)))
          | inr z ↦ told.unknown s a apart.0 (omega arith) e
        ]

  -- a block whose lines stand in the text
  pub told_more : (done : List Block) (x : Block) → Told text done → slice_in text (length done) ≡ Some x.slice → entries_in text (length done) ≡ Some x.ue_entries → sessions_in text (length done) ≡ Some x.pdu_max → Told text (done ++ x ∷ [])
  told_more done x told s n m = record {
    reserved = sum_by_push (λ b. b.ue_entries) done x ∙ ap (λ i. i + x.ue_entries) told.reserved ∙ sym (total_push (entries_in text) done x x.ue_entries n);
    open_for = sum_by_push (λ b. b.pdu_max) done x ∙ ap (λ i. i + x.pdu_max) told.open_for ∙ sym (total_push (sessions_in text) done x x.pdu_max m);
    known = λ t e. known_more done x told t s (or_cases _ _ (sym (named_push t done x) ∙ e));
    unknown = λ t a e. unknown_more done x told t s a (or_parts _ _ (sym (named_push t done x) ∙ e));
  }
