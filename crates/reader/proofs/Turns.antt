-- What one turn of the reading up to the end comes to.
use Rattle.std.proofs.Common.{◌≡◌, ℕ, zero, suc, ◌+◌, ◌-◌, ◌<◌, ◌≤◌, true, false, cond, List, [], ◌∷◌, ◌++◌, length, Ok, Err, Result, sym, ap, ◌∙◌, arith}
use Rattle.std.proofs.lemmas.List.{length_push}
use Rattle.std.proofs.lemmas.Bool.{cond-true, cond-false}
use Rattle.std.proofs.lemmas.Bool.Decides.{nat_tests}
use Rattle.few.specs.declared.few.Full.{Full}
use Rattle.few.specs.Fews.{pushed}
use Rattle.refusal.specs.declared.Reason.TheVariants.{TooMany}
use Rattle.refusal.specs.declared.Refusal.{Refusal}
use Rattle.refusal.specs.Refusals.{refusal}
use Rattle.reader.specs.Lines.{Place, more?}
use Rattle.reader.specs.Readings.{Reading, onward, and_then, at_most_at}

went : {A B : Type 0} (r : Result A Refusal × Place) (m : Reading A) (f : A → Reading B) (p : Place) → r ≡ m p → and_then m f p ≡ onward r.0 r.1 f
went r m f p e = ap (λ (i : Result _ Refusal × Place). onward i.0 i.1 f) (sym e)

-- an item that found its place
placed : {A : Type 0} (most : ℕ) (done ys : List A) (x : A) (r : Result (Unit {0}) Full) → (r, ys) ≡ pushed most x done → r ≡ Ok tt → (length done < most) × (ys ≡ done ++ x ∷ []) × (length ys ≡ length done + 1)
placed most done ys x r put ok =
    let room : length done < most = grind (arith, nat_tests) in
    let grew : ys ≡ done ++ x ∷ [] = grind (arith, nat_tests) in
    (room, grew, ap length grew ∙ length_push done x)

pub falls : {A : Type 0} (most : ℕ) (done ys : List A) (x : A) (r : Result (Unit {0}) Full) → (r, ys) ≡ pushed most x done → r ≡ Ok tt → most - length ys < most - length done
falls most done ys x r put ok = let h = placed most done ys x r put ok in omega (arith, h.0, h.2)

-- nothing is read yet
pub started : {A : Type 0} (most : ℕ) (one : List A → Reading A) (xs : List A) (p : Place) → xs ≡ [] → at_most_at (most - length xs) one xs p ≡ at_most_at most one [] p
started most one xs p e =
    let z : most - 0 ≡ most = omega arith in
    ap (λ l. at_most_at (most - length l) one l p) e ∙ ap (λ k. at_most_at k one [] p) z

-- In each lemma `whole` is what is read altogether, and what is still to be read comes to that.

-- the item is refused
pub refused : {A : Type 0} (n : ℕ) (one : List A → Reading A) (done : List A) (f : Refusal) (p q : Place) (whole : Result (List A) Refusal × Place) → (Err f, q) ≡ one done p → at_most_at n one done p ≡ whole → (Err f, q) ≡ whole
unfolding at_most_at
refused zero one done f p q whole e inv = sym (went (Err f, q) (one done) (λ y r. (Err (refusal TooMany p.1), r)) p e) ∙ inv
refused (suc n) one done f p q whole e inv =
    sym (went (Err f, q) (one done) (λ y r. cond (more? r) (at_most_at n one (done ++ y ∷ []) r) (Ok (done ++ y ∷ []), r)) p e) ∙ inv

module _ {A : Type 0} (most : ℕ) (one : List A → Reading A) (done ys : List A) (x : A) (p q : Place) (r : Result (Unit {0}) Full) (whole : Result (List A) Refusal × Place) where
  -- the item was read, and there is no place for it
  pub surplus : (f : Full) → (Ok x, q) ≡ one done p → (r, ys) ≡ pushed most x done → r ≡ Err f → at_most_at (most - length done) one done p ≡ whole → (Err (refusal TooMany p.1), q) ≡ whole
  unfolding at_most_at
  surplus f e put full inv =
      let past : most ≤ length done = grind (arith, nat_tests) in
      let none : 0 ≡ most - length done = omega arith in
      sym (went (Ok x, q) (one done) (λ y s. (Err (refusal TooMany p.1), s)) p e) ∙ ap (λ k. at_most_at k one done p) none ∙ inv

  -- the item was read, and found its place
  next : (n : ℕ) → (Ok x, q) ≡ one done p → at_most_at (suc n) one done p ≡ cond (more? q) (at_most_at n one (done ++ x ∷ []) q) (Ok (done ++ x ∷ []), q)
  unfolding at_most_at
  next n e = went (Ok x, q) (one done) (λ y s. cond (more? s) (at_most_at n one (done ++ y ∷ []) s) (Ok (done ++ y ∷ []), s)) p e

  went_on : (Ok x, q) ≡ one done p → (r, ys) ≡ pushed most x done → r ≡ Ok tt → at_most_at (most - length done) one done p ≡ cond (more? q) (at_most_at (most - length ys) one ys q) (Ok ys, q)
  went_on e put ok =
      let h = placed most done ys x r put ok in
      let n = most - length ys in
      let less : most - length done ≡ suc n = omega (arith, h.0, h.2) in
      ap (λ k. at_most_at k one done p) less ∙ next n e ∙ ap (λ zs. cond (more? q) (at_most_at n one zs q) (Ok zs, q)) (sym h.1)

  -- and the text goes on
  pub again : (Ok x, q) ≡ one done p → (r, ys) ≡ pushed most x done → r ≡ Ok tt → true ≡ more? q → at_most_at (most - length done) one done p ≡ whole → at_most_at (most - length ys) one ys q ≡ whole
  again e put ok m inv = sym (went_on e put ok ∙ cond-true (more? q) _ _ (sym m)) ∙ inv

  -- or ends
  pub stopped : (Ok x, q) ≡ one done p → (r, ys) ≡ pushed most x done → r ≡ Ok tt → false ≡ more? q → at_most_at (most - length done) one done p ≡ whole → (Ok ys, q) ≡ whole
  stopped e put ok m inv = sym (went_on e put ok ∙ cond-false (more? q) _ _ (sym m)) ∙ inv
