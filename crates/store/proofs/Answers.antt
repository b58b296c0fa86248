-- What putting and taking answer, by what was found.
use Rattle.std.proofs.Common.{◌≡◌, ℕ, ◌<◌, ◌≤◌, Bool, true, false, List, length, Ok, Err, arith}
use Rattle.refusal.specs.declared.Reason.TheVariants.{StoreFull}
use Rattle.refusal.specs.declared.Refusal.{Refusal}
use Rattle.refusal.specs.Refusals.{refusal}
use Rattle.store.specs.declared.entry.Entry.{Entry}
use Rattle.store.specs.Maps.{holds, adding, removing, putting, taking}

module _ {K V : Type 0} (below : K → K → Bool) (es fs : List (Entry K V)) (k : K) where
  -- the key was held
  pub put_held : (c : ℕ) (v : V) → holds below es k ≡ true → fs ≡ adding below es k v → (Ok tt, fs) ≡ putting below c es k v
  put_held c v h e = grind arith

  -- the key is new, and there was a place
  pub put_new : (c : ℕ) (v : V) → length es < c → fs ≡ adding below es k v → (Ok tt, fs) ≡ putting below c es k v
  put_new c v h e = grind arith

  -- the key is new, and the store is full
  pub put_refused : (c : ℕ) (v : V) (f : Refusal) → holds below es k ≡ false → c ≤ length es → f ≡ refusal StoreFull 0 → fs ≡ es → (Err f, fs) ≡ putting below c es k v
  put_refused c v f h l why e = grind arith

  pub took : (b : Bool) → holds below es k ≡ b → fs ≡ removing below es k → (b, fs) ≡ taking below es k
  took b h e = grind arith
