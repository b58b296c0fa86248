-- What a loose row stands for.
use Rattle.std.specs.Prelude.{◌≡◌, ℕ, suc, ◌+◌, ◌<◌, ◌≤◌, Bool, false, List, [], ◌∷◌, length, take, Some, None, Option, slice_index_or}
use Rattle.std.specs.Coded.{×_prop, Unit-prop}
use Rattle.std.proofs.Common.{arith, length-take}
use Rattle.std.proofs.Math.Bool.{Bool-set}
use Rattle.std.proofs.lemmas.Bool.{cond_both}
use Rattle.store.specs.declared.entry.Entry.{Entry}
use Rattle.store.specs.Orders.{Order}
use Rattle.store.specs.Maps.{lookup, holds, adding, Ascending}
use Rattle.store.proofs.Laws.{length-adding, ascending_adding}
use Rattle.rows.specs.Cells.{Filling, cell_count}

-- the map of the entries: each is added to those behind it
abbrev pub sorted : {K V : Type 0} → (K → K → Bool) → List (Entry K V) → List (Entry K V)
sorted below [] = []
sorted below (e ∷ es) = adding below (sorted below es) e.key e.value

-- no key stands twice
abbrev pub Distinct : {K V : Type 0} → (K → K → Bool) → List (Entry K V) → Type 0
Distinct below [] = Unit {0}
Distinct below (e ∷ es) = (holds below (sorted below es) e.key ≡ false) × Distinct below es

-- the key stands nowhere, or the entry at place i has it and is the one that the map has
abbrev pub Spots : {K V : Type 0} → (K → K → Bool) → List (Entry K V) → K → Option ℕ → Type 0
Spots below es k None = lookup below (sorted below es) k ≡ None
Spots {K} {V} below es k (Some i) = (i < length es) × ((d : Entry K V) → (slice_index_or es i d).key ≡ k) × ((d : Entry K V) → lookup below (sorted below es) k ≡ Some (slice_index_or es i d).value)

-- it is a fact, with no more to it than that it holds
pub distinct_prop : {K V : Type 0} (below : K → K → Bool) (es : List (Entry K V)) → IsProp (Distinct below es)
distinct_prop below [] = Unit-prop
distinct_prop below (e ∷ es) = ×_prop (Bool-set _ _) (distinct_prop below es)

-- the map's keys ascend
pub ascending_sorted : {K V : Type 0} {below : K → K → Bool} (o : Order below) (es : List (Entry K V)) → Ascending below (sorted below es)
ascending_sorted o [] = tt
ascending_sorted {below = below} o (e ∷ es) = ascending_adding o (sorted below es) e.key e.value (ascending_sorted o es)

-- no more keys than entries
pub few : {K V : Type 0} {below : K → K → Bool} (o : Order below) (es : List (Entry K V)) → length (sorted below es) ≤ length es
few o [] = omega arith
few {below = below} o (e ∷ es) =
    let h = few o es in
    rw (length-adding o (sorted below es) e.key e.value) (cond_both (holds below (sorted below es) e.key) 0 1 (λ n. length (sorted below es) + n ≤ suc (length es)) (λ _. omega arith) (λ _. omega arith))

-- no more keys than cells
pub few_sorted : {K V : Type 0} {below : K → K → Bool} (o : Order below) (f : Filling (Entry K V)) → length (sorted below f.items) ≤ cell_count f
few_sorted o f = let h = few o f.items in omega arith

-- the same of any cells, of which the first n are in use
pub few_sorted_any : {K V : Type 0} {below : K → K → Bool} (o : Order below) (n : ℕ) (xs : List (Entry K V)) → length (sorted below (take n xs)) ≤ length xs
few_sorted_any o n xs = let h = few o (take n xs) in omega (arith, length-take n xs)
