-- The map by the place of a key in its list.
use Rattle.std.proofs.Common.{◌≡◌, ◌<◌, ◌≤◌, Bool, true, false, not, List, [], ◌∷◌, length, get_or, set, is_some, Some, None, refl, arith}
use Rattle.std.specs.List.{insert, remove, position_or_len}
use Rattle.store.specs.declared.entry.Entry.{Entry}
use Rattle.store.specs.Maps.{entry, lookup, holds, place, adding, removing, least_from}

module _ {K V : Type 0} (below : K → K → Bool) where
  pub place_most : (es : List (Entry K V)) (k : K) → place below es k ≤ length es
  place_most [] k = omega arith
  place_most (e ∷ es) k = let h = place_most es k in grind arith

  pub place-held : (es : List (Entry K V)) (k : K) → holds below es k ≡ true → place below es k < length es
  place-held [] k p = grind arith
  place-held (e ∷ es) k p = let h = place-held es k in grind arith

  pub lookup-held : (es : List (Entry K V)) (k : K) (d : Entry K V) → holds below es k ≡ true → lookup below es k ≡ Some (get_or es (place below es k) d).value
  lookup-held [] k d p = grind arith
  lookup-held (e ∷ es) k d p = let h = lookup-held es k d in grind arith

  pub lookup-missing : (es : List (Entry K V)) (k : K) → holds below es k ≡ false → lookup below es k ≡ None
  lookup-missing [] k p = refl
  lookup-missing (e ∷ es) k p = let h = lookup-missing es k in grind arith

  pub adding-held : (es : List (Entry K V)) (k : K) (v : V) → holds below es k ≡ true → adding below es k v ≡ set es (place below es k) (entry k v)
  adding-held [] k v p = grind arith
  adding-held (e ∷ es) k v p = let h = adding-held es k v in grind arith

  pub adding-missing : (es : List (Entry K V)) (k : K) (v : V) → holds below es k ≡ false → adding below es k v ≡ insert es (place below es k) (entry k v)
  adding-missing [] k v p = refl
  adding-missing (e ∷ es) k v p = let h = adding-missing es k v in grind arith

  pub removing-held : (es : List (Entry K V)) (k : K) → holds below es k ≡ true → removing below es k ≡ remove es (place below es k)
  removing-held [] k p = refl
  removing-held (e ∷ es) k p = let h = removing-held es k in grind arith

  pub removing-missing : (es : List (Entry K V)) (k : K) → holds below es k ≡ false → removing below es k ≡ es
  removing-missing [] k p = refl
  removing-missing (e ∷ es) k p = let h = removing-missing es k in grind arith

  pub least_place : (es : List (Entry K V)) (k : K) (d : Entry K V) → place below es k < length es → least_from below es k ≡ Some (get_or es (place below es k) d).key
  least_place [] k d p = grind arith
  least_place (e ∷ es) k d p = let h = least_place es k d in grind arith

  pub least_past : (es : List (Entry K V)) (k : K) → length es ≤ place below es k → least_from below es k ≡ None
  least_past [] k p = refl
  least_past (e ∷ es) k p = let h = least_past es k in grind arith

  pub is_some_lookup : (es : List (Entry K V)) (k : K) → is_some (lookup below es k) ≡ holds below es k
  is_some_lookup [] k = refl
  is_some_lookup (e ∷ es) k = let h = is_some_lookup es k in grind arith

  -- a test that passes at the keys which are not below k passes first at the place of k
  pub place_first : (k : K) (test : Entry K V → Bool) (passes : (e : Entry K V) → test e ≡ not (below e.key k)) → (es : List (Entry K V)) → place below es k ≡ position_or_len test es
  place_first k test passes [] = refl
  place_first k test passes (e ∷ es) = let h = place_first k test passes es in let p = passes e in grind arith

  -- the first entry that is not below k is not above it, where k is held
  pub holds_at : (es : List (Entry K V)) (k : K) (d : Entry K V) → place below es k < length es → (below (get_or es (place below es k) d).key k ≡ false) × (holds below es k ≡ not (below k (get_or es (place below es k) d).key))
  holds_at [] k d p = grind arith
  holds_at (e ∷ es) k d p = let h = holds_at es k d in grind arith

  pub holds_past : (es : List (Entry K V)) (k : K) → length es ≤ place below es k → holds below es k ≡ false
  holds_past [] k p = refl
  holds_past (e ∷ es) k p = let h = holds_past es k in grind arith
