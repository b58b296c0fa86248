-- The map of entries that stand in no order.
use Rattle.std.proofs.Common.{◌≡◌, ℕ, zero, suc, ◌+◌, ◌-◌, ◌<◌, Bool, true, false, cond, List, [], ◌∷◌, ◌++◌, length, get_or, take, set, is_some, Some, None, Option, ltb, sym, refl, ap, ◌∙◌, subst, ⊎_elim, arith, length-set, length-take, length-append}
use lib.Seq.{take-set-lt}
use Rattle.std.specs.List.{find, position_or_len, swap_remove}
use Rattle.std.specs.Option.{option_map}
use Rattle.std.proofs.lemmas.List.{take_all, take_more, take-set-le, get_or-take, length-take-le}
use Rattle.std.proofs.lemmas.List.Folds.{find_at}
use Rattle.std.proofs.lemmas.List.Sums.{passes_at_first}
use Rattle.std.proofs.lemmas.Option.{gets}
use Rattle.std.proofs.lemmas.Bool.{cases_lt, both_ways}
use Rattle.store.specs.declared.entry.Entry.{Entry}
use Rattle.store.specs.Orders.{Order}
use Rattle.store.specs.Maps.{entry, lookup, holds, adding, removing, Ascending}
use Rattle.store.proofs.Laws.{lookup-adding_same, lookup-adding_other, lookup-removing_same, lookup-removing_other, length-adding, length-removing, removing-adding, adding-adding}
use Rattle.store.proofs.Places.{is_some_lookup}
use Rattle.rows.specs.LooseRows.{sorted, Distinct, Spots, ascending_sorted, few}

-- a key that is held is not one that is missing
other_key : {K V : Type 0} (below : K → K → Bool) (es : List (Entry K V)) (k q : K) → holds below es k ≡ true → holds below es q ≡ false → q ≡ k → ⊥
other_key below es k q h m e = both_ways (holds below es q) m (ap (holds below es) e ∙ h)

-- a key is held where it has a value
module _ {K V : Type 0} (below : K → K → Bool) (es : List (Entry K V)) (k : K) where
  pub held_found : (v : V) → lookup below es k ≡ Some v → holds below es k ≡ true
  held_found v e = sym (is_some_lookup below es k) ∙ ap is_some e

  pub missing_found : lookup below es k ≡ None → holds below es k ≡ false
  missing_found e = sym (is_some_lookup below es k) ∙ ap is_some e

some_item : {X : Type 0} (xs : List X) (i : ℕ) → i < length xs → X
some_item [] i h = absurd (omega arith)
some_item (x ∷ xs) i h = x

module _ {K V : Type 0} {below : K → K → Bool} (o : Order below) where
  -- as many keys as entries
  pub full : (es : List (Entry K V)) → Distinct below es → length (sorted below es) ≡ length es
  full [] d = refl
  full (e ∷ es) d = let h = full es d.1 in let l = length-adding o (sorted below es) e.key e.value in grind arith

  -- where there are as many keys as entries, no key stands twice
  distinct : (es : List (Entry K V)) → length (sorted below es) ≡ length es → Distinct below es
  distinct [] p = tt
  distinct (e ∷ es) p =
      let l = length-adding o (sorted below es) e.key e.value in
      let f = few o es in
      let m : holds below (sorted below es) e.key ≡ false = grind arith in
      (m, distinct es (grind arith))

  -- a key is held once it was put
  holds-adding_same : (es : List (Entry K V)) (k : K) (v : V) → holds below (adding below es k v) k ≡ true
  holds-adding_same es k v = held_found below (adding below es k v) k v (lookup-adding_same o es k v)

  -- a put changes nothing at another key
  holds-adding_other : (es : List (Entry K V)) (k q : K) (v : V) → (q ≡ k → ⊥) → holds below (adding below es k v) q ≡ holds below es q
  holds-adding_other es k q v ne = sym (is_some_lookup below (adding below es k v) q) ∙ ap is_some (lookup-adding_other o es k q v ne) ∙ is_some_lookup below es q

  -- what is missing after a put is not its key, and was missing before
  missing_before : (es : List (Entry K V)) (k q : K) (v : V) → holds below (adding below es k v) q ≡ false → (q ≡ k → ⊥) × (holds below es q ≡ false)
  missing_before es k q v m =
      let ne = other_key below (adding below es k v) k q (holds-adding_same es k v) m in
      (ne, sym (holds-adding_other es k q v ne) ∙ m)

  -- a key is not held once it was removed
  gone : (es : List (Entry K V)) (k : K) → Ascending below es → holds below (removing below es k) k ≡ false
  gone es k a = missing_found below (removing below es k) k (lookup-removing_same o es k a)

  -- a removal brings no key back
  still_missing : (es : List (Entry K V)) (k q : K) → Ascending below es → (q ≡ k → ⊥) → holds below es q ≡ false → holds below (removing below es k) q ≡ false
  still_missing es k q a ne m = sym (is_some_lookup below (removing below es k) q) ∙ ap is_some (lookup-removing_other o es k q a ne) ∙ is_some_lookup below es q ∙ m

  -- a put needs no removal first
  adding_over : (es : List (Entry K V)) (k : K) (v : V) → Ascending below es → adding below (removing below es k) k v ≡ adding below es k v
  adding_over [] k v a = refl
  adding_over (e ∷ es) k v a = let h = adding_over es k v a.1 in let i = o.irreflexive k in grind arith

  -- a put and a removal at different keys
  removing-after : (es : List (Entry K V)) (k q : K) (v : V) → (q ≡ k → ⊥) → Ascending below es → removing below (adding below es q v) k ≡ adding below (removing below es k) q v
  removing-after [] k q v ne a = grind arith
  removing-after (e ∷ es) k q v ne a = let h = removing-after es k q v ne a.1 in grind arith

  -- the key of every entry is held
  held_at : (es : List (Entry K V)) (i : ℕ) (d : Entry K V) → i < length es → holds below (sorted below es) (get_or es i d).key ≡ true
  held_at [] i d h = grind arith
  held_at (e ∷ es) zero d h = holds-adding_same (sorted below es) e.key e.value
  held_at (e ∷ es) (suc i) d h =
      let t = held_at es i d (omega arith) in
      let b = missing_before (sorted below es) e.key (get_or es i d).key e.value in
      grind arith

  -- an entry in the place of another
  set-sorted : (es : List (Entry K V)) (i : ℕ) (x d : Entry K V) → Distinct below es → i < length es → holds below (removing below (sorted below es) (get_or es i d).key) x.key ≡ false → sorted below (set es i x) ≡ adding below (removing below (sorted below es) (get_or es i d).key) x.key x.value
  set-sorted [] i x d u h m = grind arith
  set-sorted (e ∷ es) zero x d u h m = ap (λ l. adding below l x.key x.value) (sym (removing-adding o (sorted below es) e.key e.value u.0))
  set-sorted (e ∷ es) (suc i) x d u h m =
      let k = (get_or es i d).key in
      let t : i < length es = omega arith in
      let ne = other_key below (sorted below es) k e.key (held_at es i d t) u.0 in
      let r = removing-after (sorted below es) k e.key e.value ne (ascending_sorted o es) in
      let b = missing_before (removing below (sorted below es) k) e.key x.key e.value (ap (λ l. holds below l x.key) (sym r) ∙ m) in
      let p = set-sorted es i x d u.1 t b.1 in
      let a = adding-adding o (removing below (sorted below es) k) x.key e.key x.value e.value (λ q. b.0 (sym q)) in
      cc

  -- an entry behind the others
  push_sorted : (es : List (Entry K V)) (x : Entry K V) → holds below (sorted below es) x.key ≡ false → sorted below (es ++ x ∷ []) ≡ adding below (sorted below es) x.key x.value
  push_sorted [] x m = refl
  push_sorted (e ∷ es) x m =
      let b = missing_before (sorted below es) e.key x.key e.value m in
      let p = push_sorted es x b.1 in
      let a = adding-adding o (sorted below es) x.key e.key x.value e.value (λ q. b.0 (sym q)) in
      cc

  -- the last key is not among the others
  distinct_front : (es : List (Entry K V)) (x : Entry K V) → Distinct below (es ++ x ∷ []) → (holds below (sorted below es) x.key ≡ false) × Distinct below es
  distinct_front [] x u = (refl, tt)
  distinct_front (e ∷ es) x u =
      let r = distinct_front es x u.1 in
      let b = missing_before (sorted below es) x.key e.key x.value (ap (λ l. holds below l e.key) (sym (push_sorted es x r.0)) ∙ u.0) in
      (holds-adding_other (sorted below es) e.key x.key e.value (λ q. b.0 (sym q)) ∙ r.0, (b.1, r.1))

  -- the last entry fills the place of another
  fill_sorted : (es : List (Entry K V)) (i : ℕ) (x d : Entry K V) → Distinct below (es ++ x ∷ []) → i < length es → sorted below (set es i x) ≡ removing below (sorted below (es ++ x ∷ [])) (get_or es i d).key
  fill_sorted es i x d u h =
      let k = (get_or es i d).key in
      let a = ascending_sorted o es in
      let f = distinct_front es x u in
      let ne = other_key below (sorted below es) k x.key (held_at es i d h) f.0 in
      let s = set-sorted es i x d f.1 h (still_missing (sorted below es) k x.key a ne f.0) in
      let r = removing-after (sorted below es) k x.key x.value ne a in
      let p = push_sorted es x f.0 in
      cc

  -- the last entry goes
  front_sorted : (es : List (Entry K V)) (x : Entry K V) → Distinct below (es ++ x ∷ []) → sorted below es ≡ removing below (sorted below (es ++ x ∷ [])) x.key
  front_sorted es x u =
      let m = (distinct_front es x u).0 in
      let p = push_sorted es x m in
      let r = removing-adding o (sorted below es) x.key x.value m in
      cc

  -- a new value in the place of the key
  replaced : (es : List (Entry K V)) (i : ℕ) (k : K) (v : V) → Distinct below es → i < length es → (get_or es i (entry k v)).key ≡ k → sorted below (set es i (entry k v)) ≡ adding below (sorted below es) k v
  replaced es i k v u h e =
      let a = ascending_sorted o es in
      set-sorted es i (entry k v) (entry k v) u h (ap (λ q. holds below (removing below (sorted below es) q) k) e ∙ gone (sorted below es) k a)
      ∙ ap (λ q. adding below (removing below (sorted below es) q) k v) e
      ∙ adding_over (sorted below es) k v a

  -- the last entry in the place of the key
  taken : (es : List (Entry K V)) (i : ℕ) (k : K) (d : Entry K V) → Distinct below es → i < length es → (get_or es i d).key ≡ k → sorted below (swap_remove es i d) ≡ removing below (sorted below es) k
  taken es i k d u l e =
      let n = length es - 1 in
      let x = get_or es n d in
      let w : es ≡ take n es ++ x ∷ [] = sym (take_all (n + 1) es (omega arith)) ∙ take_more es n d (omega arith) in
      let f = subst (Distinct below) w u in
      let s : length (take n es) ≡ n = length-take-le n es (omega arith) in
      ⊎_elim
      (λ b. let t = take-set-lt n es i x b in
      let r = fill_sorted (take n es) i x d f (omega arith) in
      let p = get_or-take n es i d b in
      cc)
      (λ b. let t = take-set-le n es i x b in
      let r = front_sorted (take n es) x f in
      let j : i ≡ n = omega arith in
      cc)
      (cases_lt i n)

  -- no key stands twice after a put
  distinct_added : (es fs : List (Entry K V)) (k : K) (v : V) → Distinct below es → sorted below fs ≡ adding below (sorted below es) k v → length fs ≡ length es + cond (holds below (sorted below es) k) 0 1 → Distinct below fs
  distinct_added es fs k v u e l = distinct fs (ap length e ∙ length-adding o (sorted below es) k v ∙ ap (λ n. n + cond (holds below (sorted below es) k) 0 1) (full es u) ∙ sym l)

  -- nor after a held key was taken
  distinct_removed : (es fs : List (Entry K V)) (k : K) → Distinct below es → holds below (sorted below es) k ≡ true → sorted below fs ≡ removing below (sorted below es) k → length fs + 1 ≡ length es → Distinct below fs
  distinct_removed es fs k u h e l =
      let f = full es u in
      let r = length-removing o (sorted below es) k in
      let s = ap length e in
      distinct fs (grind arith)

  module _ (k : K) (test : Entry K V → Bool) (passes : (e : Entry K V) → test e ≡ true → e.key ≡ k) (fails : (e : Entry K V) → test e ≡ false → k ≡ e.key → ⊥) where
    -- the first entry that has the key is the one that the map has
    found_first : (es : List (Entry K V)) → lookup below (sorted below es) k ≡ option_map (λ e. e.value) (find test es)
    found_first [] = refl
    found_first (e ∷ es) =
        let h = found_first es in
        let p = passes e in
        let l = lookup-adding_same o (sorted below es) e.key e.value in
        let m = lookup-adding_other o (sorted below es) e.key k e.value in
        let f = fails e in
        grind arith

    pub spotted : (es : List (Entry K V)) (r : Option ℕ) → r ≡ cond (ltb (position_or_len test es) (length es)) (Some (position_or_len test es)) None → Spots below es k r
    spotted es None ran =
        let f = found_first es in
        let a = find_at test es in
        grind (arith, gets)
    spotted es (Some i) ran =
        let f = found_first es in
        let a = find_at test es in
        let at : (i ≡ position_or_len test es) × (i < length es) = grind arith in
        let first = λ (d : Entry K V). passes_at_first test es d in
        (at.1, λ d. let t = first d in let p = passes (get_or es i d) in grind arith, λ d. grind (arith, gets))

  module _ (es fs : List (Entry K V)) (k : K) (u : Distinct below es) where
    pub spot_held : (i : ℕ) → Spots below es k (Some i) → holds below (sorted below es) k ≡ true
    spot_held i s = held_found below (sorted below es) k _ (s.2 (some_item es i s.0))

    -- a new value in the place of the key
    pub value_set : (i : ℕ) (v : V) → Spots below es k (Some i) → fs ≡ set es i (entry k v) → Distinct below fs × (sorted below fs ≡ adding below (sorted below es) k v)
    value_set i v s e =
        let r = ap (sorted below) e ∙ replaced es i k v u s.0 (s.1 (entry k v)) in
        let h = spot_held i s in
        (distinct_added es fs k v u r (grind (arith, length-set)), r)

    -- a new entry behind the others
    pub entry_pushed : (v : V) → Spots below es k None → fs ≡ es ++ entry k v ∷ [] → Distinct below fs × (sorted below fs ≡ adding below (sorted below es) k v)
    entry_pushed v s e =
        let m = missing_found below (sorted below es) k s in
        let r = ap (sorted below) e ∙ push_sorted es (entry k v) m in
        (distinct_added es fs k v u r (grind (arith, length-append)), r)

    -- the last entry in the place of the key
    pub gap_filled : (i : ℕ) → Spots below es k (Some i) → ((d : Entry K V) → fs ≡ swap_remove es i d) → Distinct below fs × (sorted below fs ≡ removing below (sorted below es) k)
    gap_filled i s e =
        let d = some_item es i s.0 in
        let f = e d in
        let r = ap (sorted below) f ∙ taken es i k d u s.0 (s.1 d) in
        let h = spot_held i s in
        (distinct_removed es fs k u h r (grind (arith, length-set, length-take)), r)
