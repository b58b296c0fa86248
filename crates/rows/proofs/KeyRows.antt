-- What a key row holds after a change at the place of a key.
use Rattle.std.proofs.Common.{◌≡◌, ℕ, ◌<◌, Bool, not, cond, ltb, Ordering, Option, Some, None, List, length, get_or, set, Ok, Err, sym, ap, ◌∙◌, subst, arith}
use Rattle.std.specs.Cmp.{IsTotalOrder}
use Rattle.std.specs.List.{insert, remove, position_or_len}
use Rattle.std.specs.Option.{unwrap_or}
use Rattle.std.specs.Ordering.{is_eq}
use Rattle.store.specs.declared.entry.Entry.{Entry}
use Rattle.store.specs.Orders.{Order, below}
use Rattle.store.specs.Maps.{entry, holds, place, adding, removing, Ascending}
use Rattle.store.proofs.Laws.{ascending_adding, ascending_removing}
use Rattle.store.proofs.Places.{adding-held, adding-missing, removing-held, place_first, place_most, holds_at}
use Rattle.store.proofs.Keys.{equal_or_above}
use Rattle.rows.specs.KeyRows.{Seeks}

module _ {K V : Type 0} {lower : K → K → Bool} (o : Order lower) (es fs : List (Entry K V)) (k : K) (i : ℕ) (a : Ascending lower es) where
  added : (v : V) → fs ≡ adding lower es k v → Ascending lower fs × (fs ≡ adding lower es k v)
  added v e = (subst (Ascending lower) (sym e) (ascending_adding o es k v a), e)

  -- a new value in the place of the key
  pub replaced : (v : V) → Seeks lower es k (Ok i) → fs ≡ set es i (entry k v) → Ascending lower fs × (fs ≡ adding lower es k v)
  replaced v s e = added v (e ∙ ap (λ j. set es j (entry k v)) s.0 ∙ sym (adding-held lower es k v s.1))

  -- a new entry where its key would stand
  pub inserted : (v : V) → Seeks lower es k (Err i) → fs ≡ insert es i (entry k v) → Ascending lower fs × (fs ≡ adding lower es k v)
  inserted v s e = added v (e ∙ ap (λ j. insert es j (entry k v)) s.0 ∙ sym (adding-missing lower es k v s.1))

  -- no entry in the place of the key
  pub removed : Seeks lower es k (Ok i) → fs ≡ remove es i → Ascending lower fs × (fs ≡ removing lower es k)
  removed s e =
      let r = e ∙ ap (remove es) s.0 ∙ sym (removing-held lower es k s.1) in
      (subst (Ascending lower) (sym r) (ascending_removing o es k a), r)

-- the first entry that passes, where those pass whose keys are not below k, stands at the place of k
pub first_place : {K V : Type 0} (lower : K → K → Bool) (es : List (Entry K V)) (k : K) (test : Entry K V → Bool) (passes : (e : Entry K V) → test e ≡ not (lower e.key k)) (r : Option ℕ) → r ≡ cond (ltb (position_or_len test es) (length es)) (Some (position_or_len test es)) None → unwrap_or r (length es) ≡ place lower es k
first_place lower es k test passes r ran =
    let p = place_first lower k test passes es in
    let m = place_most lower es k in
    grind arith

-- a key is held where the entry at its place has it
pub held_there : {K V : Type 0} {cmp : K → K → Ordering} (o : IsTotalOrder cmp) (es : List (Entry K V)) (k : K) (x : Entry K V) → place (below cmp) es k < length es → x ≡ get_or es (place (below cmp) es k) x → holds (below cmp) es k ≡ is_eq (cmp x.key k)
held_there {cmp = cmp} o es k x lt at =
    let h = holds_at (below cmp) es k x in
    let u = equal_or_above o x.key k in
    grind arith
