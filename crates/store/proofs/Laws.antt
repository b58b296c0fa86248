-- The laws of the map: what is held and found after a key was added or removed, and what comes first.
use Rattle.std.proofs.Common.{◌≡◌, ◌+◌, Bool, true, false, cond, List, [], ◌∷◌, length, Some, None, refl, arith}
use Rattle.store.specs.declared.entry.Entry.{Entry}
use Rattle.store.specs.Orders.{Order}
use Rattle.store.specs.Maps.{lookup, holds, adding, removing, least_from, Ascending, Leads}

pub asymmetric : {K : Type 0} {below : K → K → Bool} (o : Order below) (a b : K) → below a b ≡ true → below b a ≡ false
asymmetric o a b p = let t = o.transitive a b a p in let i = o.irreflexive a in grind arith

module _ {K V : Type 0} {below : K → K → Bool} (o : Order below) where
  pub lookup-adding_same : (es : List (Entry K V)) (k : K) (v : V) → lookup below (adding below es k v) k ≡ Some v
  lookup-adding_same [] k v = let i = o.irreflexive k in grind arith
  lookup-adding_same (e ∷ es) k v = let h = lookup-adding_same es k v in let i = o.irreflexive k in grind arith

  pub lookup-adding_other : (es : List (Entry K V)) (k q : K) (v : V) → (q ≡ k → ⊥) → lookup below (adding below es k v) q ≡ lookup below es q
  lookup-adding_other [] k q v ne = let c = o.connected q k in grind arith
  lookup-adding_other (e ∷ es) k q v ne =
      let h = lookup-adding_other es k q v ne in
      let c = o.connected q k in
      let d = o.connected e.key k in
      let t = o.transitive q k e.key in
      let s = asymmetric o q e.key in
      grind arith

  pub length-adding : (es : List (Entry K V)) (k : K) (v : V) → length (adding below es k v) ≡ length es + cond (holds below es k) 0 1
  length-adding [] k v = refl
  length-adding (e ∷ es) k v = let h = length-adding es k v in grind arith

  pub length-removing : (es : List (Entry K V)) (k : K) → length (removing below es k) + cond (holds below es k) 1 0 ≡ length es
  length-removing [] k = refl
  length-removing (e ∷ es) k = let h = length-removing es k in grind arith

  leads_adding : (e : Entry K V) (es : List (Entry K V)) (k : K) (v : V) → Leads below e es → below e.key k ≡ true → Leads below e (adding below es k v)
  leads_adding e [] k v l p = p
  leads_adding e (f ∷ fs) k v l p = grind arith

  pub ascending_adding : (es : List (Entry K V)) (k : K) (v : V) → Ascending below es → Ascending below (adding below es k v)
  ascending_adding [] k v a = (tt, tt)
  ascending_adding (e ∷ es) k v a =
      let h = ascending_adding es k v a.1 in
      let l = leads_adding e es k v a.0 in
      let d = o.connected e.key k in
      grind arith

  leads_removing : (e : Entry K V) (es : List (Entry K V)) (k : K) → Leads below e es → Ascending below es → Leads below e (removing below es k)
  leads_removing e [] k l a = tt
  leads_removing e (f ∷ []) k l a = grind arith
  leads_removing e (f ∷ g ∷ gs) k l a = let t = o.transitive e.key f.key g.key l a.0 in grind arith

  pub ascending_removing : (es : List (Entry K V)) (k : K) → Ascending below es → Ascending below (removing below es k)
  ascending_removing [] k a = tt
  ascending_removing (e ∷ es) k a =
      let h = ascending_removing es k a.1 in
      let l = leads_removing e es k a.0 a.1 in
      grind arith

  lookup-below : (es : List (Entry K V)) (e : Entry K V) (q : K) → Leads below e es → below q e.key ≡ true → lookup below es q ≡ None
  lookup-below [] e q l p = refl
  lookup-below (f ∷ fs) e q l p =
      let t = o.transitive q e.key f.key p l in
      let s = asymmetric o q f.key t in
      grind arith

  lookup_leads : (es : List (Entry K V)) (e : Entry K V) → Leads below e es → lookup below es e.key ≡ None
  lookup_leads [] e l = refl
  lookup_leads (f ∷ fs) e l = let s = asymmetric o e.key f.key l in grind arith

  pub lookup-removing_same : (es : List (Entry K V)) (k : K) → Ascending below es → lookup below (removing below es k) k ≡ None
  lookup-removing_same [] k a = refl
  lookup-removing_same (e ∷ es) k a =
      let h = lookup-removing_same es k a.1 in
      let l = lookup_leads es e a.0 in
      let d = o.connected e.key k in
      grind arith

  pub lookup-removing_other : (es : List (Entry K V)) (k q : K) → Ascending below es → (q ≡ k → ⊥) → lookup below (removing below es k) q ≡ lookup below es q
  lookup-removing_other [] k q a ne = refl
  lookup-removing_other (e ∷ es) k q a ne =
      let h = lookup-removing_other es k q a.1 ne in
      let l = lookup-below es e q a.0 in
      let d = o.connected e.key k in
      let f = o.connected e.key q in
      grind arith

  -- the least key not below k is held, and each held key below it is below k
  pub least_held : (es : List (Entry K V)) (k q : K) → Ascending below es → least_from below es k ≡ Some q → (holds below es q ≡ true) × (below q k ≡ false)
  least_held [] k q a p = grind arith
  least_held (e ∷ es) k q a p =
      let h = least_held es k q a.1 in
      let i = o.irreflexive e.key in
      grind arith

  pub removing-adding : (es : List (Entry K V)) (k : K) (v : V) → holds below es k ≡ false → removing below (adding below es k v) k ≡ es
  removing-adding [] k v p = let i = o.irreflexive k in grind arith
  removing-adding (e ∷ es) k v p = let h = removing-adding es k v in grind arith

  pub adding-adding : (es : List (Entry K V)) (k q : K) (v w : V) → (q ≡ k → ⊥) → adding below (adding below es k v) q w ≡ adding below (adding below es q w) k v
  adding-adding [] k q v w ne = grind arith
  adding-adding (e ∷ es) k q v w ne = let h = adding-adding es k q v w ne in grind arith

  pub least_of_held : (es : List (Entry K V)) (k q r : K) → Ascending below es → least_from below es k ≡ Some q → holds below es r ≡ true → below r q ≡ true → below r k ≡ true
  least_of_held [] k q r a f h b = grind arith
  least_of_held (e ∷ es) k q r a f h b = let i = least_of_held es k q r a.1 in grind arith

  pub none_held : (es : List (Entry K V)) (k r : K) → least_from below es k ≡ None → holds below es r ≡ true → below r k ≡ true
  none_held [] k r f h = grind arith
  none_held (e ∷ es) k r f h = let i = none_held es k r in grind arith
