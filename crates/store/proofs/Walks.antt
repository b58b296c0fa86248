-- By repeated questions one meets every key once, in order.
use Rattle.std.proofs.Common.{◌≡◌, ℕ, ◌+◌, ◌-◌, ◌<◌, ◌≤◌, min, Bool, true, List, [], ◌∷◌, ◌++◌, length, get_or, take, drop, set, Some, None, Option, sym, refl, ap, ◌∙◌, subst, ⊎_elim, arith, length-drop}
use Rattle.std.proofs.lemmas.List.{take_all, take_more, take-append-drop, drop_more, drop_all, drop-append-le, set_at, length-take-le, length-map, append_assoc}
use Rattle.std.specs.Option.{option_and_then}
use Rattle.std.proofs.lemmas.Bool.{cases_Bool, cases_lt, cond-true, cond-false}
use Rattle.store.specs.declared.entry.Entry.{Entry}
use Rattle.store.specs.Orders.{Order, Succeeds}
use Rattle.store.specs.Maps.{least_from, keys, keys_not_below, Ascending, Leads}
use Rattle.store.specs.Walks.{walked}

module _ {K V : Type 0} {below : K → K → Bool} (o : Order below) where
  -- a key that leads the entries stands below the least from any key
  leads_least : (e : Entry K V) (es : List (Entry K V)) (k m : K) → Leads below e es → Ascending below es → least_from below es k ≡ Some m → below e.key m ≡ true
  leads_least e [] k m l a p = grind arith
  leads_least e (f ∷ fs) k m l a p = let h = leads_least f fs k m a.0 a.1 in let t = o.transitive e.key f.key m l in grind arith

  -- nothing is skipped between a key and its successor
  all_from : (e : Entry K V) (es : List (Entry K V)) (s : K) → Leads below e es → Succeeds below e.key (Some s) → keys_not_below below es s ≡ keys es
  all_from e [] s l h = refl
  all_from e (f ∷ fs) s l h = let n = h.1 f.key l in grind arith

  none_from : (e : Entry K V) (es : List (Entry K V)) → Leads below e es → Succeeds below e.key None → keys es ≡ []
  none_from e [] l h = refl
  none_from e (f ∷ fs) l h = let n = h f.key in grind arith

  -- no more keys
  pub walk_ended : (es : List (Entry K V)) (k : K) → least_from below es k ≡ None → keys_not_below below es k ≡ []
  walk_ended [] k p = refl
  walk_ended (e ∷ es) k p = let h = walk_ended es k in grind arith

  -- the key that is met, and those from its successor on
  pub walk_next : (es : List (Entry K V)) (k m s : K) → Ascending below es → least_from below es k ≡ Some m → Succeeds below m (Some s) → keys_not_below below es k ≡ m ∷ keys_not_below below es s
  walk_next [] k m s a p h = grind arith
  walk_next (e ∷ es) k m s a p h =
      ⊎_elim
      (λ t. let q : least_from below es k ≡ Some m = sym (cond-true _ _ _ t) ∙ p in
      let b = o.transitive e.key m s (leads_least e es k m a.0 a.1 q) h.0 in
      cond-true _ _ _ t ∙ walk_next es k m s a.1 q h ∙ ap (λ ks. m ∷ ks) (sym (cond-true _ _ _ b)))
      (λ f. let q : Some e.key ≡ Some m = sym (cond-false _ _ _ f) ∙ p in
      let z : e.key ≡ m = cc in
      let n : Succeeds below e.key (Some s) = subst (λ x. Succeeds below x (Some s)) (sym z) h in
      cond-false _ _ _ f ∙ ap (λ ks. e.key ∷ ks) (sym (cond-true _ _ _ n.0 ∙ all_from e es s a.0 n)) ∙ ap (λ x. x ∷ keys_not_below below (e ∷ es) s) z)
      (cases_Bool (below e.key k))

  pub walk_last : (es : List (Entry K V)) (k m : K) → Ascending below es → least_from below es k ≡ Some m → Succeeds below m None → keys_not_below below es k ≡ m ∷ []
  walk_last [] k m a p h = grind arith
  walk_last (e ∷ es) k m a p h =
      ⊎_elim
      (λ t. let q : least_from below es k ≡ Some m = sym (cond-true _ _ _ t) ∙ p in
      cond-true _ _ _ t ∙ walk_last es k m a.1 q h)
      (λ f. let q : Some e.key ≡ Some m = sym (cond-false _ _ _ f) ∙ p in
      let z : e.key ≡ m = cc in
      let n : Succeeds below e.key None = subst (λ x. Succeeds below x None) (sym z) h in
      cond-false _ _ _ f ∙ ap (λ ks. e.key ∷ ks) (none_from e es a.0 n) ∙ ap (λ x. x ∷ []) z)
      (cases_Bool (below e.key k))

-- what is still to be met, by the key from which the next question asks
abbrev pub ahead : {K V : Type 0} → (K → K → Bool) → List (Entry K V) → Option K → List K
ahead below es None = []
ahead below es (Some k) = keys_not_below below es k

-- what the next question answers, where there is a key to ask from
abbrev pub asked : {K V : Type 0} → (K → K → Bool) → List (Entry K V) → Option K → Option K
asked below es from = option_and_then (least_from below es) from

module _ {K V : Type 0} {below : K → K → Bool} (o : Order below) (es : List (Entry K V)) where
  pub none_met : (from : Option K) → asked below es from ≡ None → ahead below es from ≡ []
  none_met None p = refl
  none_met (Some k) p = walk_ended o es k p

  pub one_met : (from : Option K) (m : K) (r : Option K) → Ascending below es → asked below es from ≡ Some m → Succeeds below m r → ahead below es from ≡ m ∷ ahead below es r
  one_met None m r a p h = grind arith
  one_met (Some k) m None a p h = walk_last o es k m a p h
  one_met (Some k) m (Some s) a p h = walk_next o es k m s a p h

-- the keys that were met stand in the first i places, and these are still ahead
pub record Met {K : Type 0} (ks ps ahead now : List K) (i : ℕ) : Type 0 where
  pub rest : ahead ≡ drop i ks
  pub places : now ≡ take i ks ++ drop i ps
  pub some : i ≤ length ks

pub met_none : {K : Type 0} (ks ps : List K) → Met ks ps ks ps 0
met_none ks ps = record { rest = refl; places = refl; some = omega arith }

module _ {K : Type 0} (ks ps now : List K) (i : ℕ) where
  pub met_more : (m : K) (ahead later : List K) → Met ks ps ahead now i → ahead ≡ m ∷ later → i < length ps → Met ks ps later (set now i m) (i + 1)
  met_more m ahead later t e h =
      let d : drop i ks ≡ m ∷ later = sym t.rest ∙ e in
      let l : length ks - i ≡ length later + 1 = sym (length-drop i ks) ∙ (ap length d ∙ omega arith) in
      let in-ks : i < length ks = omega arith in
      let more = drop_more ks i m in-ks in
      let both : get_or ks i m ∷ drop (i + 1) ks ≡ m ∷ later = sym more ∙ d in
      let here : get_or ks i m ≡ m = cc in
      let tail : drop (i + 1) ks ≡ later = cc in
      record {
        rest = sym tail;
        places = ap (λ l. set l i m) (t.places ∙ ap (λ l. take i ks ++ l) (drop_more ps i m h)) ∙ set_at (take i ks) (get_or ps i m) (drop (i + 1) ps) m i (length-take-le i ks t.some)
            ∙ sym (append_assoc (take i ks) (m ∷ []) (drop (i + 1) ps)) ∙ ap (λ l. l ++ drop (i + 1) ps) (ap (λ x. take i ks ++ x ∷ []) (sym here) ∙ sym (take_more ks i m in-ks));
        some = omega arith;
      }

  -- what was met in the first n places, among all places
  pub met_front : (n : ℕ) (ahead : List K) → Met ks (take n ps) ahead now i → i ≤ n → n ≤ length ps → Met ks ps ahead (now ++ drop n ps) i
  met_front n ahead t h l =
      let seam : drop i (take n ps) ++ drop n ps ≡ drop i ps =
      sym (drop-append-le i (take n ps) (drop n ps) (omega (arith, length-take-le n ps l))) ∙ ap (drop i) (take-append-drop n ps) in
      record {
        rest = t.rest;
        places = ap (λ l. l ++ drop n ps) t.places ∙ append_assoc (take i ks) (drop i (take n ps)) (drop n ps) ∙ ap (λ l. take i ks ++ l) seam;
        some = t.some;
      }

  -- all that can be met
  met_end : (ahead : List K) → Met ks ps ahead now i → i ≡ min (length ks) (length ps) → (i, now) ≡ walked ks ps
  met_end ahead t e =
      ⊎_elim
      (λ h. let z : i ≡ length ps = omega arith in
      let none : drop i ps ≡ [] = drop_all i ps (omega arith) in
      let past : drop (length ks) ps ≡ [] = drop_all (length ks) ps (omega arith) in
      ap (λ l. (i, l)) (t.places ∙ ap (λ l. take i ks ++ l) (none ∙ sym past) ∙ ap (λ j. take j ks ++ drop (length ks) ps) z) ∙ ap (λ j. (j, take (length ps) ks ++ drop (length ks) ps)) e)
      (λ h. let z : i ≡ length ks = omega arith in
      let all : take i ks ≡ ks = take_all i ks (omega arith) in
      let whole : take (length ps) ks ≡ ks = take_all (length ps) ks h in
      ap (λ l. (i, l)) (t.places ∙ ap (λ l. l ++ drop i ps) (all ∙ sym whole) ∙ ap (λ j. take (length ps) ks ++ drop j ps) z) ∙ ap (λ j. (j, take (length ps) ks ++ drop (length ks) ps)) e)
      (cases_lt (length ps) (length ks))

  -- nothing is ahead
  pub met_all : Met ks ps [] now i → i ≤ length ps → (i, now) ≡ walked ks ps
  met_all t h =
      let none : length ks - i ≡ 0 = sym (length-drop i ks) ∙ ap length (sym t.rest) in
      met_end [] t (omega (arith, t.some))

  -- as many questions as there are places, or keys in all
  pub met_most : (ahead : List K) (n : ℕ) → Met ks ps ahead now i → length ks ≤ n → i ≡ min (length ps) n → (i, now) ≡ walked ks ps
  met_most ahead n t h e = met_end ahead t (omega (arith, t.some))

pub keys-few : {K V : Type 0} (below : K → K → Bool) (es : List (Entry K V)) (k : K) → length (keys_not_below below es k) ≤ length es
keys-few below [] k = omega arith
keys-few below (e ∷ es) k = let h = keys-few below es k in let l = length-map es (λ (f : Entry _ _). f.key) in grind arith
