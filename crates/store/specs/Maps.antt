-- A map from keys to values, as the list of its entries in ascending order of the keys.
use Rattle.std.specs.Prelude.{◌≡◌, ℕ, suc, Bool, true, false, cond, not, ◌||◌, List, [], ◌∷◌, map, length, Some, None, Ok, Err, Option, Result, nat_lt}
use Rattle.refusal.specs.declared.Refusal.{Refusal}
use Rattle.refusal.specs.declared.Reason.TheVariants.{StoreFull}
use Rattle.refusal.specs.Refusals.{refusal}
use Rattle.store.specs.declared.entry.Entry.{Entry}

abbrev pub entry : {K V : Type 0} → K → V → Entry K V
entry k v = record { key = k; value = v }

-- the entry stands below the first of the others
abbrev pub Leads : {K V : Type 0} → (K → K → Bool) → Entry K V → List (Entry K V) → Type 0
Leads below e [] = Unit {0}
Leads below e (f ∷ fs) = below e.key f.key ≡ true

-- each key is below the next
abbrev pub Ascending : {K V : Type 0} → (K → K → Bool) → List (Entry K V) → Type 0
Ascending below [] = Unit {0}
Ascending below (e ∷ es) = Leads below e es × Ascending below es

-- the value of a key, where it is held
abbrev pub lookup : {K V : Type 0} → (K → K → Bool) → List (Entry K V) → K → Option V
lookup below [] k = None
lookup below (e ∷ es) k = cond (below e.key k) (lookup below es k) (cond (below k e.key) None (Some e.value))

-- the key is held
abbrev pub holds : {K V : Type 0} → (K → K → Bool) → List (Entry K V) → K → Bool
holds below [] k = false
holds below (e ∷ es) k = cond (below e.key k) (holds below es k) (not (below k e.key))

-- how many keys stand below a key
abbrev pub place : {K V : Type 0} → (K → K → Bool) → List (Entry K V) → K → ℕ
place below [] k = 0
place below (e ∷ es) k = cond (below e.key k) (suc (place below es k)) 0

-- the map with a value at a key, and every other key as it was
abbrev pub adding : {K V : Type 0} → (K → K → Bool) → List (Entry K V) → K → V → List (Entry K V)
adding below [] k v = entry k v ∷ []
adding below (e ∷ es) k v =
    cond (below e.key k) (e ∷ adding below es k v) (cond (below k e.key) (entry k v ∷ e ∷ es) (entry k v ∷ es))

-- the map without a key, and every other key as it was
abbrev pub removing : {K V : Type 0} → (K → K → Bool) → List (Entry K V) → K → List (Entry K V)
removing below [] k = []
removing below (e ∷ es) k = cond (below e.key k) (e ∷ removing below es k) (cond (below k e.key) (e ∷ es) es)

-- the least held key that is not below k
abbrev pub least_from : {K V : Type 0} → (K → K → Bool) → List (Entry K V) → K → Option K
least_from below [] k = None
least_from below (e ∷ es) k = cond (below e.key k) (least_from below es k) (Some e.key)

abbrev pub keys : {K V : Type 0} → List (Entry K V) → List K
keys es = map (λ e. e.key) es

-- all held keys that are not below k, in order
abbrev pub keys_not_below : {K V : Type 0} → (K → K → Bool) → List (Entry K V) → K → List K
keys_not_below below [] k = []
keys_not_below below (e ∷ es) k = cond (below e.key k) (keys_not_below below es k) (keys (e ∷ es))

-- there is a place for the key: it is held, or fewer than c keys are
abbrev pub fits : {K V : Type 0} → (K → K → Bool) → ℕ → List (Entry K V) → K → Bool
fits below c es k = holds below es k || nat_lt (length es) c

-- what putting a value answers, and the map afterwards: refused where c keys are held and the key is not among them
abbrev pub putting : {K V : Type 0} → (K → K → Bool) → ℕ → List (Entry K V) → K → V → Result (Unit {0}) Refusal × List (Entry K V)
putting below c es k v = cond (fits below c es k) (Ok tt, adding below es k v) (Err (refusal StoreFull 0), es)

-- what taking a key answers, and the map afterwards
abbrev pub taking : {K V : Type 0} → (K → K → Bool) → List (Entry K V) → K → Bool × List (Entry K V)
taking below es k = (holds below es k, removing below es k)
