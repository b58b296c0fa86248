-- A strict total order as a test.
use Rattle.std.specs.Prelude.{◌≡◌, Bool, true, false, cond, Some, None, Option}
use Rattle.std.specs.Ordering.{is_lt}
use Rattle.std.specs.declared.cmp.Ordering.{Ordering}

-- the first key ranks before the second
abbrev pub below : {K : Type 0} → (K → K → Ordering) → K → K → Bool
below cmp a b = is_lt (cmp a b)

-- irreflexive and transitive, and any two keys that are not equal are in order
pub record Order {K : Type 0} (below : K → K → Bool) : Type 0 where
  pub irreflexive : (a : K) → below a a ≡ false
  pub transitive : (a b c : K) → below a b ≡ true → below b c ≡ true → below a c ≡ true
  pub connected : (a b : K) → below a b ≡ false → below b a ≡ false → a ≡ b

-- the least key above k, or none where k is the greatest
abbrev pub Succeeds : {K : Type 0} → (K → K → Bool) → K → Option K → Type 0
Succeeds {K} below k None = (l : K) → below k l ≡ false
Succeeds {K} below k (Some s) = (below k s ≡ true) × ((l : K) → below k l ≡ true → below l s ≡ false)

-- by the first parts, and by the second where neither of the first is below the other
abbrev pub in_turn : {A B : Type 0} → (A → A → Bool) → (B → B → Bool) → A × B → A × B → Bool
in_turn first second x y = cond (first x.0 y.0) true (cond (first y.0 x.0) false (second x.1 y.1))

-- by what each key stands for
abbrev pub through : {K A : Type 0} → (K → A) → (A → A → Bool) → K → K → Bool
through stands below x y = below (stands x) (stands y)
