-- Orders by several parts in turn: their laws, and what `cmp` says of them.
use Rattle.std.proofs.Common.{◌≡◌, ℕ, Bool, true, false, ltb, Ordering, Less, Equal, Greater, sym, ◌∙◌, arith}
use Rattle.std.specs.Ordering.{MatchOrdering, nat_cmp, ordering_then}
use Rattle.std.proofs.lemmas.Bool.Decides.{nat_tests}
use Rattle.store.specs.Orders.{Order, in_turn, through}

pub number_order : Order ltb
number_order = record {
  irreflexive = λ a. grind (arith, nat_tests);
  transitive = λ a b c p q. grind (arith, nat_tests);
  connected = λ a b p q. grind (arith, nat_tests);
}

pub through_order : {K A : Type 0} {below : A → A → Bool} (stands : K → A) → ((x y : K) → stands x ≡ stands y → x ≡ y) → Order below → Order (through stands below)
through_order stands same o = record {
  irreflexive = λ a. o.irreflexive (stands a);
  transitive = λ a b c. o.transitive (stands a) (stands b) (stands c);
  connected = λ a b p q. same a b (o.connected (stands a) (stands b) p q);
}

module _ {A B : Type 0} {f : A → A → Bool} {g : B → B → Bool} (o : Order f) (p : Order g) where
  turn_irreflexive : (x : A × B) → in_turn f g x x ≡ false
  turn_irreflexive x = let i = o.irreflexive x.0 in let j = p.irreflexive x.1 in grind arith

  turn_transitive : (x y z : A × B) → in_turn f g x y ≡ true → in_turn f g y z ≡ true → in_turn f g x z ≡ true
  turn_transitive x y z h k =
      let t = o.transitive x.0 y.0 z.0 in
      let s = o.transitive z.0 x.0 y.0 in
      let r = o.transitive y.0 z.0 x.0 in
      let i = o.irreflexive x.0 in
      let u = p.transitive x.1 y.1 z.1 in
      let c = o.connected x.0 y.0 in
      let d = o.connected y.0 z.0 in
      grind arith

  turn_connected : (x y : A × B) → in_turn f g x y ≡ false → in_turn f g y x ≡ false → x ≡ y
  turn_connected x y h k =
      let first : x.0 ≡ y.0 = let c = o.connected x.0 y.0 in grind arith in
      let second : x.1 ≡ y.1 = let c = p.connected x.1 y.1 in grind arith in
      λ i. (first i, second i)

  pub in_turn_order : Order (in_turn f g)
  in_turn_order = record { irreflexive = turn_irreflexive; transitive = turn_transitive; connected = turn_connected }

-- the answer r ranks a and b by the order
abbrev pub Ranks : {A : Type 0} → (A → A → Bool) → A → A → Ordering → Type 0
Ranks below a b r = MatchOrdering r (below a b ≡ true) (a ≡ b) (below b a ≡ true)

pub number_ranks : (a b : ℕ) → Ranks ltb a b (nat_cmp a b)
number_ranks a b = grind (arith, nat_tests)

pub through_ranks : {K A : Type 0} (below : A → A → Bool) (stands : K → A) → ((x y : K) → stands x ≡ stands y → x ≡ y) → (x y : K) (r : Ordering) → Ranks below (stands x) (stands y) r → Ranks (through stands below) x y r
through_ranks below stands same x y Less h = h
through_ranks below stands same x y Equal h = same x y h
through_ranks below stands same x y Greater h = h

module _ {A B : Type 0} {f : A → A → Bool} (g : B → B → Bool) (o : Order f) where
  -- where the first parts are equal the second decide
  pub turn_second : (a b : A) (c d : B) → a ≡ b → in_turn f g (a, c) (b, d) ≡ g c d
  turn_second a b c d e = let i = o.irreflexive a in grind arith

  pub in_turn_ranks : (x y : A × B) (r s : Ordering) → Ranks f x.0 y.0 r → Ranks g x.1 y.1 s → Ranks (in_turn f g) x y (ordering_then r s)
  in_turn_ranks x y Less s h k = grind arith
  in_turn_ranks x y Greater s h k = grind arith
  in_turn_ranks x y Equal Less h k = turn_second x.0 y.0 x.1 y.1 h ∙ k
  in_turn_ranks x y Equal Equal h k = λ i. (h i, k i)
  in_turn_ranks x y Equal Greater h k = turn_second y.0 x.0 y.1 x.1 (sym h) ∙ k
