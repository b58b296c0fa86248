-- The order that a total `cmp` gives, where keys that rank equal are one key, and what `>=` and `==` say of it.
use Rattle.std.proofs.Common.{◌≡◌, Bool, true, false, not, Some, Option, Ordering, Less, Equal, Greater, sym, arith}
use Rattle.std.specs.Cmp.{IsTotalOrder}
use Rattle.std.specs.Ordering.{MatchOrdering, is_eq, is_ge, partial_ge}
use Rattle.std.proofs.lemmas.Cmp.{tied_itself}
use Rattle.store.specs.Orders.{Order, below}

-- a key that does not rank before another is not below it
pub ranks_ge : {K : Type 0} (cmp : K → K → Ordering) (a b : K) → is_ge (cmp a b) ≡ not (below cmp a b)
ranks_ge cmp a b = grind arith

module _ {K : Type 0} {cmp : K → K → Ordering} where
  pub at_least : (partial-cmp : K → K → Option Ordering) → ((a b : K) → partial-cmp a b ≡ Some (cmp a b)) → (a b : K) → partial_ge partial-cmp a b ≡ not (below cmp a b)
  at_least partial-cmp same a b = let s = same a b in grind arith

  module _ (o : IsTotalOrder cmp) where
    -- a key that is not below another is equal to it, or above it
    pub equal_or_above : (a b : K) → below cmp a b ≡ false → is_eq (cmp a b) ≡ not (below cmp b a)
    equal_or_above a b p = let r = o.antisymm a b in grind arith

    irreflexive : (a : K) → below cmp a a ≡ false
    irreflexive a = let i = tied_itself o a in grind arith

    transitive : (a b c : K) → below cmp a b ≡ true → below cmp b c ≡ true → below cmp a c ≡ true
    transitive a b c p q = let t = o.trans a b c in grind arith

    module _ (one : (a b : K) → cmp a b ≡ Equal → a ≡ b) where
      connected : (a b : K) → below cmp a b ≡ false → below cmp b a ≡ false → a ≡ b
      connected a b p q = let e = one a b in let r = o.antisymm a b in grind arith

      pub key_order : Order (below cmp)
      key_order = record { irreflexive = irreflexive; transitive = transitive; connected = connected }

      -- what an answer of `cmp` says of two keys
      pub key_ranks : (a b : K) (r : Ordering) → r ≡ cmp a b → MatchOrdering r (below cmp a b ≡ true) (a ≡ b) (below cmp b a ≡ true)
      key_ranks a b Less e = grind arith
      key_ranks a b Equal e = one a b (sym e)
      key_ranks a b Greater e = let t = o.antisymm a b in grind arith

      -- what `==` says of them
      module _ (eq : K → K → Bool) (same : (a b : K) → eq a b ≡ is_eq (cmp a b)) (a b : K) where
        pub same_key : eq a b ≡ true → a ≡ b
        same_key e = let s = same a b in let p = one a b in grind arith

        pub other_key : eq a b ≡ false → b ≡ a → ⊥
        other_key e p = let s = same a b in let t = tied_itself o a in grind arith
