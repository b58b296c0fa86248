-- What a number is as a key, and the order of numbers.
use Rattle.std.specs.Prelude.{◌≡◌, ◌<◌, Bool, nat_lt}
use Rattle.std.specs.Ordering.{nat_cmp}
use Rattle.std.specs.declared.cmp.Ordering.TheVariants.{Equal}
use mathlib.Core.Path.{sym}
use mathlib.Core.HLevel.{is_prop→PathP}
use Rattle.std.proofs.Common.{arith}
use Rattle.std.proofs.Math.Bridge.{le_prop}
use Rattle.std.proofs.lemmas.Bool.{ltb-true, ltb-false, lt-ltb, le-ltb}
use Rattle.std.proofs.lemmas.Bool.Decides.{nat_tests}
use Rattle.std.proofs.lemmas.Cmp.{ranked}
use Rattle.store.specs.Orders.{Order, below}
use Rattle.own_store.specs.declared.number.Number.{Number}

-- the value of the first is below that of the second
abbrev pub lower : Number → Number → Bool
lower a b = nat_lt a.value b.value

-- two keys of one value are equal: the bound in their type adds nothing
pub same_number : (a b : Number) → a.value ≡ b.value → a ≡ b
same_number a b e = λ i. record { value = e i; octet = is_prop→PathP (λ j. e j < 256) (λ j. le_prop) a.octet b.octet i }

-- keys that rank equal are one key
pub one_number : (a b : Number) → nat_cmp a.value b.value ≡ Equal → a ≡ b
one_number a b e = same_number a b (ranked a.value b.value Equal (sym e))

-- a number is lower where it ranks before the other
pub lower_ranks : (a b : Number) → below (λ x y. nat_cmp x.value y.value) a b ≡ lower a b
lower_ranks a b = grind (arith, nat_tests)

-- it is a strict total order
pub lower_order : Order lower
lower_order = record {
  irreflexive = λ a. le-ltb a.value a.value (omega arith);
  transitive = λ a b c p q. lt-ltb a.value c.value (omega (arith, ltb-true a.value b.value p, ltb-true b.value c.value q));
  connected = λ a b p q. same_number a b (omega (arith, ltb-false a.value b.value p, ltb-false b.value a.value q));
}
