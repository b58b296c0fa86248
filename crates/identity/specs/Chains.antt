-- What is read in turn, where each part may fail, and what is made of a fact.
use Rattle.std.specs.Prelude.{Some, None, Option}

abbrev pub given : {A B : Type 0} → Option A → (A → Option B) → Option B
given None f = None
given (Some x) f = f x

-- what is made of a fact, where it holds
abbrev pub provided : {P A : Type 0} → Dec P → (P → Option A) → Option A
provided (yes h) make = make h
provided (no h) make = None
