-- At most so many items, in order.
use Rattle.std.specs.Prelude.{ℕ, ◌+◌, cond, List, [], ◌∷◌, ◌++◌, length, Ok, Err, Result, nat_le, nat_lt}
use Rattle.few.specs.declared.few.Full.{Full}

-- one more at the end, where there is a place
abbrev pub pushed : {T : Type 0} → ℕ → T → List T → Result (Unit {0}) Full × List T
pushed n x xs = cond (nat_lt (length xs) n) (Ok tt, xs ++ x ∷ []) (Err (record {}), xs)

-- more at the end, where there are places for all of them
abbrev pub extended : {T : Type 0} → ℕ → List T → List T → Result (Unit {0}) Full × List T
extended n ys xs = cond (nat_le (length xs + length ys) n) (Ok tt, xs ++ ys) (Err (record {}), xs)
