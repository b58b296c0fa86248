-- The lines of a text: each ends with a line feed, and is a key with its value.
use Rattle.std.specs.Prelude.{ℕ, suc, Bool, cond, List, length, take, drop, Some, None, Ok, Err, Option, Result, ◌==◌, nat_lt}
use Rattle.std.specs.Borrow.{Bor}
use Rattle.std.specs.List.{position_or_len}
use Rattle.refusal.specs.declared.Refusal.{Refusal}
use Rattle.refusal.specs.declared.Reason.TheVariants.{MissingKey}
use Rattle.refusal.specs.Refusals.{refusal}
use Rattle.identity.specs.Chains.{given}
use Rattle.identity.specs.Prefixes.{after}

-- how many bytes stand before the first line feed
abbrev pub end_of_line : List ℕ → ℕ
end_of_line bs = position_or_len (λ b. b == 10) bs

-- the first line without its line feed, where it has one
abbrev pub first_line : List ℕ → Option (List ℕ)
first_line bs = cond (nat_lt (end_of_line bs) (length bs)) (Some (take (end_of_line bs) bs)) None

-- what follows the first line
abbrev pub after_line : List ℕ → List ℕ
after_line bs = drop (suc (end_of_line bs)) bs

-- the value that the first line has under a key
abbrev pub value_of : List ℕ → List ℕ → Option (List ℕ)
value_of key bs = given (first_line bs) (after key)

abbrev pub value_and_rest : List ℕ → List ℕ → Option (List ℕ × List ℕ)
value_and_rest key bs = given (value_of key bs) (λ v. Some (v, after_line bs))

-- what is left of a text, and the number of the line that comes
abbrev pub Place : Type 0
Place = List ℕ × ℕ

-- the text goes on
abbrev pub more? : Place → Bool
more? p = nat_lt 0 (length p.0)

-- answers by what their references point to
abbrev pub viewed : Bor (List ℕ) × Bor (List ℕ) → List ℕ × List ℕ
viewed s = (s.0.now, s.1.now)

abbrev pub seen : Result (Bor (List ℕ)) Refusal → Result (List ℕ) Refusal
seen (Ok v) = Ok v.now
seen (Err e) = Err e

abbrev pub value_or : Place → Option (List ℕ) → Result (List ℕ) Refusal × Place
value_or p None = (Err (refusal MissingKey p.1), p)
value_or p (Some v) = (Ok v, (after_line p.0, suc p.1))

-- the value under a key, and the place after its line; refused where the line lacks its key or its line feed
abbrev pub value_at : List ℕ → Place → Result (List ℕ) Refusal × Place
value_at key p = value_or p (value_of key p.0)
