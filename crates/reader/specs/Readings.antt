-- What is read in turn.
use Rattle.std.specs.Prelude.{ℕ, zero, suc, cond, List, [], ◌∷◌, ◌++◌, Some, None, Ok, Err, Option, Result}
use Rattle.refusal.specs.declared.Reason.{Reason}
use Rattle.refusal.specs.declared.Reason.TheVariants.{UnlawfulValue, TooMany}
use Rattle.refusal.specs.declared.Refusal.{Refusal}
use Rattle.refusal.specs.Refusals.{refusal}
use Rattle.identity.specs.Decimals.{decimal_of}
use Rattle.reader.specs.Lines.{Place, more?, value_at}

-- from a place in a text to what is read there or its refusal, and the place after it
abbrev pub Reading : Type 0 → Type 0
Reading A = Place → Result A Refusal × Place

abbrev pub onward : {A B : Type 0} → Result A Refusal → Place → (A → Reading B) → Result B Refusal × Place
onward (Ok x) p f = f x p
onward (Err e) p f = (Err e, p)

-- one thing and then another, unless the first is refused
abbrev pub and_then : {A B : Type 0} → Reading A → (A → Reading B) → Reading B
and_then m f p = onward (m p).0 (m p).1 f

abbrev pub gives : {A : Type 0} → A → Reading A
gives x p = (Ok x, p)

abbrev pub lawful : {A : Type 0} → ℕ → Option A → Result A Refusal
lawful at None = Err (refusal UnlawfulValue at)
lawful at (Some x) = Ok x

abbrev pub as_lawful : {A : Type 0} → ℕ → (List ℕ → Option A) → Result (List ℕ) Refusal → Result A Refusal
as_lawful at read (Ok v) = lawful at (read v)
as_lawful at read (Err e) = Err e

-- a line with its key, whose value must be lawful
unfoldable pub field_at : {A : Type 0} → List ℕ → (List ℕ → Option A) → Reading A
field_at key read p = (as_lawful p.1 read (value_at key p).0, (value_at key p).1)

-- a line with a number of at most so much
abbrev pub number_at : List ℕ → ℕ → Reading ℕ
number_at key most = field_at key (decimal_of most)

abbrev pub refused_by : {A : Type 0} → ℕ → A → Option Reason → Result A Refusal
refused_by at x None = Ok x
refused_by at x (Some why) = Err (refusal why at)

abbrev pub tested : {A : Type 0} → ℕ → (A → Option Reason) → Result A Refusal → Result A Refusal
tested at fault (Ok x) = refused_by at x (fault x)
tested at fault (Err e) = Err e

-- a line whose lawful value may be at fault besides: then it is refused at that line
unfoldable pub checked : {A : Type 0} → Reading A → (A → Option Reason) → Reading A
checked m fault p = (tested p.1 fault (m p).0, (m p).1)

-- an item that is one too many: refused at its line where it is lawful
abbrev pub one_too_many : {A B : Type 0} → Reading A → Reading B
one_too_many m p = onward (m p).0 (m p).1 (λ x q. (Err (refusal TooMany p.1), q))

-- items up to the end of the text, at least one, and at most so many after those that are done: an item that comes where
-- no more may is refused at its line
unfoldable pub at_most_at : {A : Type 0} → ℕ → (List A → Reading A) → List A → Reading (List A)
at_most_at zero one done = one_too_many (one done)
at_most_at (suc n) one done = and_then (one done) (λ x p. cond (more? p) (at_most_at n one (done ++ x ∷ []) p) (Ok (done ++ x ∷ []), p))
