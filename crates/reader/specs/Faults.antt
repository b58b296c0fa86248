-- Which refusals fit a text, line by line, and which of them is given.
use Rattle.std.specs.Prelude.{◌≡◌, ℕ, zero, suc, ◌<◌, ◌≤◌, Bool, ◌⊎◌, List, length, is_some, None, Ok, Err, Option, Result, nat_lt}
use Rattle.refusal.specs.declared.Refusal.{Refusal}
use Rattle.refusal.specs.Refusals.{number}
use Rattle.reader.specs.Lines.{after_line, value_of}

-- what follows the first n lines of a text
abbrev pub skip : ℕ → List ℕ → List ℕ
skip zero text = text
skip (suc n) text = after_line (skip n text)

-- the text goes on after its first n lines
abbrev pub goes_on : List ℕ → ℕ → Bool
goes_on text n = nat_lt 0 (length (skip n text))

-- the value that line n, from 1, has under a key: none where the line lacks the key or its line feed
abbrev pub value_on : List ℕ → List ℕ → ℕ → Option (List ℕ)
value_on key text zero = None
value_on key text (suc n) = value_of key (skip n text)

-- what is due on a line: a key, and a value that is lawful
pub record Rule : Type 0 where
  pub key : List ℕ
  pub lawful : List ℕ → Bool

abbrev pub rule : {A : Type 0} → List ℕ → (List ℕ → Option A) → Rule
rule name read = record { key = name; lawful = λ v. is_some (read v) }

-- the first of two refusals: on an earlier line, or on the same line with no greater number
abbrev pub First : Refusal → Refusal → Type 0
First f g = (f.line < g.line) ⊎ ((f.line ≡ g.line) × (number f.reason ≤ number g.reason))

-- a text is accepted where no refusal fits it, and else refused with the first that fits
abbrev pub Decided : {A : Type 0} → (Refusal → Type 0) → Result A Refusal → Type 0
Decided Fits (Ok x) = (f : Refusal) → Fits f → ⊥
Decided Fits (Err f) = Fits f × ((g : Refusal) → Fits g → First f g)
