-- What is printed of a piece.
use Rattle.std.specs.Prelude.{ℕ, List, Ok, Err, Result}
use Rattle.std.specs.List.{flat_map}
use Rattle.refusal.specs.declared.Refusal.{Refusal}
use Rattle.identity.specs.declared.snssai.Snssai.{Snssai}
use Rattle.reader.specs.declared.settings.Capacities.{Capacities}
use Rattle.reader.specs.Requests.{request_of}
use Rattle.reader.specs.Tables.{settings_of}
use Rattle.writer.specs.Texts.{text_of_slice, text_of_refusal, settings_text}
use Rattle.checker.specs.declared.reports.Kind.{Kind}
use Rattle.checker.specs.declared.reports.Kind.TheVariants as kind

-- the stores that settings are checked against
abbrev pub stores : Capacities
stores = record { ues = 1024; sessions = 1024; subscriptions = 1024 }

-- a line for each slice
abbrev pub slice_lines_text : List Snssai → List ℕ
slice_lines_text ss = flat_map text_of_slice ss

-- what is made of what was accepted
abbrev pub on_accepted : {A B : Type 0} → (A → B) → Result A Refusal → Result B Refusal
on_accepted f (Ok x) = Ok (f x)
on_accepted f (Err e) = Err e

-- one line for settings that are accepted, the slices of a request that is accepted, or why the text is refused
abbrev pub lines_of : Kind → List ℕ → Result (List ℕ) Refusal
lines_of kind.Settings text = on_accepted (λ s. settings_text) (settings_of stores text)
lines_of kind.Request text = on_accepted (λ r. slice_lines_text r.slices) (request_of text)

-- the lines, or those of the refusal
abbrev pub printed : Result (List ℕ) Refusal → List ℕ
printed (Ok lines) = lines
printed (Err f) = text_of_refusal f

-- all that is printed of a piece
abbrev pub piece_report : Kind → List ℕ → List ℕ
piece_report kind text = printed (lines_of kind text)
