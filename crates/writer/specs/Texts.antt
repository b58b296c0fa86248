-- The lines that are written.
use Rattle.std.specs.Prelude.{ℕ, List, [], ◌∷◌, ◌++◌, codes, decimal}
use Rattle.refusal.specs.declared.Refusal.{Refusal}
use Rattle.refusal.specs.Refusals.{number}
use Rattle.identity.specs.declared.snssai.Snssai.{Snssai}
use Rattle.writer.specs.Hexes.{long_text}

-- a line with its line feed
abbrev pub line : List ℕ → List ℕ
line bs = bs ++ 10 ∷ []

abbrev pub text_of_slice : Snssai → List ℕ
text_of_slice s = line (codes "slice=" ++ long_text s)

-- the number of the reason, and the line that is at fault
abbrev pub text_of_refusal : Refusal → List ℕ
text_of_refusal f = line (codes "refusal=" ++ decimal (number f.reason)) ++ line (codes "line=" ++ decimal f.line)

abbrev pub settings_text : List ℕ
settings_text = line (codes "settings=ok")
