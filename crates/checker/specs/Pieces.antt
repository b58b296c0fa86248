-- The pieces of an input.
use Rattle.std.specs.Prelude.{ℕ, suc, Bool, true, cond, ◌&&◌, List, [], ◌∷◌, ◌++◌, length, ◌==◌}

-- the pieces of what is left, after the bytes of the piece so far: an empty line ends a piece, and the end of the
-- input ends one that has bytes; `fresh` says that a line begins here
abbrev pub cut : Bool → List ℕ → List ℕ → List (List ℕ)
cut fresh piece [] = cond (length piece == 0) [] (piece ∷ [])
cut fresh piece (b ∷ bs) = cond (fresh && b == 10) (piece ∷ cut true [] bs) (cut (b == 10) (piece ++ b ∷ []) bs)

abbrev pub pieces_of : List ℕ → List (List ℕ)
pieces_of input = cut true [] input

-- how many bytes stand before the first empty line
abbrev pub up_to : Bool → List ℕ → ℕ
up_to fresh [] = 0
up_to fresh (b ∷ bs) = cond (fresh && b == 10) 0 (suc (up_to (b == 10) bs))
