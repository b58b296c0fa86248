-- A list that lies at the front of lent cells.
use Rattle.std.specs.Prelude.{ℕ, ◌+◌, ◌≤◌, List, length, take}
use Rattle.std.proofs.Common.{arith, length-take}

-- what the cells in use hold, in order, and how many cells are free
pub record Filling (X : Type 0) : Type 0 where
  pub items : List X
  pub free : ℕ

-- how many cells there are
abbrev pub cell_count : {X : Type 0} → Filling X → ℕ
cell_count f = length f.items + f.free

-- no more items than cells, however many cells are in use
pub few_in_use : {X : Type 0} (n : ℕ) (xs : List X) → length (take n xs) ≤ length xs
few_in_use n xs = simp length-take (omega arith)
