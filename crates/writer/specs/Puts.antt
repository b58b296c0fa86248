-- Bytes that are written at a place of a buffer.
use Rattle.std.specs.Prelude.{ℕ, ◌+◌, cond, List, ◌++◌, length, take, drop, Some, None, Option, nat_le}

-- the buffer with the bytes at the place, and every other byte as it was
abbrev pub written : ℕ → List ℕ → List ℕ → List ℕ
written at bs out = take at out ++ (bs ++ drop (at + length bs) out)

-- where the bytes end and the buffer with them, if they fit; else the buffer as it was
abbrev pub put_at : ℕ → List ℕ → List ℕ → Option ℕ × List ℕ
put_at at bs out = cond (nat_le (at + length bs) (length out)) (Some (at + length bs), written at bs out) (None, out)
