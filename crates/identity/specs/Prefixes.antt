-- What follows a prefix.
use Rattle.std.specs.Prelude.{ℕ, cond, List, length, take, drop, Some, None, Option}
use Rattle.std.specs.Str.{bytes_eq}

-- what follows a prefix that the bytes begin with
abbrev pub after : List ℕ → List ℕ → Option (List ℕ)
after prefix bs = cond (bytes_eq (take (length prefix) bs) prefix) (Some (drop (length prefix) bs)) None
