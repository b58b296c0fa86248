-- What a walk writes.
use Rattle.std.specs.Prelude.{ℕ, min, List, ◌++◌, length, take, drop}

-- as many keys as there are places, from the front, and how many they are; the places behind them stay
abbrev pub walked : {K : Type 0} → List K → List K → ℕ × List K
walked ks places = (min (length ks) (length places), take (length places) ks ++ drop (length ks) places)
