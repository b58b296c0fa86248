-- What a key row stands for.
use Rattle.std.specs.Prelude.{◌≡◌, ℕ, ◌<◌, ◌≤◌, Bool, true, false, List, length, Ok, Err, Result}
use Rattle.store.specs.declared.entry.Entry.{Entry}
use Rattle.store.specs.Maps.{holds, place}

-- the key is held at place i, or it is not and would stand there
abbrev pub Seeks : {K V : Type 0} → (K → K → Bool) → List (Entry K V) → K → Result ℕ ℕ → Type 0
Seeks below es k (Ok i) = (i ≡ place below es k) × (holds below es k ≡ true) × (i < length es)
Seeks below es k (Err i) = (i ≡ place below es k) × (holds below es k ≡ false) × (i ≤ length es)
