-- Words, and those of an access.
use Rattle.std.specs.Prelude.{ℕ, cond, List, Some, None, codes, Option}
use Rattle.std.specs.Borrow.{Bor}
use Rattle.std.specs.List.{find}
use Rattle.std.specs.Option.{option_map}
use Rattle.std.specs.Str.{bytes_eq}
use Rattle.identity.specs.declared.access.Access.{Access}
use Rattle.identity.specs.declared.access.Access.TheVariants.{ThreeGpp, NonThreeGpp}

-- the value of the first word that equals the bytes
abbrev pub spelled : {A : Type 0} → List ℕ → List (Bor (List ℕ) × A) → Option A
spelled bs words = option_map (λ w. w.1) (find (λ w. bytes_eq bs w.0.now) words)

-- what a word stands for, or else
abbrev pub word : {A : Type 0} → List ℕ → A → (List ℕ → Option A) → List ℕ → Option A
word text x others bs = cond (bytes_eq bs text) (Some x) (others bs)

abbrev pub no_other : {A : Type 0} → List ℕ → Option A
no_other bs = None

abbrev pub access_of : List ℕ → Option Access
access_of = word (codes "3gpp") ThreeGpp (word (codes "non-3gpp") NonThreeGpp no_other)
