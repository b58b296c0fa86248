-- Sums over at most sixteen blocks.
use Rattle.std.proofs.Common.{◌≡◌, ℕ, ◌+◌, ◌<◌, Option, arith}
use Rattle.std.proofs.lemmas.Iterator.Adapters.{YieldsAtMost, fits_from_length}
use Rattle.std.specs.Fn.{Called}
use Rattle.std.specs.Iterator.Runs.{WholeRun}
use Rattle.std.specs.Iterator.Adapters.{map_source, map_callee, map_steps}
use Rattle.std.specs.List.{fold}
use Rattle.std.specs.declared.iter.Map.{Map}
use denote.Param.Members.{Mut}

pub sum_below : {S A F : Type 0} {steps : S → Option A → S → Type 0} {s : Map S F} (g : Mut F (A × Unit {0}) ℕ) (f : F) (total : ℕ) → YieldsAtMost steps (map_source s) 16 → map_callee s ≡ f → ((x : A) (r : ℕ) (q : F) → Called g f (x, tt) r q → (q ≡ f) × (r < 4294967296)) → WholeRun (map_steps steps g) s (λ p. total ≡ fold (λ a x. a + x) 0 p.items) → total < 1099511627776
sum_below g f total many is small run =
    let l = fits_from_length g f 16 1099511627776 many is (omega arith) (λ x r q k. let h = small x r q k in (h.0, omega arith)) run.0 run.0.seen run.1 in
    omega (arith, run.3)
