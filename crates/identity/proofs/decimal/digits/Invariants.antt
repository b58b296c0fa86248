use Rattle.std.proofs.Common.{◌≡◌, ◌≤◌, drop}
use Rattle.identity.specs.Decimals.{digits_after, digits_of}
use Rattle.identity.proofs.decimal.digits.Given as goal

abbrev pub invariant-loop-b : goal.invariant-loop-b
invariant-loop-b l = (l.value ≤ l.most) × (digits_after l.value l.most (drop l.b-index l.bytes) ≡ digits_of l.most l.bytes)
