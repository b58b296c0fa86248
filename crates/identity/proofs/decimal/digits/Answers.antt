use Rattle.std.proofs.Common.{sym, ◌∙◌, arith}
use Rattle.identity.proofs.Digits.{past}
use Rattle.identity.proofs.decimal.digits.Goals as goal

pub returns-in_err-checked_mul-clause-reads : goal.returns-in_err-checked_mul-clause-reads
returns-in_err-checked_mul-clause-reads c =
    let l = c.loop-b in
    let e = past l.value c.args.most c.args.bytes.now l.b-index c.in_ok-digit.field-0 c.loop-b-test.true (sym c.in_ok-digit.ensures) (omega (arith, c.in_err-checked_mul.ensures, c.ranges.most.fits)) in
    c.from_residual-in_err-checked_mul.ensures ∙ sym e ∙ l.invariant.1

pub returns-in_err-value-clause-reads : goal.returns-in_err-value-clause-reads
returns-in_err-value-clause-reads c =
    let l = c.loop-b in
    let e = past l.value c.args.most c.args.bytes.now l.b-index c.in_ok-digit.field-0 c.loop-b-test.true (sym c.in_ok-digit.ensures) (omega (arith, c.in_ok-checked_mul.ensures, c.from-digit.ensures, c.in_err-value.ensures, c.ranges.most.fits)) in
    c.from_residual-in_err-value.ensures ∙ sym e ∙ l.invariant.1

pub returns-then-value-most-clause-reads : goal.returns-then-value-most-clause-reads
returns-then-value-most-clause-reads c =
    let l = c.loop-b in
    let e = past l.value c.args.most c.args.bytes.now l.b-index c.in_ok-digit.field-0 c.loop-b-test.true (sym c.in_ok-digit.ensures) (omega (arith, c.in_ok-checked_mul.ensures, c.from-digit.ensures, c.in_ok-value.ensures)) in
    sym e ∙ l.invariant.1
