use Rattle.std.proofs.Common.{◌≡◌, ◌≤◌, length, sym, arith}
use Rattle.identity.proofs.Widths.{digits_read, digits_missed, value-fits, imsi_none, imsi_some}
use Rattle.identity.proofs.supi.Supi.new.Goals as goal

pub returns-in_err-digits : goal.returns-in_err-digits
returns-in_err-digits c =
    let bs = c.args.imsi.now in
    let few : length bs ≤ 15 = grind (arith, c.if-not-contains.ensures.cases, c.in_ok-count.ensures) in
    rw c.from_residual-in_err-digits.ensures (sym (imsi_none bs (digits_missed bs c.in_err-digits.ensures.reads few)))

pub invariant_of-result : goal.invariant_of-result
invariant_of-result c =
    let bs = c.args.imsi.now in
    let count : c.in_ok-count.count ≡ length bs = grind (arith, c.in_ok-count.ensures) in
    let range : (5 ≤ c.in_ok-count.count) × (c.in_ok-count.count ≤ 15) = grind (arith, c.if-not-contains.ensures.value) in
    let d = digits_read bs c.in_ok-digits.field-0 c.in_ok-digits.ensures.reads in
    let f = value-fits bs d.0 in
    record { least = range.0; most = range.1; fits = rw (d.1, count) f }

pub returns : goal.returns
returns c =
    let bs = c.args.imsi.now in
    let count : c.in_ok-count.count ≡ length bs = grind (arith, c.in_ok-count.ensures) in
    let range : (5 ≤ length bs) × (length bs ≤ 15) = grind (arith, c.if-not-contains.ensures.value) in
    let d = digits_read bs c.in_ok-digits.field-0 c.in_ok-digits.ensures.reads in
    imsi_some bs _ range.0 range.1 d.0 count d.1
