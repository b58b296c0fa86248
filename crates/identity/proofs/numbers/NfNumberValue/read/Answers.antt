use Rattle.std.proofs.Common.{sym, ap, ◌∙◌}
use Rattle.identity.specs.Chains.{given}
use Rattle.identity.specs.Numbers.{nf}
use Rattle.identity.proofs.Made.{nf_made}
use Rattle.identity.proofs.numbers.NfNumberValue.read.Goals as goal

pub returns : goal.returns
returns c = sym (nf_made _) ∙ ap (λ n. given n nf) c.in_ok-number.ensures
