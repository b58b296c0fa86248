use Rattle.std.proofs.Common.{sym, ap, ◌∙◌}
use Rattle.identity.specs.Chains.{given}
use Rattle.identity.specs.Numbers.{session}
use Rattle.identity.proofs.Made.{session_made}
use Rattle.identity.proofs.numbers.SessionIdValue.read.Goals as goal

pub returns : goal.returns
returns c = sym (session_made _) ∙ ap (λ n. given n session) c.in_ok-number.ensures
