use Rattle.std.proofs.Common.{Ok, rules}
use Rattle.reader.specs.Requests.{request_of, slices_at}
use Rattle.reader.proofs.RequestLaw.{decided}
use Rattle.reader.proofs.requests.read_request.Goals as goal

pub returns-clause-decided : goal.returns-clause-decided
unfolding request_of slices_at
returns-clause-decided c =
    decided c.args.text.now (Ok (record { call = c.in_ok-call.call; ue = c.in_ok-call.ue; access = c.in_ok-access.access; slices = c.in_ok-slices.slices })) (search rules)
