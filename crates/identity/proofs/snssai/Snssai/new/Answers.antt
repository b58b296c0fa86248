use Rattle.std.proofs.Common.{sym}
use Rattle.identity.proofs.Made.{slice_made, slice_none}
use Rattle.identity.proofs.snssai.Snssai.new.Goals as goal

pub returns-then-sd-le-NO_SD : goal.returns-then-sd-le-NO_SD
returns-then-sd-le-NO_SD c = sym (slice_made _)

pub returns-else-sd-le-NO_SD : goal.returns-else-sd-le-NO_SD
returns-else-sd-le-NO_SD c = sym (slice_none c.args.sst c.args.sd c.if-sd-le-NO_SD.false)
