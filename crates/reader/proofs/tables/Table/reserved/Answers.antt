use Rattle.std.proofs.Common.{arith, rules, tests}
use Rattle.std.proofs.lemmas.Iterator.{YieldsList-from_slice}
use Rattle.std.proofs.lemmas.Iterator.Adapters.{at_most_from_yields_List}
use Rattle.reader.proofs.Sums.{sum_below}
use Rattle.reader.proofs.tables.Table.reserved.Goals as goal

pub returns-clause-small : goal.returns-clause-small
returns-clause-small c = (
  sum_below _ _ c.sum-entries.result (at_most_from_yields_List (YieldsList-from_slice c.as_slice-blocks.result.now (cc)) (grind arith)) c.map.ensures.closure (λ x r q k. search (rules, tests)) (c.sum-entries.ensures.runs tt),
  sum_below _ _ c.sum-sessions.result (at_most_from_yields_List (YieldsList-from_slice c.as_slice-blocks.result.now (cc)) (grind arith)) c.map-2.ensures.closure (λ x r q k. search (rules, tests)) (c.sum-sessions.ensures.runs tt),
)
