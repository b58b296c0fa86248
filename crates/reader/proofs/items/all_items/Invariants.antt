use Rattle.std.proofs.Common.{◌≡◌, ◌-◌, [], length}
use Rattle.reader.specs.Readings.{at_most_at}
use Rattle.reader.proofs.items.all_items.Given as goal

-- what is still to be read comes to all that is read
abbrev pub invariant-loop-item : goal.invariant-loop-item
invariant-loop-item g l =
    at_most_at (g.row.N - length l.items) (g.T.Item.item_at l.given) l.items l.lines ≡ at_most_at g.row.N (g.T.Item.item_at l.given) [] l.initial.lines

abbrev pub decreases-loop-item : goal.decreases-loop-item
decreases-loop-item g l = g.row.N - length l.items
