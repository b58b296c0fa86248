use Rattle.std.proofs.Common.{rules, refl, length, take, drop, ◌-◌}
use Rattle.std.proofs.lemmas.Iterator.{YieldsList-from_slice, YieldsList-from_zip}
use Rattle.std.proofs.lemmas.Iterator.Search.{position_from_yields_List}
use borrow.Author.Tests.{tests}
use Rattle.checker.proofs.Scans.{empty_line?, first_pair}
use Rattle.checker.proofs.pieces.piece_end.Goals as goal

pub returns-in-len1-up-clause-ends : goal.returns-in-len1-up-clause-ends
returns-in-len1-up-clause-ends c =
    let text = c.args.text.now in
    first_pair text (take (length text - 1) (drop 1 text)) c.position.result c.map_or.result c.in-len1-up.len_at_least c.if-first-ne10.true refl
    (position_from_yields_List empty_line? c.position.new.self _ c.position.result c.position.ensures.ran
    (YieldsList-from_zip (YieldsList-from_slice text (cc)) (YieldsList-from_slice (take (length text - 1) (drop 1 text)) c.zip.ensures.second.0))
    (λ x b q k. search (rules, tests)))
    (search rules)
