use Rattle.std.proofs.Common.{rules, ◌∙◌, sym}
use Rattle.checker.proofs.Scans.{next_piece, fewer}
use Rattle.checker.proofs.pieces.PiecesIterator.next.Goals as goal

pub returns-clause-steps : goal.returns-clause-steps
returns-clause-steps c =
    sym c.self.view_is ∙ next_piece c.self.inside.rest.now c.piece_end-end.result c.min.result c.piece_end-end.ensures.ends c.min.ensures (search rules)

pub returns-clause-goes : goal.returns-clause-goes
returns-clause-goes c = record { on = λ _. (tt, tt, fewer _ _ _ (returns-clause-steps c)); keeps = tt; rests = λ _. tt }
