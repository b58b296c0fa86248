use Rattle.std.proofs.Common.{arith}
use Rattle.store.proofs.Keys.{key_order}
use Rattle.rows.proofs.Loose.{full}
use Rattle.rows.proofs.loose_row.LooseRowStore.size.Goals as goal

pub returns : goal.returns
returns g c =
    let s = c.args.self.now in
    let f = full (key_order g.met.K.Ord.total g.met.K.Key.one) s.cells.items s.distinct in
    grind arith
