use Rattle.std.proofs.Common.{arith}
use Rattle.store.specs.Orders.{below}
use Rattle.store.proofs.Places.{lookup-held, lookup-missing}
use Rattle.rows.proofs.key_row.KeyRowStore.find.Goals as goal

pub returns-in_err-place : goal.returns-in_err-place
returns-in_err-place g c = grind (arith, lookup-missing)

pub returns : goal.returns
returns g c =
    let h = lookup-held (below g.K.Ord.cmp) c.args.self.now.cells.items c.args.key.now in
    grind arith
