use Rattle.std.proofs.Common.{Bool, ◌∙◌, arith, rules, tests}
use Rattle.std.specs.Ordering.{is_ge}
use Rattle.std.proofs.lemmas.Iterator.{YieldsList-from_slice}
use Rattle.std.proofs.lemmas.Iterator.Search.{position_from_yields_List}
use Rattle.store.specs.Orders.{below}
use Rattle.store.specs.declared.entry.Entry.{Entry}
use Rattle.store.proofs.Keys.{ranks_ge}
use Rattle.rows.proofs.KeyRows.{first_place}
use Rattle.rows.proofs.key_row.KeyRow.place_of.Goals as goal

pub returns : goal.returns
returns g c =
    let es = c.args.self.now.cells.items in
    let k = c.args.key.now in
    let test : Entry g.row.K.Denot g.row.V.Denot → Bool = λ e. is_ge (g.K.Ord.cmp e.key k) in
    let ran = position_from_yields_List test _ _ c.position-first.result c.position-first.ensures.ran (YieldsList-from_slice es (c.iter.ensures.rest ∙ c.as_slice-entries.ensures)) (λ x b q k. search (rules, tests)) in
    let p = first_place (below g.K.Ord.cmp) es k test (λ e. ranks_ge g.K.Ord.cmp e.key k) c.position-first.result ran in
    grind arith
