use Rattle.std.proofs.Common.{Bool, ◌∙◌, rules, tests}
use Rattle.std.proofs.lemmas.Iterator.{YieldsList-from_slice}
use Rattle.std.proofs.lemmas.Iterator.Search.{position_from_yields_List}
use Rattle.store.specs.declared.entry.Entry.{Entry}
use Rattle.store.proofs.Keys.{key_order, same_key, other_key}
use Rattle.rows.proofs.Loose.{spotted}
use Rattle.rows.proofs.loose_row.LooseRow.spot.Goals as goal

pub returns : goal.returns
returns g c =
    let es = c.args.self.now.cells.items in
    let k = c.args.key.now in
    let total = g.met.K.Ord.total in
    let one = g.met.K.Key.one in
    let eq = g.K.PartialEq.eq in
    let same = g.met.K.Ord.matches_eq in
    let test : Entry g.row.K.Denot g.row.V.Denot → Bool = λ e. eq e.key k in
    let ran = position_from_yields_List test _ _ c.position.result c.position.ensures.ran (YieldsList-from_slice es (c.iter-entries.ensures.rest ∙ c.as_slice.ensures)) (λ x b q k. search (rules, tests)) in
    spotted (key_order total one) k test (λ e. same_key total one eq same e.key k) (λ e. other_key total one eq same e.key k) es c.position.result ran
