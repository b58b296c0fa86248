use Rattle.std.proofs.Common.{◌≡◌, ◌==◌, Some, sym, ◌∙◌, arith, rules, tests}
use Rattle.std.proofs.lemmas.Iterator.{YieldsList-from_slice}
use Rattle.std.proofs.lemmas.Iterator.Search.{position_from_yields_List}
use Rattle.std.proofs.lemmas.Grind.{common_steps}
use Rattle.reader.proofs.Splits.{feed, no_feed, value_before, rest_after}
use Rattle.reader.proofs.lines.split.Goals as goal

pub returns-in_err-end-clause-splits : goal.returns-in_err-end-clause-splits
returns-in_err-end-clause-splits c =
    let p : c.position.result ≡ feed c.args.text.now = position_from_yields_List (λ b. b == 10) _ _ c.position.result c.position.ensures.ran (YieldsList-from_slice c.args.text.now (cc)) (λ x b q k. search (rules, tests)) in
    let e = c.in_err-end.was in
    let n = no_feed c.args.key.now c.args.text.now (sym p ∙ e) in
    cc (c.from_residual.ensures)

pub returns-in_err-value-clause-splits : goal.returns-in_err-value-clause-splits
returns-in_err-value-clause-splits c =
    let p : c.position.result ≡ feed c.args.text.now = position_from_yields_List (λ b. b == 10) _ _ c.position.result c.position.ensures.ran (YieldsList-from_slice c.args.text.now (cc)) (λ x b q k. search (rules, tests)) in
    let v = value_before c.args.key.now c.args.text.now c.in_ok-end.end (sym p ∙ c.in_ok-end.was) in
    let w = c.in_err-value.ensures.cases in
    grind (arith, common_steps)

pub returns-clause-splits : goal.returns-clause-splits
returns-clause-splits c =
    let p : c.position.result ≡ feed c.args.text.now = position_from_yields_List (λ b. b == 10) _ _ c.position.result c.position.ensures.ran (YieldsList-from_slice c.args.text.now (cc)) (λ x b q k. search (rules, tests)) in
    let f : feed c.args.text.now ≡ Some c.in_ok-end.end = sym p ∙ c.in_ok-end.was in
    let v = value_before c.args.key.now c.args.text.now c.in_ok-end.end f in
    let r = rest_after c.args.text.now c.in_ok-end.end f in
    let w = c.in_ok-value.ensures.cases in
    grind (arith, common_steps)
