use Rattle.std.proofs.Common.{◌≡◌, suc, ◌+◌, ap, ◌∙◌, add-one}
use Rattle.std.proofs.lemmas.Result.{err_from_is_err_and}
use Rattle.records.specs.Cuts.{seen}
use Rattle.logic.specs.Views.{partial}
use Rattle.task.specs.Held.{model}
use Rattle.judge.specs.Verdict.{tree_count}
use Rattle.judge.proofs.Judged.{trees_refused, trees_passed}
use Rattle.judge.proofs.proof.proof_verdict.Goals as goal

pub returns-in_err-check_body : goal.returns-in_err-check_body
returns-in_err-check_body g c =
    let p = err_from_is_err_and c.from_residual-in_err-check_body.result c.from_residual-in_err-check_body.ensures.1 in
    let number : c.operator_count.result + 1 ≡ tree_count (model c.args.task.now) = add-one c.operator_count.result ∙ ap suc c.operator_count.ensures.count in
    trees_refused (model c.args.task.now) (g.S.StateSet.answer c.args.set.now) c.args.paper.now c.in_ok-body.body.now (seen c.single.result) c.single.ensures.value
    (ap seen c.in_ok-body.was) c.holds_start.result c.holds_start.ensures c.if-not-holds_start.false (partial c.states.result) c.states.ensures (c.operator_count.result + 1) number
    c.check_body.result c.check_body.ensures.value c.in_err-check_body.field-0.0 p.0 c.from_residual-in_err-check_body.result c.in_err-check_body.was p.1 p.2

pub returns : goal.returns
returns g c =
    let number : c.operator_count.result + 1 ≡ tree_count (model c.args.task.now) = add-one c.operator_count.result ∙ ap suc c.operator_count.ensures.count in
    trees_passed (model c.args.task.now) (g.S.StateSet.answer c.args.set.now) c.args.paper.now c.in_ok-body.body.now (seen c.single.result) c.single.ensures.value
    (ap seen c.in_ok-body.was) c.holds_start.result c.holds_start.ensures c.if-not-holds_start.false (partial c.states.result) c.states.ensures (c.operator_count.result + 1) number
    c.check_body.result c.check_body.ensures.value c.in_ok-check_body.was
