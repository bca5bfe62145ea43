use Rattle.std.proofs.Common.{Err, sym, ap, ◌∙◌}
use Rattle.std.proofs.lemmas.Result.{err_from_is_err_and}
use Rattle.task.specs.Held.{model}
use Rattle.plans.proofs.Running.{too_many, few_enough}
use Rattle.plans.proofs.judge.plan_verdict.Goals as goal

pub returns-then-body : goal.returns-then-body
returns-then-body g c =
    too_many g.C.Cost.kind (model c.args.task.now) c.args.paper.now c.in_ok-body.body.now c.in_ok-body.ensures.value c.if-body.true

pub returns-in_err-take_steps : goal.returns-in_err-take_steps
returns-in_err-take_steps g c =
    let p = err_from_is_err_and c.from_residual-in_err-take_steps.result c.from_residual-in_err-take_steps.ensures.1 in
    p.1 ∙ ap Err p.2
    ∙ sym (few_enough g.C.Cost.kind (model c.args.task.now) c.args.paper.now c.in_ok-body.body.now c.in_ok-body.ensures.value c.if-body.false _ c.in_err-take_steps.ensures)

pub returns : goal.returns
returns g c =
    c.finish.ensures
    ∙ sym (few_enough g.C.Cost.kind (model c.args.task.now) c.args.paper.now c.in_ok-body.body.now c.in_ok-body.ensures.value c.if-body.false _ c.in_ok-take_steps.ensures)
