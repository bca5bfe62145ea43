use Rattle.std.proofs.Common.{sym, subst}
use Rattle.task.specs.Held.{model}
use Rattle.plans.specs.Achieves.{Exact}
use Rattle.plans.proofs.Exact.{exact}
use Rattle.plans.proofs.judge.judge_plan.Goals as goal

pub returns-clause-exact : goal.returns-clause-exact
returns-clause-exact g c =
    let K = g.C.Cost.kind in
    let m = model c.args.task.now in
    subst (Exact K m c.args.paper.now) (sym c.plan_verdict.ensures) (exact K m c.args.paper.now (λ i. (c.type_inv.paper i).fits))
