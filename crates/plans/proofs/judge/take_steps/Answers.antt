use Rattle.std.proofs.Common.{sym, ap, ◌∙◌, map}
use Rattle.task.specs.Held.{model}
use Rattle.plans.specs.Verdicts.{run}
use Rattle.plans.proofs.Running.{operator_of, steps_paired}
use Rattle.plans.proofs.judge.take_steps.Goals as goal

pub loop-operator-init : goal.loop-operator-init
loop-operator-init g c =
    λ i. run g.C.Cost.kind (model c.args.task.now) (c.begin-reached.ensures i)
    ((ap (map operator_of) c.as_chunks.ensures.front ∙ sym (steps_paired c.args.body.now)) i)
