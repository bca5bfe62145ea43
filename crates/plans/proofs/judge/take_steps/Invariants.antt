use Rattle.std.proofs.Common.{◌≡◌, drop, map}
use Rattle.task.specs.Held.{model}
use Rattle.plans.specs.Verdicts.{run, begin, steps_in}
use Rattle.plans.proofs.Running.{operator_of}
use Rattle.plans.proofs.judge.take_steps.Given as goal

abbrev pub invariant-loop-operator : goal.invariant-loop-operator
invariant-loop-operator g l =
    run g.C.Cost.kind (model l.task) l.reached (map operator_of (drop l.operator-index l.steps))
    ≡ run g.C.Cost.kind (model l.task) (begin g.C.Cost.kind (model l.task)) (steps_in l.body)
