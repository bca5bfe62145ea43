use Rattle.task.specs.Stages.{stage_step}
use Rattle.task.specs.declared.stage.Stage.TheVariants.{Header}
use Rattle.records.proofs.Turns.{Along}
use Rattle.task.proofs.stage.check_records.Given as goal

abbrev pub invariant-loop-record : goal.invariant-loop-record
invariant-loop-record l = (goal.iterator-loop-record).can_next l.record-iterator × (goal.iterator-loop-record).is_finite l.record-iterator × Along (λ e. e) stage_step l.paper Header l.record-iterator l.stage
