use Rattle.records.proofs.Turns.{Along}
use Rattle.task.specs.declared.faults.TaskFault.TheVariants.{Record}
use Rattle.task.specs.Values.{blank}
use Rattle.task.specs.Held.{value_of}
use Rattle.task.specs.Contents.{content_step}
use Rattle.task.proofs.place.Task.fill.Given as goal

abbrev pub invariant-loop-record : goal.invariant-loop-record
invariant-loop-record l = (goal.iterator-loop-record).can_next l.record-iterator × (goal.iterator-loop-record).is_finite l.record-iterator × Along Record content_step l.paper blank l.record-iterator (value_of l.self)
