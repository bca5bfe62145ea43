use Rattle.task.proofs.Rules.{well_formed}
use Rattle.task.proofs.place.Task.operator_count.Goals as goal

pub returns-clause-formed : goal.returns-clause-formed
returns-clause-formed c = well_formed c.args.self.now
