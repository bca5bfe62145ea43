use Rattle.std.proofs.Common.{sym, ◌∙◌}
use Rattle.task.proofs.Passes.{record_first}
use Rattle.task.proofs.place.Task.read.Goals as goal

pub returns-clause-records : goal.returns-clause-records
returns-clause-records c = λ f e. record_first c.args.paper.now f (sym c.replace.ensures.answer ∙ e)
