-- The table holds, whatever is returned.
use Rattle.cases.proofs.Worked.{worked}
use Rattle.cases.proofs.worked_examples_hold.Goals as goal

pub returns : goal.returns
returns c = worked
