use Rattle.planning.proofs.Reached.{reachable_least}
use Rattle.planning.proofs.reachable_states_are_least.Goals as goal

pub returns : goal.returns
returns c = reachable_least
