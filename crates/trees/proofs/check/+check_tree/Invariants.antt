use Rattle.logic.specs.Partial.{free_count}
use Rattle.logic.specs.Views.{partial}
use Rattle.trees.proofs.check.+check_tree.Given as goal

abbrev pub decreases-check_tree : goal.decreases-check_tree
decreases-check_tree g l = free_count (partial l.cube)
