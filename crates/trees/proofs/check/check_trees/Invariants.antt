use Rattle.std.proofs.Common.{◌≡◌, ◌-◌}
use Rattle.logic.specs.Views.{partial}
use Rattle.trees.specs.Check.{trees_from, body_verdict}
use Rattle.trees.proofs.check.check_trees.Given as goal

abbrev pub invariant-loop-rule : goal.invariant-loop-rule
invariant-loop-rule g l =
    let settles = g.L.LeafRules.settles l.rules in
    (trees_from settles l.body (partial l.space) (l.count - l.rule) l.rule l.at ≡ body_verdict settles l.body (partial l.space) l.count)
