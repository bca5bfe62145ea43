use Rattle.std.proofs.lemmas.Result.{err_from_is_err_and}
use Rattle.logic.specs.Views.{partial}
use Rattle.trees.proofs.Rounds.{round_fails, round_goes}
use Rattle.trees.proofs.check.check_trees.Goals as goal
use Rattle.std.proofs.Common.{sym, ◌∙◌}

pub returns-in_err-at : goal.returns-in_err-at
returns-in_err-at g c =
    let p = err_from_is_err_and c.from_residual.result c.from_residual.ensures.1 in
    round_fails (g.L.LeafRules.settles c.args.rules.now) c.args.body.now (partial c.args.space) c.args.count c.loop-rule.rule c.loop-rule.at _ c.loop-rule.invariant
    c.loop-rule-test.true c.in_err-at.field-0.0 p.0 c.from_residual.result (sym c.check_tree.ensures.value ∙ c.in_err-at.was) p.1 p.2

pub loop-rule-preserved : goal.loop-rule-preserved
loop-rule-preserved g c =
    round_goes (g.L.LeafRules.settles c.args.rules.now) c.args.body.now (partial c.args.space) c.args.count c.loop-rule.rule c.loop-rule.at _ c.loop-rule.invariant
    c.loop-rule-test.true c.in_ok-at.at (sym c.check_tree.ensures.value ∙ c.in_ok-at.was)
