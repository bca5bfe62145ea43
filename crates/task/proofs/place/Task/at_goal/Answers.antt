use Rattle.std.proofs.Common.{sym, ap, ◌∙◌}
use Rattle.logic.specs.Kleene.{sure}
use Rattle.logic.specs.Views.{partial}
use Rattle.formulas.specs.Formula.{holds}
use Rattle.formulas.specs.Results.{state}
use Rattle.task.specs.Held.{nodes_of, ordered_of}
use Rattle.task.specs.Meaning.{goal_at}
use Rattle.task.proofs.States.{one_state, sure_in}
use Rattle.task.proofs.place.Task.at_goal.Goals as goal

pub returns-in-Some : goal.returns-in-Some
returns-in-Some c =
    let t = c.args.self.now in
    let one = one_state t.n c.args.state c.states.result c.at.result c.states.ensures c.at.ensures in
    c.is_true.ensures ∙ ap sure c.value.ensures.truth
    ∙ sure_in t.n c.args.state (nodes_of t) (ordered_of t) (partial c.at.result) one c.in-Some.goal
    ∙ ap (λ g. holds (state c.args.state) (goal_at (nodes_of t) g)) (sym c.in-Some.is)
