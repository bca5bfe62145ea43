use Rattle.std.proofs.Common.{◌≡◌, true, false, Some, vec_items, ap, ◌∙◌, rules}
use Rattle.std.specs.List.{slice_get}
use Rattle.logic.specs.Kleene.{sure}
use Rattle.logic.specs.Views.{partial}
use Rattle.formulas.specs.Decode.{formula_at}
use Rattle.formulas.specs.Formula.{holds}
use Rattle.formulas.specs.Results.{state}
use Rattle.task.specs.Held.{value_of, nodes_of, ordered_of}
use Rattle.task.proofs.Running.{step_unfit, step_to}
use Rattle.task.proofs.States.{one_state, sure_in, result_in}
use Rattle.task.proofs.place.Task.step.Goals as goal

pub returns-then-not-is_true : goal.returns-then-not-is_true
returns-then-not-is_true c =
    let t = c.args.self.now in
    let op = c.in_ok-operator.operator in
    let is : slice_get (vec_items t.operators) c.args.number ≡ Some op = search rules in
    let one = one_state t.n c.args.state c.states.result c.at-cube.result c.states.ensures c.at-cube.ensures in
    let unfit : false ≡ holds (state c.args.state) (formula_at (nodes_of t) op.precondition) =
    c.if-not-is_true.ensures ∙ ap sure c.value.ensures.truth ∙ sure_in t.n c.args.state (nodes_of t) (ordered_of t) (partial c.at-cube.result) one op.precondition in
    step_unfit (value_of t) c.args.state c.args.number op is unfit

pub returns : goal.returns
returns c =
    let t = c.args.self.now in
    let op = c.in_ok-operator.operator in
    let is : slice_get (vec_items t.operators) c.args.number ≡ Some op = search rules in
    let one = one_state t.n c.args.state c.states.result c.at-cube.result c.states.ensures c.at-cube.ensures in
    let fit : true ≡ holds (state c.args.state) (formula_at (nodes_of t) op.precondition) =
    c.if-not-is_true.ensures ∙ ap sure c.value.ensures.truth ∙ sure_in t.n c.args.state (nodes_of t) (ordered_of t) (partial c.at-cube.result) one op.precondition in
    step_to (value_of t) c.args.state c.args.number op is _ fit
    (c.values.ensures ∙ result_in t.n c.args.state (nodes_of t) (ordered_of t) (partial c.at-cube.result) one op.effect (partial c.successor.result) c.successor.ensures.value)
