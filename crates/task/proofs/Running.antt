-- An operator that is tried in a state.
use Rattle.std.proofs.Common.{◌≡◌, ℕ, true, false, cond, Some, Ok, Err, sym, ap, ◌∙◌, option_map}
use Rattle.std.specs.List.{slice_get}
use Rattle.std.proofs.lemmas.Option.{slice_get-map}
use Rattle.formulas.specs.Formula.{holds}
use Rattle.formulas.specs.Results.{state, result}
use Rattle.task.specs.declared.entries.Operator.{Operator}
use Rattle.task.specs.declared.stepping.StepFault.TheVariants.{Inapplicable}
use Rattle.task.specs.Values.{Value}
use Rattle.task.specs.Meaning.{action, arrival, model_of, tried, stepped}

module _ (v : Value) (s o : ℕ) (op : Operator) (is : slice_get v.operators o ≡ Some op) where
  known : stepped (model_of v) s o ≡ tried v.n s (Some (action v.nodes op))
  known = ap (tried v.n s) (slice_get-map (action v.nodes) v.operators o ∙ ap (option_map (action v.nodes)) is)

  -- its precondition is false
  pub step_unfit : false ≡ holds (state s) (action v.nodes op).precondition → Err Inapplicable ≡ stepped (model_of v) s o
  step_unfit e = sym (known ∙ ap (λ q. cond q (Ok (arrival (result v.n (action v.nodes op).effect s) op.minutes op.crew)) (Err Inapplicable)) (sym e))

  -- it leads to the state t
  pub step_to : (t : ℕ) → true ≡ holds (state s) (action v.nodes op).precondition → t ≡ result v.n (action v.nodes op).effect s → Ok (arrival t op.minutes op.crew) ≡ stepped (model_of v) s o
  step_to t e to =
      ap (λ q. Ok (arrival q op.minutes op.crew)) to
      ∙ sym (known ∙ ap (λ q. cond q (Ok (arrival (result v.n (action v.nodes op).effect s) op.minutes op.crew)) (Err Inapplicable)) (sym e))
