-- The worked examples, as one table.
use Rattle.std.specs.Prelude.{◌≡◌, ℕ, true, false, List, Ok, Err, Result}
use Rattle.records.specs.declared.Layer.TheVariants.{Plan as InPlan, Proof as InProof}
use Rattle.logic.specs.Partial.{PartialState, whole}
use Rattle.formulas.specs.Formula.{Effect, var, neg, put, both, when}
use Rattle.formulas.specs.Results.{result}
use Rattle.task.specs.Contents.{task_in}
use Rattle.task.specs.Meaning.{model_of}
use Rattle.costs.specs.Kinds.{Minutes, Crew, amount, minutes, crew, pair}
use Rattle.costs.specs.declared.pair.Pair.{Pair}
use Rattle.plans.specs.declared.verdict.PlanFault.{PlanFault}
use Rattle.plans.specs.declared.verdict.PlanFault.TheVariants.{Inapplicable, GoalFalse}
use Rattle.plans.specs.Verdicts.{Answer as PlanAnswer, reached, plan_verdict}
use Rattle.plans.specs.Faults as plan_fault
use Rattle.logic.specs.declared.truth.Truth.{Truth}
use Rattle.logic.specs.declared.truth.Truth.TheVariants.{True as Inside, Open}
use Rattle.setpapers.specs.Lists.{list_in, list_answer}
use Rattle.setpapers.specs.FormulaSets.{formula_in, formula_answer}
use Rattle.trees.specs.Tree.{preorder}
use Rattle.judge.specs.declared.fault.ProofFault.{ProofFault}
use Rattle.judge.specs.declared.fault.ProofFault.TheVariants.{StartNotInside, Tree}
use Rattle.trees.specs.declared.fault.TreeFault.TheVariants.{Unsettled}
use Rattle.judge.specs.Faults as proof_fault
use Rattle.judge.specs.Lists.{holds_listed, plain_of}
use Rattle.judge.specs.Plain.{plain_tree}
use Rattle.judge.specs.Verdict.{proof_verdict}
use Rattle.cases.specs.Papers.{blade_paper, variant_paper, blade, variant, plan_of_three, plan_too_soon, plan_of_none, plan_of_two, zero_and_one, list_of_both, zero_alone, list_of_zero, one_alone, list_of_one, either_way, formula_either_way, neither, formula_neither, short_proof, tree_of_both, four_trees, plain_proof}

-- so many minutes, and a crew of so many
abbrev cost : ℕ → ℕ → Pair Minutes Crew
cost m c = record { first = amount m; second = amount c }

-- the verdict on a plan for the blade task, by minutes and then crew
abbrev plan : List ℕ → PlanAnswer (Pair Minutes Crew)
plan paper = plan_verdict (pair minutes crew) (model_of blade) paper

-- the plan is refused with this fault, which has the number n and the place `at`
pub record PlanRefused (paper : List ℕ) (fault : PlanFault) (n at : ℕ) : Type 0 where
  pub answer : plan paper ≡ Err fault
  pub number : plan_fault.number_of fault ≡ n
  pub layer : plan_fault.layer_of fault ≡ InPlan
  pub place : plan_fault.place_of fault ≡ at

-- the verdict on a proof for the variant over a set that answers so
abbrev proof : (PartialState → Truth) → List ℕ → Result (Unit {0}) ProofFault
proof ask paper = proof_verdict (model_of variant) ask paper

-- the proof is refused with this fault, which has the number n and the place `at`
pub record ProofRefused (ask : PartialState → Truth) (paper : List ℕ) (fault : ProofFault) (n at : ℕ) : Type 0 where
  pub answer : proof ask paper ≡ Err fault
  pub number : proof_fault.number_of fault ≡ n
  pub layer : proof_fault.layer_of fault ≡ InProof
  pub place : proof_fault.place_of fault ≡ at

-- when v0 clear v0, and when not v0 set v0
abbrev swap : Effect
swap = both (when (var 0) (put 0 false)) (when (neg (var 0)) (put 0 true))

-- set v0, and clear v0
abbrev set_and_clear : Effect
set_and_clear = both (put 0 true) (put 0 false)

-- the table
pub record WorkedExamples : Type 0 where
  -- the two tasks are read
  pub blade_read : task_in blade_paper ≡ Ok blade
  pub variant_read : task_in variant_paper ≡ Ok variant
  -- plan 0,1,2 ends in the state 7 after 3 steps, at 70 minutes and a crew of 2
  pub plan_accepted : plan plan_of_three ≡ Ok (reached 7 3 (cost 70 2))
  -- plan 0,2: step 1 does not apply; the empty plan, and plan 0,1: the goal is false after 0 and after 2 steps
  pub plan_too_soon_refused : PlanRefused plan_too_soon (Inapplicable 1) 11 1
  pub plan_of_none_refused : PlanRefused plan_of_none (GoalFalse 0) 13 0
  pub plan_of_two_refused : PlanRefused plan_of_two (GoalFalse 2) 13 2
  -- both conditions of an effect are read in the state before it
  pub swap_clears : result 1 swap 1 ≡ 0
  pub swap_sets : result 1 swap 0 ≡ 1
  -- a variable that is set and cleared is set
  pub set_wins_over_true : result 1 set_and_clear 1 ≡ 1
  pub set_wins_over_false : result 1 set_and_clear 0 ≡ 1
  -- over all states of one variable the formula v0 or not v0 is open, and the list 0,1 inside
  pub formula_read : formula_in 1 formula_either_way ≡ Ok either_way
  pub formula_open : formula_answer 1 either_way (whole 1) ≡ Open
  pub list_read : list_in 1 list_of_both ≡ Ok zero_and_one
  pub list_inside : list_answer 1 zero_and_one (whole 1) ≡ Inside
  -- the short proof is accepted over the list 0,1, and over the formula not v1 and not v2
  pub both_read : list_in 3 list_of_both ≡ Ok zero_and_one
  pub proof_by_list : proof (list_answer 3 zero_and_one) short_proof ≡ Ok tt
  pub neither_read : formula_in 3 formula_neither ≡ Ok neither
  pub proof_by_formula : proof (formula_answer 3 neither) short_proof ≡ Ok tt
  -- over the list 0 its leaf at 4 is not settled; over the list 1 the start is not inside
  pub zero_read : list_in 3 list_of_zero ≡ Ok zero_alone
  pub proof_unsettled : ProofRefused (list_answer 3 zero_alone) short_proof (Tree (Unsettled 4)) 18 4
  pub one_read : list_in 3 list_of_one ≡ Ok one_alone
  pub proof_without_start : ProofRefused (list_answer 3 one_alone) short_proof StartNotInside 16 0
  -- the plain tree of the list 0,1 over three variables, and the plain proof of it for the variant, which is accepted
  pub plain_tree_written : preorder (plain_tree (holds_listed zero_and_one) 3) ≡ tree_of_both
  pub plain_body : plain_of (model_of variant) zero_and_one ≡ four_trees
  pub plain_accepted : proof (list_answer 3 zero_and_one) plain_proof ≡ Ok tt
