-- The verdict on a proof, and when it is accepted.
use Rattle.std.specs.Prelude.{◌≡◌, ℕ, suc, cond, List, length, Err, Result}
use Rattle.records.specs.declared.PaperKind.TheVariants.{Proof}
use Rattle.records.specs.Papers.{Holds}
use Rattle.records.specs.Single.{and_then, single_in}
use Rattle.records.specs.Walks.{map_err}
use Rattle.logic.specs.Kleene.{sure}
use Rattle.logic.specs.Partial.{PartialState, whole, single}
use Rattle.logic.specs.declared.truth.Truth.{Truth}
use Rattle.logic.specs.declared.truth.Truth.TheVariants.{True as Inside}
use Rattle.trees.specs.Check.{body_verdict}
use Rattle.trees.specs.Tree.{Proves}
use Rattle.planning.specs.Model.{Model}
use Rattle.judge.specs.declared.fault.ProofFault.{ProofFault}
use Rattle.judge.specs.declared.fault.ProofFault.TheVariants.{Record, StartNotInside, Tree}
use Rattle.judge.specs.Rules.{settles}

-- the answer to the start
abbrev pub start_answer : Model → (PartialState → Truth) → Truth
start_answer m ask = ask (single m.variables m.start)

-- a tree for the goal, and one for each operator
abbrev pub tree_count : Model → ℕ
tree_count m = suc (length m.operators)

-- the verdict on a body: the set answers inside to the start, and the trees are accepted
abbrev pub body_judged : Model → (PartialState → Truth) → List ℕ → Result (Unit {0}) ProofFault
body_judged m ask body =
    cond (sure (start_answer m ask)) (map_err Tree (body_verdict (settles ask m) body (whole m.variables) (tree_count m))) (Err StartNotInside)

-- the verdict on a paper
abbrev pub proof_verdict : Model → (PartialState → Truth) → List ℕ → Result (Unit {0}) ProofFault
proof_verdict m ask paper = and_then (map_err Record (single_in Proof paper)) (body_judged m ask)

-- the paper is one record whose body is a lawful tree over all states for the goal, and then one for each operator,
-- and the set answers inside to the start
pub record Accepted (m : Model) (ask : PartialState → Truth) (paper : List ℕ) : Type 0 where
  pub body : List ℕ
  pub written : Holds Proof body paper
  pub start : start_answer m ask ≡ Inside
  pub trees : Proves (settles ask m) body (whole m.variables) (tree_count m)
