-- Impossibility can always be shown: by the reachable states and their plain proof.
use Rattle.std.specs.Prelude.{◌≡◌, ℕ, Bool, true, ◌↔◌, List, ◌≢◌}
use Rattle.records.specs.declared.PaperKind.TheVariants.{Proof}
use Rattle.records.specs.Papers.{Holds}
use Rattle.logic.specs.Partial.{PartialState, Fine, In}
use Rattle.logic.specs.declared.truth.Truth.{Truth}
use Rattle.logic.specs.declared.truth.Truth.TheVariants.{False as Outside}
use Rattle.planning.specs.Model.{Model}
use Rattle.planning.specs.Leads.{Reachable, Unsolvable}
use Rattle.judge.specs.Plain.{Finds, plain_body}
use Rattle.judge.specs.Verdict.{tree_count}

-- the set has just the reachable states
abbrev pub HasReachable : Model → (ℕ → Bool) → Type 0
HasReachable m has = (s : ℕ) → (has s ≡ true) ↔ Reachable m s

-- a cube of the width w that holds no state of the set is answered outside
abbrev pub TellsEmpty : ℕ → (ℕ → Bool) → (PartialState → Truth) → Type 0
TellsEmpty w has ask = (c : PartialState) → Fine c → c.width ≡ w → ((s : ℕ) → In c s → has s ≢ true) → ask c ≡ Outside

-- where no sequence of operators leads to the goal, a set of the task's width with just the reachable states that answers outside
-- wherever it has no state is accepted with its plain proof
abbrev pub Complete : Model → ℕ → (ℕ → Bool) → (PartialState → Truth) → List ℕ → Type 0 → Type 0
Complete m wide has ask paper accepted =
    Unsolvable m → wide ≡ m.variables → HasReachable m has → TellsEmpty m.variables has ask → (held : PartialState → Bool) → Finds has held
    → Holds Proof (plain_body held m.variables (tree_count m)) paper → accepted
