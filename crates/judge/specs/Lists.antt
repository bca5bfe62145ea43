-- The list of the reachable states and its plain proof.
use Rattle.std.specs.Prelude.{◌≡◌, ℕ, Bool, true, List, nat_lt}
use Rattle.records.specs.declared.PaperKind.TheVariants.{Proof}
use Rattle.records.specs.Papers.{Holds}
use Rattle.logic.specs.Partial.{PartialState, holds_state}
use Rattle.logic.specs.declared.truth.Truth.{Truth}
use Rattle.setpapers.specs.Count.{tally, rising}
use Rattle.setpapers.specs.Lists.{states, state_at, list_has, list_answer}
use Rattle.planning.specs.Model.{Model}
use Rattle.planning.specs.Leads.{Unsolvable}
use Rattle.judge.specs.Complete.{HasReachable}
use Rattle.judge.specs.Plain.{PlainIsPlain, plain_body}
use Rattle.judge.specs.Verdict.{tree_count}

-- the cube holds a state that the bytes list
abbrev pub holds_listed : List ℕ → PartialState → Bool
holds_listed bs c = nat_lt 0 (tally (holds_state c) (state_at bs) (states bs))

-- the body of the plain proof of a list for a task
abbrev pub plain_of : Model → List ℕ → List ℕ
plain_of m bs = plain_body (holds_listed bs) m.variables (tree_count m)

-- where no sequence of operators leads to the goal, and the bytes list just the reachable states in rising order,
-- a set that answers as this list does is accepted with the paper of its plain proof
abbrev pub ListComplete : Model → (PartialState → Truth) → List ℕ → Type 0 → Type 0
ListComplete m ask paper accepted =
    Unsolvable m → (bs : List ℕ) → rising m.variables (state_at bs) (states bs) ≡ true → HasReachable m (list_has bs)
    → ((c : PartialState) → ask c ≡ list_answer m.variables bs c) → Holds Proof (plain_of m bs) paper → accepted

-- the plain tree of a list splits the lowest free variable of each cube that holds a listed state and is not total, and no other is such
abbrev pub ListPlain : Type 0
ListPlain = (bs : List ℕ) → PlainIsPlain (list_has bs) (holds_listed bs)
