-- The law that a card keeps after every history.
use Rattle.std.specs.Prelude.{◌≡◌, ℕ, ◌≤◌, true, List, Some, None, Ok, Decides, Option, ◌≢◌}
use Rattle.records.specs.declared.PaperKind.TheVariants.{List as ListPaper, Proof as ProofPaper}
use Rattle.records.specs.Papers.{Holds}
use Rattle.setpapers.specs.Count.{rising}
use Rattle.setpapers.specs.Lists.{states, state_at, list_has, list_answer, list_in}
use Rattle.costs.specs.Kind.{Kind}
use Rattle.planning.specs.Model.{Model}
use Rattle.planning.specs.Leads.{Unsolvable}
use Rattle.task.specs.Held.{model}
use Rattle.plans.specs.Verdicts.{begin, run}
use Rattle.judge.specs.Complete.{HasReachable}
use Rattle.judge.specs.Lists.{plain_of}
use Rattle.judge.specs.Verdict.{proof_verdict}
use Rattle.card.specs.declared.card.Card.{Card}
use Rattle.card.specs.declared.card.Walk.{Walk}
use Rattle.card.specs.History.{History, Achieved, Disproved, walk, newest, AllRight}

-- the body lists just the reachable states, in ascending order, at most 1,024
pub record ListsReachable (m : Model) (body : List ℕ) : Type 0 where
  pub ascending : rising m.variables (state_at body) (states body) ≡ true
  pub few : states body ≤ 1024
  pub reachable : HasReachable m (list_has body)

-- where no sequence leads to the goal, the list of all reachable states is read from its paper, and with the paper of its plain proof it is accepted
abbrev pub Complete : Model → Type 0
Complete m =
    Unsolvable m → (body list proof : List ℕ) → ListsReachable m body → Holds ListPaper body list → Holds ProofPaper (plain_of m body) proof
    → (list_in m.variables list ≡ Ok body) × (proof_verdict m (list_answer m.variables body) proof ≡ Ok tt)

-- a cost stands exactly where one was achieved; it was achieved, and none that was achieved is less
abbrev pub Best : {C : Type 0} → Kind C → (C → Type 0) → Option C → Type 0
Best {C} K P None = (d : C) → P d → ⊥
Best {C} K P (Some c) = P c × ((d : C) → P d → K.le c d ≡ true)

-- what a card says of the task m after the history h:
-- the mark stands exactly when a proof in h was accepted, and then no sequence of operators of any length leads to the goal;
-- the cost is the least of those accepted in h; impossibility can be shown where it holds; each answer in h is the one that the definitions fix;
-- the latest verdict is the newest of them; and cost and mark never stand together
pub record Says {C : Type 0} (K : Kind C) (m : Model) (h : History C) (card : Card C) : Type 0 where
  pub same : model card.task ≡ m
  pub impossible : Decides card.impossible (Disproved h)
  pub sound : card.impossible ≡ true → Unsolvable m
  pub cheapest : Best K (Achieved h) card.cost
  pub complete : Complete m
  pub answers : AllRight K m h
  pub latest : card.verdict ≡ newest h
  pub either : (c : C) → card.cost ≡ Some c → card.impossible ≢ true

-- the law of a card at rest
pub record Keeps {C : Type 0} (K : Kind C) (m : Model) (h : History C) (card : Card C) : Type 0 where
  pub says : Says K m h card
  pub idle : walk h ≡ None

-- the law of a card on a walk: it says what it said before the walk, whose accepted steps lead to where the walk stands
pub record Walks {C : Type 0} (K : Kind C) (m : Model) (h : History C) (w : Walk C) : Type 0 where
  pub says : Says K m h w.card
  pub steps : List ℕ
  pub under_way : walk h ≡ Some steps
  pub stands : run K m (begin K m) steps ≡ Ok w.reached
