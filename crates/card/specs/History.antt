-- The history of a card: its lodgings and walk calls since it was opened, with their answers.
use Rattle.std.specs.Prelude.{◌≡◌, ℕ, ◌⊎◌, List, [], ◌∷◌, ◌++◌, Some, None, Ok, Err, Option}
use Rattle.logic.specs.Partial.{PartialState}
use Rattle.logic.specs.declared.truth.Truth.{Truth}
use Rattle.costs.specs.Kind.{Kind}
use Rattle.planning.specs.Model.{Model}
use Rattle.plans.specs.declared.verdict.Reached.{Reached as ReachedState}
use Rattle.plans.specs.Verdicts.{Answer, begin, next, run, judged, plan_verdict}
use Rattle.judge.specs.Verdict.{proof_verdict}
use Rattle.card.specs.declared.card.Verdict.{Verdict}
use Rattle.card.specs.declared.card.Verdict.TheVariants.{Plan, Proof}
use Rattle.card.specs.Cards.{Ruling}

-- one call on a card, with its paper and its answer; of a set there is what it answers to each cube
pub data Event (C : Type 0) : Type 0 where
  planned : List ℕ → Answer C → Event C
  proved : (PartialState → Truth) → List ℕ → Ruling → Event C
  begun : Event C
  stepped : ℕ → Answer C → Event C
  finished : Answer C → Event C
  given_up : Event C

-- the calls since the card was opened, the latest first
abbrev pub History : Type 0 → Type 0
History C = List (Event C)

-- x is one of the list
abbrev pub In : {X : Type 0} → X → List X → Type 0
In x [] = ⊥
In x (y ∷ ys) = (x ≡ y) ⊎ In x ys

-- the event is an accepted plan, or a walk whose finish was accepted, of cost c
abbrev pub Costs : {C : Type 0} → Event C → C → Type 0
Costs (planned p (Ok r)) c = r.cost ≡ c
Costs (planned p (Err f)) c = ⊥
Costs (proved s p a) c = ⊥
Costs begun c = ⊥
Costs (stepped o a) c = ⊥
Costs (finished (Ok r)) c = r.cost ≡ c
Costs (finished (Err f)) c = ⊥
Costs given_up c = ⊥

-- the event is an accepted proof
abbrev pub Shows : {C : Type 0} → Event C → Type 0
Shows (planned p a) = ⊥
Shows (proved s p (Ok u)) = Unit {0}
Shows (proved s p (Err f)) = ⊥
Shows begun = ⊥
Shows (stepped o a) = ⊥
Shows (finished a) = ⊥
Shows given_up = ⊥

-- some plan or walk of the history was accepted at the cost c
abbrev pub Achieved : {C : Type 0} → History C → C → Type 0
Achieved {C} h c = (e : Event C) × In e h × Costs e c

-- some proof of the history was accepted
abbrev pub Disproved : {C : Type 0} → History C → Type 0
Disproved {C} h = (e : Event C) × In e h × Shows e

-- the walk under way, by one accepted step more
abbrev pub longer : Option (List ℕ) → ℕ → Option (List ℕ)
longer None o = None
longer (Some os) o = Some (os ++ (o ∷ []))

-- the accepted steps of the walk that is under way, if one is
abbrev pub walk : {C : Type 0} → History C → Option (List ℕ)
walk [] = None
walk (planned p a ∷ h) = None
walk (proved s p a ∷ h) = None
walk (begun ∷ h) = Some []
walk (stepped o (Ok r) ∷ h) = longer (walk h) o
walk (stepped o (Err f) ∷ h) = walk h
walk (finished a ∷ h) = None
walk (given_up ∷ h) = None

-- the newest verdict on a lodging or a finish
abbrev pub newest : {C : Type 0} → History C → Option (Verdict C)
newest [] = None
newest (planned p a ∷ h) = Some (Plan a)
newest (proved s p a ∷ h) = Some (Proof a)
newest (begun ∷ h) = newest h
newest (stepped o a ∷ h) = newest h
newest (finished a ∷ h) = Some (Plan a)
newest (given_up ∷ h) = newest h

-- after h the event may come, and its answer is the one that the definitions fix
-- from the task and its own paper, and set, or from its own walk alone
abbrev pub Right : {C : Type 0} → Kind C → Model → History C → Event C → Type 0
Right K m h (planned p a) = (walk h ≡ None) × (a ≡ plan_verdict K m p)
Right K m h (proved s p a) = (walk h ≡ None) × (a ≡ proof_verdict m s p)
Right K m h begun = walk h ≡ None
Right {C} K m h (stepped o a) = (os : List ℕ) × (r : ReachedState C) × (walk h ≡ Some os) × (run K m (begin K m) os ≡ Ok r) × (a ≡ next K m r o)
Right K m h (finished a) = (os : List ℕ) × (walk h ≡ Some os) × (a ≡ judged K m os)
Right K m h given_up = (os : List ℕ) × (walk h ≡ Some os)

-- each event of the history was in turn, with the answer that the definitions fix
abbrev pub AllRight : {C : Type 0} → Kind C → Model → History C → Type 0
AllRight K m [] = Unit {0}
AllRight K m (e ∷ h) = Right K m h e × AllRight K m h
