-- What any row of calls makes of a card.
use Rattle.std.specs.Prelude.{◌≡◌, ℕ, Bool, true, false, not, ◌⊎◌, List, [], ◌∷◌, is_some, Option}
use Rattle.logic.specs.Partial.{PartialState}
use Rattle.logic.specs.declared.truth.Truth.{Truth}
use Rattle.costs.specs.Kind.{Kind}
use Rattle.planning.specs.Model.{Model}
use Rattle.card.specs.declared.card.Verdict.{Verdict}
use Rattle.card.specs.declared.card.Verdict.TheVariants.{Plan as OfPlan, Proof as OfProof}
use Rattle.card.specs.declared.desk.Call.{Call}
use Rattle.card.specs.declared.desk.Call.TheVariants.{Plan, Proof, Begin, Step, Finish, GiveUp}
use Rattle.card.specs.declared.desk.Desk.{Desk}
use Rattle.card.specs.declared.desk.Desk.TheVariants.{Idle, Busy}
use Rattle.card.specs.declared.desk.Reply.{Reply}
use Rattle.card.specs.declared.desk.Reply.TheVariants.{Judged, Done, OutOfTurn}
use Rattle.card.specs.History.{Event, planned, proved, begun, stepped, finished, given_up, History, walk}
use Rattle.card.specs.Law.{Keeps, Walks}

-- the law of a card, at rest or on a walk
abbrev pub Stands : {C : Type 0} → Kind C → Model → History C → Desk C → Type 0
Stands K m h (Idle card) = Keeps K m h card
Stands K m h (Busy w) = Walks K m h w

-- whether the call may be made: w is the walk that is under way, if one is
abbrev pub in_turn : {S P X : Type 0} → Call S P → Option X → Bool
in_turn (Plan p) w = not (is_some w)
in_turn (Proof s p) w = not (is_some w)
in_turn Begin w = not (is_some w)
in_turn (Step o) w = is_some w
in_turn Finish w = is_some w
in_turn GiveUp w = is_some w

-- the event is that call with that verdict; ask says what each set answers, and bytes what each paper holds
abbrev pub JudgedSo : {C S P : Type 0} → (S → PartialState → Truth) → (P → List ℕ) → Call S P → Verdict C → Event C → Type 0
JudgedSo ask bytes (Plan p) (OfPlan a) e = e ≡ planned (bytes p) a
JudgedSo ask bytes (Plan p) (OfProof a) e = ⊥
JudgedSo ask bytes (Proof s p) (OfPlan a) e = ⊥
JudgedSo ask bytes (Proof s p) (OfProof a) e = e ≡ proved (ask s) (bytes p) a
JudgedSo ask bytes Begin v e = ⊥
JudgedSo ask bytes (Step o) (OfPlan a) e = e ≡ stepped o a
JudgedSo ask bytes (Step o) (OfProof a) e = ⊥
JudgedSo ask bytes Finish (OfPlan a) e = e ≡ finished a
JudgedSo ask bytes Finish (OfProof a) e = ⊥
JudgedSo ask bytes GiveUp v e = ⊥

-- the event is that call, which has no verdict
abbrev pub Unjudged : {C S P : Type 0} → Call S P → Event C → Type 0
Unjudged (Plan p) e = ⊥
Unjudged (Proof s p) e = ⊥
Unjudged Begin e = e ≡ begun
Unjudged (Step o) e = ⊥
Unjudged Finish e = ⊥
Unjudged GiveUp e = e ≡ given_up

-- the event is that call with that reply
abbrev pub Made : {C S P : Type 0} → (S → PartialState → Truth) → (P → List ℕ) → Call S P → Reply C → Event C → Type 0
Made ask bytes c (Judged v) e = JudgedSo ask bytes c v e
Made ask bytes c Done e = Unjudged c e
Made ask bytes c OutOfTurn e = ⊥

-- a call in turn adds its event to the history
pub record Heard {C S P : Type 0} (ask : S → PartialState → Truth) (bytes : P → List ℕ) (c : Call S P) (reply : Reply C) (h g : History C) : Type 0 where
  pub turn : in_turn c (walk h) ≡ true
  pub event : Event C
  pub made : Made ask bytes c reply event
  pub grown : g ≡ event ∷ h

-- a call out of turn adds none, and is told so
pub record Ignored {C S P : Type 0} (c : Call S P) (reply : Reply C) (h g : History C) : Type 0 where
  pub turn : in_turn c (walk h) ≡ false
  pub told : reply ≡ OutOfTurn
  pub same : g ≡ h

-- the call with its reply leads from the history h to g
abbrev pub Next : {C S P : Type 0} → (S → PartialState → Truth) → (P → List ℕ) → Call S P → Reply C → History C → History C → Type 0
Next ask bytes c reply h g = Heard ask bytes c reply h g ⊎ Ignored c reply h g

-- the calls, with their replies, lead from the history h to g
abbrev pub Follows : {C S P : Type 0} → (S → PartialState → Truth) → (P → List ℕ) → List (Call S P) → List (Reply C) → History C → History C → Type 0
Follows ask bytes [] [] h g = g ≡ h
Follows ask bytes [] (r ∷ rs) h g = ⊥
Follows ask bytes (c ∷ cs) [] h g = ⊥
Follows {C} ask bytes (c ∷ cs) (r ∷ rs) h g = (f : History C) × Next ask bytes c r h f × Follows ask bytes cs rs f g

-- the calls with their replies lead from the history h to one after which the card keeps the law
pub record Works {C S P : Type 0} (K : Kind C) (ask : S → PartialState → Truth) (bytes : P → List ℕ) (m : Model) (calls : List (Call S P)) (replies : List (Reply C)) (h : History C) (desk : Desk C) : Type 0 where
  pub after : History C
  pub follows : Follows ask bytes calls replies h after
  pub stands : Stands K m after desk
