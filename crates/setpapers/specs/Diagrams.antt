-- A decision diagram: what its bytes hold, which decision it stands for, and its rules.
use Rattle.std.specs.Prelude.{ℕ, zero, suc, ◌+◌, ◌*◌, ◌/◌, ◌<◌, Bool, true, ◌&&◌, List, length, Result, nat_lt, slice_index}
use Rattle.records.specs.declared.PaperKind.TheVariants.{Diagram as DiagramPaper}
use Rattle.logic.specs.Partial.{PartialState}
use Rattle.logic.specs.declared.truth.Truth.{Truth}
use Rattle.sets.specs.Told.{states_where, told}
use Rattle.setpapers.specs.declared.entry.Child.{Child}
use Rattle.setpapers.specs.declared.entry.Child.TheVariants.{Outside, Inside, Entry as EntryAt}
use Rattle.setpapers.specs.declared.entry.Entry.{Entry}
use Rattle.setpapers.specs.Entries.{child_of}
use Rattle.setpapers.specs.declared.fault.SetFault.{SetFault}
use Rattle.setpapers.specs.Rows.{verdict}
use Rattle.setpapers.specs.Papers.{body_in}
use Rattle.setpapers.specs.Decisions.{Decision, out, inn, test, picks, answers}

-- how many entries the bytes hold, 5 to an entry
abbrev pub entries : List ℕ → ℕ
entries bs = length bs / 5

-- the entry i of the bytes
unfoldable pub entry_at : List ℕ → ℕ → Entry
entry_at bs i = record {
  variable = slice_index bs (i * 5);
  low = child_of (slice_index bs (i * 5 + 1) + slice_index bs (i * 5 + 2) * 256);
  high = child_of (slice_index bs (i * 5 + 3) + slice_index bs (i * 5 + 4) * 256);
}

-- what a child stands for, where f says what the entries stand for
abbrev pub child : {A : Type 0} → A → A → (ℕ → A) → Child → A
child a b f Outside = a
child a b f Inside = b
child a b f (EntryAt j) = f j

-- the decision of an entry, where f says what the entries below it stand for
abbrev pub entry_decision : (ℕ → Decision) → Entry → Decision
entry_decision f x = test x.variable (child out inn f x.low) (child out inn f x.high)

-- the decision of the entry i, read k entries deep
abbrev pub decision_to : ℕ → (ℕ → Entry) → ℕ → Decision
decision_to zero e i = out
decision_to (suc k) e i = entry_decision (decision_to k e) (e i)

-- the decision of the entry i
abbrev pub decision_at : (ℕ → Entry) → ℕ → Decision
decision_at e i = decision_to (suc i) e i

-- the last of n entries is the root; with none, nothing is in
abbrev pub root : (ℕ → Entry) → ℕ → Decision
root e zero = out
root e (suc n) = decision_at e n

-- the decision that the bytes stand for
abbrev pub decision_in : List ℕ → Decision
decision_in bs = root (entry_at bs) (entries bs)

-- the states of width w that the diagram picks
abbrev pub diagram_has : ℕ → List ℕ → ℕ → Bool
diagram_has w bs = states_where w (λ s. picks s (decision_in bs))

-- the answer to any cube
abbrev pub diagram_answer : ℕ → List ℕ → PartialState → Truth
diagram_answer w bs = told w (λ ρ. answers ρ (decision_in bs))

-- a child of the entry i, which tests v, is fixed, or an earlier entry that tests a greater variable
abbrev pub lawful_child : (ℕ → Entry) → ℕ → ℕ → Child → Bool
lawful_child e i v Outside = true
lawful_child e i v Inside = true
lawful_child e i v (EntryAt j) = nat_lt j i && nat_lt v (e j).variable

-- the entry i of a diagram over w variables
abbrev pub lawful : ℕ → (ℕ → Entry) → ℕ → Bool
lawful w e i = nat_lt (e i).variable w && (lawful_child e i (e i).variable (e i).low && lawful_child e i (e i).variable (e i).high)

-- whether the bytes are a diagram over w variables, and if not why
abbrev pub diagram_verdict : ℕ → List ℕ → Result (Unit {0}) SetFault
diagram_verdict w bs = verdict 1 (lawful w (entry_at bs)) (entries bs)

-- the body of a diagram paper over w variables, or its first fault
abbrev pub diagram_in : ℕ → List ℕ → Result (List ℕ) SetFault
diagram_in w = body_in DiagramPaper (diagram_verdict w)

-- a child of the entry i is outside or inside, or an entry of a lower number that tests a greater variable
abbrev pub IsChild : (ℕ → Entry) → ℕ → Child → Type 0
IsChild e i Outside = Unit {0}
IsChild e i Inside = Unit {0}
IsChild e i (EntryAt j) = (j < i) × ((e i).variable < (e j).variable)

-- the rule of the entry i, over w variables
pub record DiagramEntry (w : ℕ) (bs : List ℕ) (i : ℕ) : Type 0 where
  pub variable : (entry_at bs i).variable < w
  pub low : IsChild (entry_at bs) i (entry_at bs i).low
  pub high : IsChild (entry_at bs) i (entry_at bs i).high
