-- A list of states: what its bytes hold, what it answers, and its rules.
use Rattle.std.specs.Prelude.{◌≡◌, ℕ, suc, ◌+◌, ◌*◌, ◌/◌, ◌^◌, ◌<◌, Bool, cond, List, length, Result, ◌==◌, slice_index}
use Rattle.records.specs.declared.PaperKind.TheVariants.{List as ListPaper}
use Rattle.logic.specs.Partial.{PartialState, free_count, holds_state}
use Rattle.logic.specs.declared.truth.Truth.{Truth}
use Rattle.logic.specs.declared.truth.Truth.TheVariants.{True as Inside, False as Outside, Open}
use Rattle.sets.specs.Sets.{at_width}
use Rattle.setpapers.specs.declared.fault.SetFault.{SetFault}
use Rattle.setpapers.specs.Rows.{verdict}
use Rattle.setpapers.specs.Papers.{body_in}
use Rattle.setpapers.specs.Count.{tally, listed, rises}

-- how many states the bytes hold, 8 to a state
abbrev pub states : List ℕ → ℕ
states bs = length bs / 8

-- the state that 8 bytes write, the lowest first
abbrev pub state_of : List ℕ → ℕ
state_of xs =
    slice_index xs 0 + slice_index xs 1 * 256 + slice_index xs 2 * 65536 + slice_index xs 3 * 16777216 + slice_index xs 4 * 4294967296
    + slice_index xs 5 * 1099511627776 + slice_index xs 6 * 281474976710656 + slice_index xs 7 * 72057594037927936

-- the state i of the bytes, its lowest byte first
unfoldable pub state_at : List ℕ → ℕ → ℕ
state_at bs i =
    slice_index bs (i * 8) + slice_index bs (i * 8 + 1) * 256 + slice_index bs (i * 8 + 2) * 65536 + slice_index bs (i * 8 + 3) * 16777216 + slice_index bs (i * 8 + 4) * 4294967296
    + slice_index bs (i * 8 + 5) * 1099511627776 + slice_index bs (i * 8 + 6) * 281474976710656 + slice_index bs (i * 8 + 7) * 72057594037927936

-- the listed states
abbrev pub list_has : List ℕ → ℕ → Bool
list_has bs = listed (state_at bs) (states bs)

-- the answer where n of the m states of a cube are listed
abbrev pub answer_of : ℕ → ℕ → Truth
answer_of n m = cond (n == 0) Outside (cond (n == m) Inside Open)

-- the answer to a cube of the list's width
abbrev pub list_says : (ℕ → ℕ) → ℕ → PartialState → Truth
list_says e n c = answer_of (tally (holds_state c) e n) (2 ^ free_count c)

-- the answer to any cube
abbrev pub list_answer : ℕ → List ℕ → PartialState → Truth
list_answer w bs c = at_width w c (list_says (state_at bs) (states bs) c)

-- whether the bytes list states of width w, and if not why
abbrev pub list_verdict : ℕ → List ℕ → Result (Unit {0}) SetFault
list_verdict w bs = verdict 0 (rises w (state_at bs)) (states bs)

-- the body of a list paper over w variables, or its first fault
abbrev pub list_in : ℕ → List ℕ → Result (List ℕ) SetFault
list_in w = body_in ListPaper (list_verdict w)

-- the rule of the entry i: a state of width w, greater than the one before it
pub record ListedState (w : ℕ) (bs : List ℕ) (i : ℕ) : Type 0 where
  pub below : state_at bs i < 2 ^ w
  pub above : (j : ℕ) → i ≡ suc j → state_at bs j < state_at bs i
