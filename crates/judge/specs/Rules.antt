-- When a leaf is settled, where a set answers `ask`.
use Rattle.std.specs.Prelude.{ℕ, zero, suc, Bool, false, ◌||◌, Some, None, Option}
use Rattle.std.specs.List.{slice_get}
use Rattle.logic.specs.Kleene.{refuted, sure}
use Rattle.logic.specs.Partial.{PartialState, truth}
use Rattle.formulas.specs.Formula.{kleene}
use Rattle.formulas.specs.Results.{successor}
use Rattle.logic.specs.declared.truth.Truth.{Truth}
use Rattle.planning.specs.Model.{Action, Model}

-- the precondition is false, or the set is inside for the successor cube; no operator stays where there is none
abbrev pub stays : (PartialState → Truth) → Option Action → PartialState → Bool
stays ask None c = false
stays ask (Some a) c = refuted (kleene (truth c) a.precondition) || sure (ask (successor a.effect c))

-- rule 0: the goal is false; rule i + 1: operator i stays
abbrev pub kept : (PartialState → Truth) → Model → ℕ → PartialState → Bool
kept ask m zero c = refuted (kleene (truth c) m.goal)
kept ask m (suc i) c = stays ask (slice_get m.operators i) c

-- the set is outside, or the rule is kept
abbrev pub settles : (PartialState → Truth) → Model → ℕ → PartialState → Bool
settles ask m i c = refuted (ask c) || kept ask m i c
