-- The order of the records of a task.
use Rattle.std.specs.Prelude.{ℕ, Bool, cond, ◌||◌, List, length, Ok, Err, Result, ◌==◌, nat_lt}
use Rattle.records.specs.Cuts.{Split}
use Rattle.records.specs.Single.{and_then}
use Rattle.records.specs.declared.RecordFault.{RecordFault}
use Rattle.records.specs.declared.RecordFault.TheVariants.{TooLong, CutShort, WrongKind, WrongLength}
use Rattle.task.specs.declared.stage.Stage.{Stage}
use Rattle.task.specs.declared.stage.Stage.TheVariants.{Header, Nodes, Operators, Done}
use Rattle.records.specs.Walks.{walk}

abbrev sized : ℕ → Bool → Stage → Result Stage RecordFault
sized at fits next = cond fits (Ok next) (Err (WrongLength at))

-- an operator or the goal
abbrev late : ℕ → ℕ → ℕ → Result Stage RecordFault
late kind size at =
    cond (kind == 3) (sized at (size == 12 || size == 4) Operators)
    (cond (kind == 4) (sized at (size == 2) Done) (Err (WrongKind at)))

abbrev pub stage_after : Stage → ℕ → ℕ → ℕ → Result Stage RecordFault
stage_after Header kind size at = cond (kind == 1) (sized at (size == 9) Nodes) (Err (WrongKind at))
stage_after Nodes kind size at = cond (kind == 2) (sized at (size == 5) Nodes) (late kind size at)
stage_after Operators kind size at = late kind size at
stage_after Done kind size at = Err (WrongKind at)

abbrev pub stage_step : ℕ → Split → Stage → Result Stage RecordFault
stage_step at r s = stage_after s r.kind (length r.body) at

abbrev pub ended : ℕ → Stage → Result (Unit {0}) RecordFault
ended at Header = Err (CutShort at)
ended at Nodes = Err (CutShort at)
ended at Operators = Err (CutShort at)
ended at Done = Ok tt

abbrev pub records_in : List ℕ → Result (Unit {0}) RecordFault
records_in paper =
    cond (nat_lt 65536 (length paper)) (Err TooLong)
    (and_then (walk (λ e. e) stage_step (length paper) 0 paper Header) (ended (length paper)))
