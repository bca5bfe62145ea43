-- The kinds of a task's records.
use Rattle.std.specs.Prelude.{ℕ, cond, Ok, Err, Result, ◌==◌}
use Rattle.records.specs.declared.RecordFault.{RecordFault}
use Rattle.records.specs.declared.RecordFault.TheVariants.{WrongKind}
use Rattle.task.specs.declared.kind.Kind.{Kind}
use Rattle.task.specs.declared.kind.Kind.TheVariants.{Header, Node, Operator, Goal}

-- the kind of a record at `at`, by its number, or the fault that a task has none of it
abbrev pub kind_at : ℕ → ℕ → Result Kind RecordFault
kind_at at n =
    cond (n == 1) (Ok Header)
    (cond (n == 2) (Ok Node)
    (cond (n == 3) (Ok Operator)
    (cond (n == 4) (Ok Goal)
    (Err (WrongKind at)))))
