-- What the body of each record of a task says.
use Rattle.std.specs.Prelude.{ℕ, ◌+◌, ◌*◌, cond, List, length, Ok, Err, Option, Result, ◌==◌, slice_index}
use Rattle.records.specs.Cuts.{le2, le4}
use Rattle.records.specs.declared.RecordFault.{RecordFault}
use Rattle.records.specs.declared.RecordFault.TheVariants.{WrongLength}
use Rattle.formulas.specs.declared.node.Node.{Node}
use Rattle.formulas.specs.Written.{decoded}
use Rattle.task.specs.declared.entries.Header.{Header}
use Rattle.task.specs.declared.entries.Operator.{Operator}

-- a number at places of the body
abbrev pub le2_at : List ℕ → ℕ → ℕ → ℕ
le2_at bs i j = le2 (slice_index bs i) (slice_index bs j)

abbrev pub le4_from : List ℕ → ℕ → ℕ → ℕ → ℕ → ℕ
le4_from bs i j k l = le4 (slice_index bs i) (slice_index bs j) (slice_index bs k) (slice_index bs l)

abbrev pub le8_from1 : List ℕ → ℕ
le8_from1 bs = slice_index bs 1 + slice_index bs 2 * 256 + slice_index bs 3 * 65536 + slice_index bs 4 * 16777216 + slice_index bs 5 * 4294967296 + slice_index bs 6 * 1099511627776 + slice_index bs 7 * 281474976710656 + slice_index bs 8 * 72057594037927936

abbrev pub header : ℕ → ℕ → Header
header n s = record { n = n; start = s }

abbrev pub operator : ℕ → ℕ → ℕ → ℕ → Operator
operator p e m c = record { precondition = p; effect = e; minutes = m; crew = c }

abbrev pub header_in : ℕ → List ℕ → Result Header RecordFault
header_in at bs = cond (length bs == 9) (Ok (header (slice_index bs 0) (le8_from1 bs))) (Err (WrongLength at))

abbrev pub written_in : ℕ → List ℕ → Result (Option Node) RecordFault
written_in at bs = cond (length bs == 5) (Ok (decoded (slice_index bs 0) (le2_at bs 1 2) (le2_at bs 3 4))) (Err (WrongLength at))

abbrev pub operator_in : ℕ → List ℕ → Result Operator RecordFault
operator_in at bs =
    cond (length bs == 4)
    (Ok (operator (le2_at bs 0 1) (le2_at bs 2 3) 1 1))
    (cond (length bs == 12)
    (Ok (operator (le2_at bs 0 1) (le2_at bs 2 3) (le4_from bs 4 5 6 7) (le4_from bs 8 9 10 11)))
    (Err (WrongLength at)))

abbrev pub number_in : ℕ → List ℕ → Result ℕ RecordFault
number_in at bs = cond (length bs == 2) (Ok (le2_at bs 0 1)) (Err (WrongLength at))
