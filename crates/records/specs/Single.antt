-- A paper that is one record.
use Rattle.std.specs.Prelude.{ℕ, ◌+◌, ◌%◌, cond, List, length, Ok, Err, Result, ◌==◌, nat_lt}
use Rattle.records.specs.declared.RecordFault.{RecordFault}
use Rattle.records.specs.declared.RecordFault.TheVariants.{TooLong, WrongKind, WrongLength}
use Rattle.records.specs.declared.PaperKind.{PaperKind}
use Rattle.records.specs.Cuts.{Split, cut_at}
use Rattle.records.specs.Kinds.{code_of, entry_of}

-- go on with what an Ok holds
abbrev pub and_then : {X Y E : Type 0} → Result X E → (X → Result Y E) → Result Y E
and_then (Ok x) f = f x
and_then (Err e) f = Err e

-- what follows a record at `at`: nothing, a torn record, or one too many
abbrev pub ended : {X : Type 0} → ℕ → List ℕ → X → Result X RecordFault
ended at rest x = cond (length rest == 0) (Ok x) (and_then (cut_at at rest) (λ _. Err (WrongKind at)))

-- the body of a first record of this kind, where it holds whole entries and ends the paper
abbrev pub suited : PaperKind → Split → Result (List ℕ) RecordFault
suited kind s =
    cond (s.kind == code_of kind)
    (cond (length s.body % entry_of kind == 0) (ended (6 + length s.body) s.rest s.body) (Err (WrongLength 0)))
    (Err (WrongKind 0))

-- the body of a paper that is one record of this kind, or its first fault
abbrev pub single_in : PaperKind → List ℕ → Result (List ℕ) RecordFault
single_in kind paper = cond (nat_lt 65536 (length paper)) (Err TooLong) (and_then (cut_at 0 paper) (suited kind))
