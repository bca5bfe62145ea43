-- The number, the layer and the place of each fault of a record.
use Rattle.std.specs.Prelude.{ℕ, List, codes}
use Rattle.records.specs.declared.Layer.{Layer}
use Rattle.records.specs.declared.Layer.TheVariants.{Record, Task, Plan, Set, Proof}
use Rattle.records.specs.declared.RecordFault.{RecordFault}
use Rattle.records.specs.declared.RecordFault.TheVariants.{TooLong, CutShort, WrongKind, WrongLength}

-- the number of a fault among all verdicts
abbrev pub number_of : RecordFault → ℕ
number_of TooLong = 1
number_of (CutShort at) = 2
number_of (WrongKind at) = 3
number_of (WrongLength at) = 4

-- the layer of a fault
abbrev pub layer_of : RecordFault → Layer
layer_of fault = Record

-- the place of a fault: where its record begins, and 0 for the whole paper
abbrev pub place_of : RecordFault → ℕ
place_of TooLong = 0
place_of (CutShort at) = at
place_of (WrongKind at) = at
place_of (WrongLength at) = at

-- the word for a layer, in bytes
abbrev pub word_of : Layer → List ℕ
word_of Record = codes "record"
word_of Task = codes "task"
word_of Plan = codes "plan"
word_of Set = codes "set"
word_of Proof = codes "proof"
