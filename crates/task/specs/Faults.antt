-- The number, the layer and the place of each fault of a task's paper.
use Rattle.std.specs.Prelude.{ℕ}
use Rattle.records.specs.Faults as record_fault
use Rattle.records.specs.declared.Layer.{Layer}
use Rattle.records.specs.declared.Layer.TheVariants.{Task as InTask}
use Rattle.task.specs.declared.faults.TaskFault.{TaskFault}
use Rattle.task.specs.declared.faults.TaskFault.TheVariants.{Record, Header, TooMany, BadNode, NamedTwice}

abbrev pub number_of : TaskFault → ℕ
number_of (Record f) = record_fault.number_of f
number_of (Header at) = 5
number_of (TooMany at) = 6
number_of (BadNode at) = 7
number_of (NamedTwice at) = 8

abbrev pub layer_of : TaskFault → Layer
layer_of (Record f) = record_fault.layer_of f
layer_of (Header at) = InTask
layer_of (TooMany at) = InTask
layer_of (BadNode at) = InTask
layer_of (NamedTwice at) = InTask

-- the byte at which the faulty record begins
abbrev pub place_of : TaskFault → ℕ
place_of (Record f) = record_fault.place_of f
place_of (Header at) = at
place_of (TooMany at) = at
place_of (BadNode at) = at
place_of (NamedTwice at) = at
