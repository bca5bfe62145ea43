-- The number, the layer and the place of each fault of a set paper.
use Rattle.std.specs.Prelude.{ℕ}
use Rattle.records.specs.declared.Layer.{Layer}
use Rattle.records.specs.declared.Layer.TheVariants.{Set}
use Rattle.records.specs.Faults.{number_of as record_number, layer_of as record_layer, place_of as record_place}
use Rattle.setpapers.specs.declared.fault.SetFault.{SetFault}
use Rattle.setpapers.specs.declared.fault.SetFault.TheVariants.{Record, TooMany, BadEntry}

-- the number of a fault among all verdicts
abbrev pub number_of : SetFault → ℕ
number_of (Record fault) = record_number fault
number_of TooMany = 14
number_of (BadEntry entry) = 15

-- the layer of a fault
abbrev pub layer_of : SetFault → Layer
layer_of (Record fault) = record_layer fault
layer_of TooMany = Set
layer_of (BadEntry entry) = Set

-- the place of a fault: where a record begins, the largest number of entries, or the entry
abbrev pub place_of : SetFault → ℕ
place_of (Record fault) = record_place fault
place_of TooMany = 1024
place_of (BadEntry entry) = entry
