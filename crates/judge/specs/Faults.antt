-- The number, the layer and the place of each fault of a proof.
use Rattle.std.specs.Prelude.{ℕ}
use Rattle.records.specs.declared.Layer.{Layer}
use Rattle.records.specs.declared.Layer.TheVariants.{Proof}
use Rattle.records.specs.Faults.{number_of as record_number, layer_of as record_layer, place_of as record_place}
use Rattle.trees.specs.Faults.{number_of as tree_number, layer_of as tree_layer, place_of as tree_place}
use Rattle.judge.specs.declared.fault.ProofFault.{ProofFault}
use Rattle.judge.specs.declared.fault.ProofFault.TheVariants.{Record, StartNotInside, Tree}

-- the number of a fault among all verdicts
abbrev pub number_of : ProofFault → ℕ
number_of (Record fault) = record_number fault
number_of StartNotInside = 16
number_of (Tree fault) = tree_number fault

-- the layer of a fault
abbrev pub layer_of : ProofFault → Layer
layer_of (Record fault) = record_layer fault
layer_of StartNotInside = Proof
layer_of (Tree fault) = tree_layer fault

-- the place of a fault: where a record begins, or an offset in the body; 0 for the start
abbrev pub place_of : ProofFault → ℕ
place_of (Record fault) = record_place fault
place_of StartNotInside = 0
place_of (Tree fault) = tree_place fault
