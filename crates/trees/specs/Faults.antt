-- The number, the layer and the place of each fault of the trees.
use Rattle.std.specs.Prelude.{ℕ}
use Rattle.records.specs.declared.Layer.{Layer}
use Rattle.records.specs.declared.Layer.TheVariants.{Proof}
use Rattle.trees.specs.declared.fault.TreeFault.{TreeFault}
use Rattle.trees.specs.declared.fault.TreeFault.TheVariants.{BadByte, Unsettled, Trailing}

-- the number of a fault among all verdicts
abbrev pub number_of : TreeFault → ℕ
number_of (BadByte at) = 17
number_of (Unsettled at) = 18
number_of (Trailing at) = 19

-- the layer of a fault
abbrev pub layer_of : TreeFault → Layer
layer_of fault = Proof

-- the place of a fault: an offset in the body
abbrev pub place_of : TreeFault → ℕ
place_of (BadByte at) = at
place_of (Unsettled at) = at
place_of (Trailing at) = at
