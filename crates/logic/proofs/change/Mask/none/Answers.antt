use Rattle.logic.specs.BitLaws.{bit_zero}
use Rattle.logic.proofs.change.Mask.none.Goals as goal

pub returns : goal.returns
returns c = record { must = λ v h. bit_zero v; may = λ v h. bit_zero v }
