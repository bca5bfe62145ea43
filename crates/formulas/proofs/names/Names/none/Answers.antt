use Rattle.std.proofs.Common.{false}
use lib.ListN.{length-replicate, get_or-replicate}
use Rattle.formulas.proofs.names.Names.none.Goals as goal

pub returns : goal.returns
returns c = record { size = length-replicate 1024 false; marked = λ j h. get_or-replicate 1024 j false false h }
