use Rattle.std.proofs.Common.{sym, ◌∙◌}
use Rattle.logic.specs.BitLaws.{bit_zero}
use Rattle.logic.proofs.Rails.{sure_perhaps, maybe_perhaps}
use Rattle.logic.proofs.change.Mask.perhaps.Goals as goal

pub returns : goal.returns
returns c = λ s h.
    record {
      must = λ u l. bit_zero u ∙ sym (sure_perhaps (s u));
      may = λ u l. h.may u l ∙ sym (maybe_perhaps (s u));
    }
