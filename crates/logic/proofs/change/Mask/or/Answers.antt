use Rattle.std.proofs.Common.{◌||◌, sym, ◌∙◌, ap₂}
use Rattle.logic.specs.BitLaws.{bit-bit_or}
use Rattle.logic.proofs.Rails.{sure_or, maybe_or}
use Rattle.logic.proofs.change.Mask.or.Goals as goal

pub returns : goal.returns
returns c = λ s t h k.
    record {
      must = λ u l. bit-bit_or u _ _ ∙ ap₂ (λ x y. x || y) (h.must u l) (k.must u l) ∙ sym (sure_or (s u) (t u));
      may = λ u l. bit-bit_or u _ _ ∙ ap₂ (λ x y. x || y) (h.may u l) (k.may u l) ∙ sym (maybe_or (s u) (t u));
    }
