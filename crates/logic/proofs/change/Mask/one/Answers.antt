use Rattle.std.proofs.Common.{◌≡◌, ℕ, ◌<◌, eqb, sym, ap, ◌∙◌, arith}
use Rattle.std.proofs.lemmas.Nat.{one_shl}
use Rattle.std.proofs.lemmas.Bool.{ne_eqb}
use Rattle.logic.specs.Bit.{bit}
use Rattle.logic.specs.BitLaws.{bit_power, bit_zero}
use Rattle.logic.proofs.Rails.{sure_given, maybe_given}
use Rattle.logic.proofs.change.Mask.one.Goals as goal

pub returns-then-v-lt64 : goal.returns-then-v-lt64
returns-then-v-lt64 c =
    let is : (u : ℕ) → bit u _ ≡ eqb u c.args.v = λ u. ap (bit u) (one_shl c.args.v 64 c.if-v-lt64.true) ∙ bit_power u c.args.v in
    record { must = λ u h. is u ∙ sym (sure_given (eqb u c.args.v)); may = λ u h. is u ∙ sym (maybe_given (eqb u c.args.v)) }

pub returns-else-v-lt64 : goal.returns-else-v-lt64
returns-else-v-lt64 c =
    let far = c.if-v-lt64.false in
    let is : (u : ℕ) → u < 64 → bit u 0 ≡ eqb u c.args.v = λ u h. bit_zero u ∙ sym (ne_eqb u c.args.v (λ e. absurd (omega arith))) in
    record { must = λ u h. is u h ∙ sym (sure_given (eqb u c.args.v)); may = λ u h. is u h ∙ sym (maybe_given (eqb u c.args.v)) }
