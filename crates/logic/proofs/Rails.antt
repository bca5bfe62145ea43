-- Truths by their two rails, `sure` and `maybe`.
use Rattle.std.proofs.Common.{◌≡◌, Bool, true, false, ◌||◌, refl}
use Rattle.logic.specs.declared.truth.Truth.{Truth}
use Rattle.logic.specs.declared.truth.Truth.TheVariants.{True, False, Open}
use Rattle.logic.specs.Kleene.{and3, or3, given}
use Rattle.logic.specs.Kleene.{sure, maybe}

pub sure_given : (b : Bool) → sure (given b) ≡ b
sure_given true = refl
sure_given false = refl

pub maybe_given : (b : Bool) → maybe (given b) ≡ b
maybe_given true = refl
maybe_given false = refl

pub sure_or : (a b : Truth) → sure (or3 a b) ≡ (sure a || sure b)
sure_or True b = refl
sure_or False b = refl
sure_or Open True = refl
sure_or Open False = refl
sure_or Open Open = refl

pub maybe_or : (a b : Truth) → maybe (or3 a b) ≡ (maybe a || maybe b)
maybe_or True b = refl
maybe_or False b = refl
maybe_or Open True = refl
maybe_or Open False = refl
maybe_or Open Open = refl

pub sure_perhaps : (a : Truth) → sure (and3 Open a) ≡ false
sure_perhaps True = refl
sure_perhaps False = refl
sure_perhaps Open = refl

pub maybe_perhaps : (a : Truth) → maybe (and3 Open a) ≡ maybe a
maybe_perhaps True = refl
maybe_perhaps False = refl
maybe_perhaps Open = refl
