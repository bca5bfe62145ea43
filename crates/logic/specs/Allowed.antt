-- What Kleene's logic makes of truths allows what two-valued logic makes of the values that they allow.
use Rattle.std.specs.Prelude.{◌≡◌, Bool, true, false, not, ◌&&◌, ◌||◌, ◌≢◌, refl}
use Rattle.std.proofs.Common.{sym, ap, subst}
use Rattle.std.proofs.lemmas.Bool.{false≢true, and_left, and_right, or_left, or_right}
use Rattle.logic.specs.declared.truth.Truth.{Truth}
use Rattle.logic.specs.declared.truth.Truth.TheVariants.{True, False, Open}
use Rattle.logic.specs.Contained.{given_known}
use Rattle.logic.specs.Kleene.{not3, and3, or3, sure, refuted}
use Rattle.logic.specs.States.{Allows}

pub allows_not : (a : Truth) (x : Bool) → Allows a x → Allows (not3 a) (not x)
allows_not True x h = ap not h
allows_not False x h = ap not h
allows_not Open x h = tt

pub allows_and : (a b : Truth) (x y : Bool) → Allows a x → Allows b y → Allows (and3 a b) (x && y)
allows_and True b x y h k = subst (λ z. Allows b (z && y)) (sym h) k
allows_and False b x y h k = and_left x y h
allows_and Open True x y h k = tt
allows_and Open False x y h k = and_right x y k
allows_and Open Open x y h k = tt

pub allows_or : (a b : Truth) (x y : Bool) → Allows a x → Allows b y → Allows (or3 a b) (x || y)
allows_or True b x y h k = or_left x y h
allows_or False b x y h k = subst (λ z. Allows b (z || y)) (sym h) k
allows_or Open True x y h k = or_right x y k
allows_or Open False x y h k = tt
allows_or Open Open x y h k = tt

-- ---- of truths that are not open it makes one that is not

pub settles_not : (a : Truth) → (a ≢ Open) → not3 a ≢ Open
settles_not True h = given_known false
settles_not False h = given_known true
settles_not Open h = h

pub settles_and : (a b : Truth) → (a ≢ Open) → (b ≢ Open) → and3 a b ≢ Open
settles_and True b h k = k
settles_and False b h k = given_known false
settles_and Open b h k = absurd (h refl)

pub settles_or : (a b : Truth) → (a ≢ Open) → (b ≢ Open) → or3 a b ≢ Open
settles_or True b h k = given_known true
settles_or False b h k = k
settles_or Open b h k = absurd (h refl)

-- ---- a truth that is known

pub sure_is : (a : Truth) → sure a ≡ true → a ≡ True
sure_is True h = refl
sure_is False h = absurd (false≢true h)
sure_is Open h = absurd (false≢true h)

pub refuted_is : (a : Truth) → refuted a ≡ true → a ≡ False
refuted_is True h = absurd (false≢true h)
refuted_is False h = refl
refuted_is Open h = absurd (false≢true h)
