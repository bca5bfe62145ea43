-- A cube and the truths of its variables.
use Rattle.std.specs.Prelude.{◌≡◌, ℕ, ◌-◌, ◌%◌, ◌^◌, ◌<◌, ◌≤◌, Bool, true, false, cond, ◌&&◌, ◌≢◌, refl}
use Rattle.std.proofs.Common.{sym, ap, ap₂, ◌∙◌, lt_of_le_of_lt, arith}
use Rattle.std.specs.Int.Bits.{bit_and}
use Rattle.std.proofs.lemmas.Nat.{and_le_r, and_mask}
use Rattle.std.proofs.lemmas.Bool.{false≢true}
use Rattle.logic.specs.declared.truth.Truth.{Truth}
use Rattle.logic.specs.declared.truth.Truth.TheVariants.{True, False, Open}
use Rattle.logic.specs.Bit.{bit}
use Rattle.logic.specs.Kleene.{given, sure, settled}
use Rattle.logic.specs.Partial.{PartialState, Fine, cube_of, truth, single, cube_from, Holds}
use Rattle.logic.specs.States.{Allows, Has, Settled}
use Rattle.logic.specs.BitLaws.{and_true, bit-bit_and, bit_ones, bit_high, bit_ext, and_part, part_known}
use Rattle.logic.specs.Words.{word, word_below, word_is, bit_word}

one_from : (K V S : Bool) → V ≡ (S && K) → Allows (cond K (given V) Open) S
one_from true true true e = refl
one_from true true false e = sym e
one_from true false true e = sym e
one_from true false false e = refl
one_from false V S e = tt

one_to : (K V S : Bool) → (V ≡ true → K ≡ true) → Allows (cond K (given V) Open) S → (S && K) ≡ V
one_to true true true f a = refl
one_to true true false f a = a
one_to true false true f a = a
one_to true false false f a = refl
one_to false true S f a = absurd (false≢true (f refl))
one_to false false true f a = refl
one_to false false false f a = refl

-- a state that agrees with the cube on its known bits has the truths of its variables
pub has_from : (c : PartialState) (s : ℕ) → Holds c s → Has (truth c) (λ v. bit v s)
has_from c s e v = one_from (bit v c.known) (bit v c.value) (bit v s) (ap (bit v) (sym e) ∙ bit-bit_and v s c.known)

-- and the other way round
pub has_to : (c : PartialState) → Fine c → (s : ℕ) → Has (truth c) (λ v. bit v s) → Holds c s
has_to c fine s h =
    let low : c.value < 2 ^ c.width = lt_of_le_of_lt (rw fine.part at (and_le_r c.value c.known)) fine.inside in
    bit_ext c.width (bit_and s c.known) c.value (lt_of_le_of_lt (and_le_r s c.known) fine.inside) low
    (λ v k. bit-bit_and v s c.known ∙ one_to (bit v c.known) (bit v c.value) (bit v s) (part_known c.value c.known v fine.part) (h v))

-- nothing is known of a variable from the width up
pub truth_high : (c : PartialState) → Fine c → (v : ℕ) → c.width ≤ v → truth c v ≡ Open
truth_high c fine v h = ap (λ b. cond b (given (bit v c.value)) Open) (bit_high c.width v c.known fine.inside h)

-- ---- a cube of one state

pub truth_single : (w s v : ℕ) → v < w → truth (single w s) v ≡ given (bit v s)
truth_single w s v h = ap (λ b. cond b (given (bit v s)) Open) (bit_ones w v h)

-- only the digits below the width count
pub truth_lowest : (w s v : ℕ) → v < w → truth (single w (s % 2 ^ w)) v ≡ given (bit v s)
truth_lowest w s v h = truth_single w (s % 2 ^ w) v h ∙ ap given (ap (bit v) (sym (and_mask s w)) ∙ bit-bit_and v s (2 ^ w - 1) ∙ ap (λ b. bit v s && b) (bit_ones w v h) ∙ and_true (bit v s))

-- what has a value is not open
pub given_known : (b : Bool) → given b ≢ Open
given_known true e = let z : ◌≡◌ {A = ℕ} 0 1 = cc in omega arith
given_known false e = let z : ◌≡◌ {A = ℕ} 0 1 = cc in omega arith

pub settled_single : (w s : ℕ) → Settled w (truth (single w s))
settled_single w s v h o = given_known (bit v s) (sym (truth_single w s v h) ∙ o)

-- ---- a cube from the truths of its variables

seen_settled : (k b : Bool) → settled (cond k (given b) Open) ≡ k
seen_settled true true = refl
seen_settled true false = refl
seen_settled false b = refl

seen_sure : (k b : Bool) → (b ≡ true → k ≡ true) → sure (cond k (given b) Open) ≡ b
seen_sure true true h = refl
seen_sure true false h = refl
seen_sure false true h = h refl
seen_sure false false h = refl

sure_settled : (t : Truth) → sure t ≡ true → settled t ≡ true
sure_settled True h = refl
sure_settled False h = refl
sure_settled Open h = h

seen_again : (t : Truth) → cond (settled t) (given (sure t)) Open ≡ t
seen_again True = refl
seen_again False = refl
seen_again Open = refl

-- a cube that has the truths f is the cube from them
pub cube_from_lem : (c : PartialState) → Fine c → (f : ℕ → Truth) → ((v : ℕ) → v < c.width → truth c v ≡ f v) → c ≡ cube_from c.width f
cube_from_lem c fine f h =
    let low : c.value < 2 ^ c.width = lt_of_le_of_lt (rw fine.part at (and_le_r c.value c.known)) fine.inside in
    let known : c.known ≡ word c.width (λ v. settled (f v)) =
    word_is c.width (λ v. settled (f v)) c.known fine.inside (λ v k. sym (seen_settled (bit v c.known) (bit v c.value)) ∙ ap settled (h v k)) in
    let value : c.value ≡ word c.width (λ v. sure (f v)) =
    word_is c.width (λ v. sure (f v)) c.value low
    (λ v k. sym (seen_sure (bit v c.known) (bit v c.value) (part_known c.value c.known v fine.part)) ∙ ap sure (h v k)) in
    λ i. cube_of c.width (known i) (value i)

pub from_truth : (w : ℕ) (f : ℕ → Truth) (v : ℕ) → v < w → truth (cube_from w f) v ≡ f v
from_truth w f v k =
    ap₂ (λ a b. cond a (given b) Open) (bit_word w (λ u. settled (f u)) v k) (bit_word w (λ u. sure (f u)) v k) ∙ seen_again (f v)

pub from_fine : (w : ℕ) (f : ℕ → Truth) → Fine (cube_from w f)
from_fine w f = record {
  inside = word_below w (λ v. settled (f v));
  part =
      and_part w (word w (λ v. sure (f v))) (word w (λ v. settled (f v))) (word_below w (λ v. sure (f v)))
      (λ v k h. bit_word w (λ u. settled (f u)) v k ∙ sure_settled (f v) (sym (bit_word w (λ u. sure (f u)) v k) ∙ h));
}
