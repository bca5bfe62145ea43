-- Numbers made of their binary digits.
use Rattle.std.specs.Prelude.{◌≡◌, ℕ, zero, suc, ◌+◌, ◌*◌, ◌/◌, ◌%◌, ◌^◌, ◌<◌, Bool, true, false, ◌==◌, nat_eq, refl}
use Rattle.std.proofs.Common.{sym, ap, ◌∙◌, pow-suc, arith}
use Rattle.logic.specs.Bit.{bit}
use Rattle.logic.specs.BitLaws.{bit_low, bit_suc, bit_ext}

abbrev pub digit : Bool → ℕ
digit true = 1
digit false = 0

-- the number below 2 ^ w whose digits are f 0, f 1 and so on
unfoldable pub word : ℕ → (ℕ → Bool) → ℕ
word zero f = 0
word (suc w) f = word w (λ u. f (suc u)) * 2 + digit (f 0)

digit_small : (b : Bool) → digit b < 2
digit_small true = omega arith
digit_small false = omega arith

digit_is : (b : Bool) → (digit b == 1) ≡ b
digit_is true = refl
digit_is false = refl

pub word_below : (w : ℕ) (f : ℕ → Bool) → word w f < 2 ^ w
unfolding word
word_below zero f = omega arith
word_below (suc w) f = omega (arith, word_below w (λ u. f (suc u)), digit_small (f 0), pow-suc 2 w)

pub bit_word : (w : ℕ) (f : ℕ → Bool) (v : ℕ) → v < w → bit v (word w f) ≡ f v
unfolding word
bit_word zero f v h = absurd (omega arith)
bit_word (suc w) f zero h =
    let d = digit_small (f 0) in
    let low : (word w (λ u. f (suc u)) * 2 + digit (f 0)) % 2 ≡ digit (f 0) = omega arith in
    bit_low _ ∙ ap (λ x. nat_eq x 1) low ∙ digit_is (f 0)
bit_word (suc w) f (suc v) h =
    let d = digit_small (f 0) in
    let high : (word w (λ u. f (suc u)) * 2 + digit (f 0)) / 2 ≡ word w (λ u. f (suc u)) = omega arith in
    bit_suc v _ ∙ ap (bit v) high ∙ bit_word w (λ u. f (suc u)) v (omega arith)

-- a number below 2 ^ w is the word of its digits
pub word_is : (w : ℕ) (f : ℕ → Bool) (a : ℕ) → a < 2 ^ w → ((v : ℕ) → v < w → bit v a ≡ f v) → a ≡ word w f
word_is w f a below h = bit_ext w a (word w f) below (word_below w f) (λ v k. h v k ∙ sym (bit_word w f v k))
