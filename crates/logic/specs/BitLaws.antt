-- The digits of what the bit operations give, and numbers told apart by their digits.
use Rattle.std.specs.Prelude.{◌≡◌, ℕ, zero, suc, ◌+◌, ◌-◌, ◌/◌, ◌%◌, ◌^◌, ◌<◌, ◌≤◌, Bool, true, false, not, ◌&&◌, ◌||◌, eqb, ◌==◌, refl}
use Rattle.std.proofs.Common.{sym, ap, ◌∙◌, pow-suc, div-one, lt_of_lt_of_le, lt_of_le_of_lt, le_of_suc-le-suc, arith, pow_pos, pow_mono}
use Rattle.std.proofs.Math.Nat.{pow-succ', div-div-eq-div-mul, zero-div, div-eq_of_lt}
use Rattle.std.specs.Int.Bits.{bit_and, bit_or}
use Rattle.std.proofs.lemmas.Nat.{and_shr, or_shr, and_mod, or_mod, and_le_l}
use Rattle.std.proofs.Math.Dec.{eqb-zero-suc, eqb-suc-zero, eqb-suc-suc}
use Rattle.std.proofs.lemmas.Bool.{false≢true}
use Rattle.logic.specs.Bit.{bit}

pub and_true : (b : Bool) → (b && true) ≡ b
and_true true = refl
and_true false = refl

-- ---- the digits, lowest first

pub bit_low : (n : ℕ) → bit 0 n ≡ (n % 2 == 1)
unfolding bit
bit_low n = ap (λ x. eqb (x % 2) 1) (div-one n)

pub bit_suc : (v n : ℕ) → bit (suc v) n ≡ bit v (n / 2)
unfolding bit
bit_suc v n = ap (λ x. eqb (n / x % 2) 1) (pow-succ' 2 v) ∙ ap (λ x. eqb (x % 2) 1) (sym (div-div-eq-div-mul n 2 (2 ^ v)))

-- ---- the operations, digit by digit

not_digit : {A : Type 0} {x : ℕ} → suc (suc x) < 2 → A
not_digit h = absurd (omega arith)

digit_and : (x y : ℕ) → x < 2 → y < 2 → (bit_and x y == 1) ≡ (x == 1 && y == 1)
digit_and zero y hx hy = refl
digit_and (suc zero) zero hx hy = refl
digit_and (suc zero) (suc zero) hx hy = refl
digit_and (suc zero) (suc (suc y)) hx hy = not_digit hy
digit_and (suc (suc x)) y hx hy = not_digit hx

digit_or : (x y : ℕ) → x < 2 → y < 2 → (bit_or x y == 1) ≡ (x == 1 || y == 1)
digit_or zero y hx hy = refl
digit_or (suc zero) zero hx hy = refl
digit_or (suc zero) (suc zero) hx hy = refl
digit_or (suc zero) (suc (suc y)) hx hy = not_digit hy
digit_or (suc (suc x)) y hx hy = not_digit hx

pub bit-bit_and : (v a b : ℕ) → bit v (bit_and a b) ≡ (bit v a && bit v b)
unfolding bit
bit-bit_and v a b =
    ap (λ x. eqb (x % 2) 1) (and_shr a b v) ∙ ap (λ x. eqb x 1) (and_mod (a / 2 ^ v) (b / 2 ^ v) 1)
    ∙ digit_and (a / 2 ^ v % 2) (b / 2 ^ v % 2) (omega arith) (omega arith)

pub bit-bit_or : (v a b : ℕ) → bit v (bit_or a b) ≡ (bit v a || bit v b)
unfolding bit
bit-bit_or v a b =
    ap (λ x. eqb (x % 2) 1) (or_shr a b v) ∙ ap (λ x. eqb x 1) (or_mod (a / 2 ^ v) (b / 2 ^ v) 1)
    ∙ digit_or (a / 2 ^ v % 2) (b / 2 ^ v % 2) (omega arith) (omega arith)

pub bit_zero : (v : ℕ) → bit v 0 ≡ false
unfolding bit
bit_zero v = ap (λ x. eqb (x % 2) 1) (zero-div (2 ^ v))

-- no digit from the width up
pub bit_high : (w v n : ℕ) → n < 2 ^ w → w ≤ v → bit v n ≡ false
unfolding bit
bit_high w v n h k = ap (λ x. eqb (x % 2) 1) (div-eq_of_lt (lt_of_lt_of_le h (pow_mono k)))

pub bit_power : (v k : ℕ) → bit v (2 ^ k) ≡ (v == k)
bit_power zero zero = bit_low 1
bit_power zero (suc k) =
    bit_low (2 ^ suc k) ∙ ap (λ x. eqb x 1) (let e = pow-suc 2 k in let z : 2 ^ suc k % 2 ≡ 0 = omega arith in z)
    ∙ sym (eqb-zero-suc k)
bit_power (suc v) zero = bit_suc v 1 ∙ bit_zero v ∙ sym (eqb-suc-zero v)
bit_power (suc v) (suc k) =
    bit_suc v (2 ^ suc k) ∙ ap (bit v) (let e = pow-suc 2 k in let z : 2 ^ suc k / 2 ≡ 2 ^ k = omega arith in z)
    ∙ bit_power v k ∙ sym (eqb-suc-suc v k)

-- the complement within a width
digit_not : (x y : ℕ) → x + y ≡ 1 → (x == 1) ≡ not (y == 1)
digit_not zero zero e = absurd (omega arith)
digit_not zero (suc zero) e = refl
digit_not zero (suc (suc y)) e = absurd (omega arith)
digit_not (suc zero) zero e = refl
digit_not (suc zero) (suc y) e = absurd (omega arith)
digit_not (suc (suc x)) y e = absurd (omega arith)

pub bit_not : (w v n : ℕ) → n < 2 ^ w → v < w → bit v ((2 ^ w - 1) - n) ≡ not (bit v n)
bit_not zero v n h k = absurd (omega arith)
bit_not (suc w) zero n h k =
    let e = pow-suc 2 w in
    let d : ((2 ^ suc w - 1) - n) % 2 + n % 2 ≡ 1 = omega arith in
    bit_low ((2 ^ suc w - 1) - n) ∙ digit_not _ _ d ∙ ap not (sym (bit_low n))
bit_not (suc w) (suc v) n h k =
    let e = pow-suc 2 w in
    let q : ((2 ^ suc w - 1) - n) / 2 ≡ (2 ^ w - 1) - n / 2 = omega arith in
    let l : n / 2 < 2 ^ w = omega arith in
    bit_suc v ((2 ^ suc w - 1) - n) ∙ ap (bit v) q ∙ bit_not w v (n / 2) l (le_of_suc-le-suc k) ∙ ap not (sym (bit_suc v n))

pub bit_ones : (w v : ℕ) → v < w → bit v (2 ^ w - 1) ≡ true
bit_ones w v h =
    let e : (2 ^ w - 1) - 0 ≡ 2 ^ w - 1 = omega arith in
    ap (bit v) (sym e) ∙ bit_not w v 0 (pow_pos w) h ∙ ap not (bit_zero v)

-- ---- numbers with the same digits are the same

same_digit : (x y : ℕ) → x < 2 → y < 2 → (x == 1) ≡ (y == 1) → x ≡ y
same_digit zero zero hx hy e = refl
same_digit zero (suc zero) hx hy e = absurd (false≢true e)
same_digit zero (suc (suc y)) hx hy e = not_digit hy
same_digit (suc zero) zero hx hy e = absurd (false≢true (sym e))
same_digit (suc zero) (suc zero) hx hy e = refl
same_digit (suc zero) (suc (suc y)) hx hy e = not_digit hy
same_digit (suc (suc x)) y hx hy e = not_digit hx

pub bit_ext : (w a b : ℕ) → a < 2 ^ w → b < 2 ^ w → ((v : ℕ) → v < w → bit v a ≡ bit v b) → a ≡ b
bit_ext zero a b ha hb h = omega arith
bit_ext (suc w) a b ha hb h =
    let e = pow-suc 2 w in
    let la : a / 2 < 2 ^ w = omega arith in
    let lb : b / 2 < 2 ^ w = omega arith in
    let lo : a % 2 ≡ b % 2 = same_digit _ _ (omega arith) (omega arith) (sym (bit_low a) ∙ h 0 (omega arith) ∙ bit_low b) in
    let hi : a / 2 ≡ b / 2 = bit_ext w (a / 2) (b / 2) la lb (λ v k. sym (bit_suc v a) ∙ h (suc v) (omega arith) ∙ bit_suc v b) in
    omega arith

-- a part of another number, by digits
pub and_part : (w a b : ℕ) → a < 2 ^ w → ((v : ℕ) → v < w → bit v a ≡ true → bit v b ≡ true) → bit_and a b ≡ a
and_part w a b ha h = bit_ext w (bit_and a b) a (lt_of_le_of_lt (and_le_l a b) ha) ha (λ v k. bit-bit_and v a b ∙ go (bit v a) (bit v b) (h v k))
  where
    go : (x y : Bool) → (x ≡ true → y ≡ true) → (x && y) ≡ x
    go true y f = f refl
    go false y f = refl

-- a number with no digit from w up is below 2 ^ w
pub bits_lt : (W w a : ℕ) → a < 2 ^ W → ((v : ℕ) → w ≤ v → bit v a ≡ false) → a < 2 ^ w
bits_lt W zero a ha h =
    let z : a ≡ 0 = bit_ext W a 0 ha (pow_pos W) (λ v k. h v (omega arith) ∙ sym (bit_zero v)) in omega arith
bits_lt W (suc w) a ha h =
    let e = pow-suc 2 w in
    let l : a / 2 < 2 ^ w = bits_lt W w (a / 2) (omega arith) (λ v k. sym (bit_suc v a) ∙ h (suc v) (omega arith)) in
    omega arith

-- a digit of a part is one of the whole
pub part_known : (value known v : ℕ) → bit_and value known ≡ value → bit v value ≡ true → bit v known ≡ true
part_known value known v e h = go (bit v value) (bit v known) (sym (bit-bit_and v value known) ∙ ap (bit v) e) h
  where
    go : (x y : Bool) → (x && y) ≡ x → x ≡ true → y ≡ true
    go true y p q = p
    go false y p q = absurd (false≢true q)

-- a digit that is not set is 0
pub bit_none : (v n : ℕ) → bit v n ≡ false → n / 2 ^ v % 2 ≡ 0
unfolding bit
bit_none v n e = go (n / 2 ^ v % 2) (omega arith) e
  where
    go : (x : ℕ) → x < 2 → (x == 1) ≡ false → x ≡ 0
    go zero h e = refl
    go (suc zero) h e = absurd (false≢true (sym e))
    go (suc (suc x)) h e = not_digit h
