-- The counting law: rising entries of a width that lie in a cube number at most 2 ^ free, and just then all are listed.
use Rattle.std.specs.Prelude.{◌≡◌, ℕ, zero, suc, ◌+◌, ◌-◌, ◌*◌, ◌/◌, ◌%◌, ◌^◌, ◌<◌, ◌≤◌, Bool, true, false, ◌&&◌, ◌||◌, ◌⊎◌, ◌==◌, ◌≢◌, bit_and, count_ones, nat_eq, nat_lt}
use Rattle.std.proofs.Math.Path.{refl, sym, ap}
use Rattle.std.proofs.Common.{subst, ◌∙◌, inl, inr, add-zero, pow-suc, div-add-mod', add-one, arith}
use Rattle.std.proofs.Math.Logic.{⊎_elim}
use Rattle.std.specs.Int.Bits.{and_step, and_zero_r}
use Rattle.std.specs.Int.Count.{ones_step, ones-ones}
use Rattle.std.proofs.lemmas.Nat.{ones-le}
use Rattle.std.proofs.lemmas.Bool.{both_ways, eqb-true, eq-eqb, ne_eqb, ltb-true, cases_Bool, and_parts, and_right, or_cases, cases_eq}
use Rattle.logic.specs.Words.{digit}
use Rattle.setpapers.specs.Rows.{all_parts}
use Rattle.setpapers.specs.Count.{card, meets, tally, listed, above, rises, rising}

-- ---- halves

-- half of a number has one digit less
half_below : (w x : ℕ) → x < 2 ^ suc w → x / 2 < 2 ^ w
half_below w x h = let e = pow-suc 2 w in let d = div-add-mod' x 2 in omega arith

-- a number is even or odd
parity : (x : ℕ) → (x ≡ x / 2 * 2) ⊎ (x ≡ x / 2 * 2 + 1)
parity x = ⊎_elim (λ e. inl (omega (arith, div-add-mod' x 2))) (λ e. inr (omega (arith, div-add-mod' x 2))) (cases_eq (x % 2) 0)

-- ---- `card`

-- a test that two share between them
pub card_add : (w : ℕ) (p q r : ℕ → Bool) → ((x : ℕ) → digit (p x) ≡ digit (q x) + digit (r x)) → card w p ≡ card w q + card w r
unfolding card
card_add zero p q r h = h 0
card_add (suc w) p q r h =
    let a = card_add w (λ x. p (x * 2)) (λ x. q (x * 2)) (λ x. r (x * 2)) (λ x. h (x * 2)) in
    let b = card_add w (λ x. p (x * 2 + 1)) (λ x. q (x * 2 + 1)) (λ x. r (x * 2 + 1)) (λ x. h (x * 2 + 1)) in
    omega arith

-- a test that none passes
pub card_none : (w : ℕ) (p : ℕ → Bool) → ((x : ℕ) → p x ≡ false) → card w p ≡ 0
unfolding card
card_none zero p h = ap digit (h 0)
card_none (suc w) p h =
    let a = card_none w (λ x. p (x * 2)) (λ x. h (x * 2)) in
    let b = card_none w (λ x. p (x * 2 + 1)) (λ x. h (x * 2 + 1)) in
    omega arith

-- a test that only y passes
pub card_one : (w y : ℕ) (p : ℕ → Bool) → y < 2 ^ w → ((x : ℕ) → p x ≡ true → x ≡ y) → card w p ≡ digit (p y)
unfolding card
card_one zero y p l h = ap (λ x. digit (p x)) (omega arith)
card_one (suc w) y p l h =
    let k = half_below w y l in
    let a = card_one w (y / 2) (λ x. p (x * 2)) k (λ x e. omega (arith, h (x * 2) e)) in
    let b = card_one w (y / 2) (λ x. p (x * 2 + 1)) k (λ x e. omega (arith, h (x * 2 + 1) e)) in
    ⊎_elim
    (λ (even : y ≡ y / 2 * 2).
    let off : p (y / 2 * 2 + 1) ≡ false = ⊎_elim (λ t. absurd (omega (arith, h _ t))) (λ f. f) (cases_Bool (p (y / 2 * 2 + 1))) in
    omega (arith, ap digit off, ap (λ x. digit (p x)) even))
    (λ (odd : y ≡ y / 2 * 2 + 1).
    let off : p (y / 2 * 2) ≡ false = ⊎_elim (λ t. absurd (omega (arith, h _ t))) (λ f. f) (cases_Bool (p (y / 2 * 2))) in
    omega (arith, ap digit off, ap (λ x. digit (p x)) odd))
    (parity y)

-- a test within another
bit_le : (a b : Bool) → (a ≡ true → b ≡ true) → digit a ≤ digit b
bit_le a b h = ⊎_elim (λ e. omega (arith, ap digit e, ap digit (h e))) (λ e. omega (arith, ap digit e)) (cases_Bool a)

-- a test that holds where another does
bit_same : (a b : Bool) → digit a ≡ digit b → b ≡ true → a ≡ true
bit_same true b e h = refl
bit_same false b e h = absurd (omega (arith, ap digit h))

-- a test that counts nothing
bit_zero : (a : Bool) → digit a ≡ 0 → a ≡ false
bit_zero true e = absurd (omega arith)
bit_zero false e = refl

-- a part is at most the whole
pub card_le : (w : ℕ) (p q : ℕ → Bool) → ((x : ℕ) → p x ≡ true → q x ≡ true) → card w p ≤ card w q
unfolding card
card_le zero p q h = bit_le (p 0) (q 0) (h 0)
card_le (suc w) p q h =
    let a = card_le w (λ x. p (x * 2)) (λ x. q (x * 2)) (λ x. h (x * 2)) in
    let b = card_le w (λ x. p (x * 2 + 1)) (λ x. q (x * 2 + 1)) (λ x. h (x * 2 + 1)) in
    omega arith

-- a part that is as many as the whole is the whole
pub card_full : (w : ℕ) (p q : ℕ → Bool) → ((x : ℕ) → p x ≡ true → q x ≡ true) → card w p ≡ card w q → (x : ℕ) → x < 2 ^ w → q x ≡ true → p x ≡ true
unfolding card
card_full zero p q h e x l t =
    let z : x ≡ 0 = omega arith in
    subst (λ y. p y ≡ true) (sym z) (bit_same (p 0) (q 0) e (subst (λ y. q y ≡ true) z t))
card_full (suc w) p q h e x l t =
    let a = card_le w (λ x. p (x * 2)) (λ x. q (x * 2)) (λ x. h (x * 2)) in
    let b = card_le w (λ x. p (x * 2 + 1)) (λ x. q (x * 2 + 1)) (λ x. h (x * 2 + 1)) in
    let k = half_below w x l in
    ⊎_elim
    (λ (even : x ≡ x / 2 * 2).
    subst (λ y. p y ≡ true) (sym even)
    (card_full w (λ x. p (x * 2)) (λ x. q (x * 2)) (λ x. h (x * 2)) (omega arith) (x / 2) k (subst (λ y. q y ≡ true) even t)))
    (λ (odd : x ≡ x / 2 * 2 + 1).
    subst (λ y. p y ≡ true) (sym odd)
    (card_full w (λ x. p (x * 2 + 1)) (λ x. q (x * 2 + 1)) (λ x. h (x * 2 + 1)) (omega arith) (x / 2) k (subst (λ y. q y ≡ true) odd t)))
    (parity x)

-- ---- the states of a cube: 2 to the number of free variables

-- tests of the same
eqb_same : (a b c d : ℕ) → (a ≡ b → c ≡ d) → (c ≡ d → a ≡ b) → (a == b) ≡ (c == d)
eqb_same a b c d f g =
    ⊎_elim (λ e. eq-eqb a b e ∙ sym (eq-eqb c d (f e))) (λ n. ne_eqb a b n ∙ sym (ne_eqb c d (λ e. n (g e)))) (cases_eq a b)

module _ (k v : ℕ) (settled : bit_and v k ≡ v) where
  rest_settled : bit_and (v / 2) (k / 2) ≡ v / 2
  rest_settled = omega (arith, and_step v k)

  low_settled : v % 2 ≤ k % 2
  low_settled = omega (arith, and_step v k)

  and_even : (x : ℕ) → bit_and (x * 2) k ≡ bit_and x (k / 2) * 2
  and_even x =
      let a : x * 2 / 2 ≡ x = omega arith in
      let b : x * 2 % 2 ≡ 0 = omega arith in
      omega (arith, and_step (x * 2) k, ap (λ y. bit_and y (k / 2)) a)

  and_odd : (x : ℕ) → bit_and (x * 2 + 1) k ≡ bit_and x (k / 2) * 2 + k % 2
  and_odd x =
      let a : (x * 2 + 1) / 2 ≡ x = omega arith in
      let b : (x * 2 + 1) % 2 ≡ 1 = omega arith in
      omega (arith, and_step (x * 2 + 1) k, ap (λ y. bit_and y (k / 2)) a)

  -- a half that keeps to v on the lowest bit is the cube of the other bits, and any other half is empty
  even_in : v % 2 ≡ 0 → (x : ℕ) → meets k v (x * 2) ≡ meets (k / 2) (v / 2) x
  even_in l x = let s = and_even x in eqb_same _ _ _ _ (λ e. omega arith) (λ e. omega arith)

  even_out : v % 2 ≡ 1 → (x : ℕ) → meets k v (x * 2) ≡ false
  even_out l x = let s = and_even x in ne_eqb _ _ (λ e. omega arith)

  odd_in : v % 2 ≡ k % 2 → (x : ℕ) → meets k v (x * 2 + 1) ≡ meets (k / 2) (v / 2) x
  odd_in l x = let s = and_odd x in eqb_same _ _ _ _ (λ e. omega arith) (λ e. omega arith)

  odd_out : v % 2 ≡ 0 → k % 2 ≡ 1 → (x : ℕ) → meets k v (x * 2 + 1) ≡ false
  odd_out l o x = let s = and_odd x in ne_eqb _ _ (λ e. omega arith)

-- so many states a cube has
pub card_cube : (w k v : ℕ) → k < 2 ^ w → bit_and v k ≡ v → card w (meets k v) ≡ 2 ^ (w - count_ones k)
unfolding card
card_cube zero k v h s =
    let a : k ≡ 0 = omega arith in
    let f : 0 - count_ones k ≡ 0 = omega arith in
    ap digit (eq-eqb (bit_and 0 k) v (sym (and_zero_r v) ∙ ap (bit_and v) (sym a) ∙ s)) ∙ ap (λ n. 2 ^ n) (sym f)
card_cube (suc w) k v h s =
    let kh = half_below w k h in
    let ih = card_cube w (k / 2) (v / 2) kh (rest_settled k v s) in
    let few = ones-le w (k / 2) kh in
    let step = ones_step k in
    let low = low_settled k v s in
    ⊎_elim
    (λ (free : k % 2 ≡ 0).
    let n : suc w - count_ones k ≡ suc (w - count_ones (k / 2)) = omega arith in
    let z : v % 2 ≡ 0 = omega arith in
    let a = ap (card w) (λ i x. even_in k v s z x i) in
    let b = ap (card w) (λ i x. odd_in k v s (z ∙ sym free) x i) in
    omega (arith, a, b, ap (λ m. 2 ^ m) n, pow-suc 2 (w - count_ones (k / 2))))
    (λ (known : k % 2 ≡ 0 → ⊥).
    let one : k % 2 ≡ 1 = omega arith in
    let n : suc w - count_ones k ≡ w - count_ones (k / 2) = omega arith in
    ⊎_elim
    (λ (z : v % 2 ≡ 0).
    let a = ap (card w) (λ i x. even_in k v s z x i) in
    let b = card_none w (λ x. meets k v (x * 2 + 1)) (odd_out k v s z one) in
    omega (arith, a, b, ap (λ m. 2 ^ m) n))
    (λ (u : v % 2 ≡ 0 → ⊥).
    let y : v % 2 ≡ 1 = omega arith in
    let a = card_none w (λ x. meets k v (x * 2)) (even_out k v s y) in
    let b = ap (card w) (λ i x. odd_in k v s (y ∙ sym one) x i) in
    omega (arith, a, b, ap (λ m. 2 ^ m) n))
    (cases_eq (v % 2) 0))
    (cases_eq (k % 2) 0)

-- ---- rising entries

module _ (w : ℕ) (e : ℕ → ℕ) where
  pub rising_parts : (n : ℕ) → rising w e (suc n) ≡ true → (rising w e n ≡ true) × (e n < 2 ^ w) × (above e n ≡ true)
  rising_parts n r =
      let a = all_parts (rises w e) n r in
      let b = and_parts (nat_lt (e n) (2 ^ w)) (above e n) a.1 in
      (a.0, ltb-true _ _ b.0, b.1)

  pub listed_before : (n x : ℕ) → rising w e (suc n) ≡ true → listed e n x ≡ true → x < e n
  unfolding listed
  listed_before zero x r l = absurd (both_ways _ refl l)
  listed_before (suc n) x r l =
      let a = rising_parts (suc n) r in
      let up = ltb-true (e n) (e (suc n)) a.2 in
      ⊎_elim (λ (h : nat_eq (e n) x ≡ true). omega (arith, up, eqb-true (e n) x h)) (λ (h : listed e n x ≡ true). omega (arith, up, listed_before n x a.0 h)) (or_cases _ _ l)

  pub listed_within : (n x : ℕ) → rising w e n ≡ true → listed e n x ≡ true → x < 2 ^ w
  unfolding listed
  listed_within zero x r l = absurd (both_ways _ refl l)
  listed_within (suc n) x r l =
      let a = rising_parts n r in
      ⊎_elim (λ (h : nat_eq (e n) x ≡ true). omega (arith, a.1, eqb-true (e n) x h)) (listed_within n x a.0) (or_cases _ _ l)

  split_bit : (p t l : Bool) → (t ≡ true → l ≢ true) → digit (p && (t || l)) ≡ digit (p && l) + digit (p && t)
  split_bit false t l h = refl
  split_bit true true true h = absurd (h refl refl)
  split_bit true true false h = refl
  split_bit true false true h = refl
  split_bit true false false h = refl

  -- the entries that pass p are as many as the listed numbers that do
  pub tally_card : (n : ℕ) (p : ℕ → Bool) → rising w e n ≡ true → tally p e n ≡ card w (λ x. p x && listed e n x)
  unfolding tally listed
  tally_card zero p r = sym (card_none w (λ x. p x && false) (λ x. and_right (p x) false refl))
  tally_card (suc n) p r =
      let a = rising_parts n r in
      let ih = tally_card n p a.0 in
      let cut = card_add w (λ x. p x && (e n == x || listed e n x)) (λ x. p x && listed e n x) (λ x. p x && e n == x)
      (λ x. split_bit (p x) (e n == x) (listed e n x) (λ s l. omega (arith, eqb-true (e n) x s, listed_before n x r l))) in
      let one = card_one w (e n) (λ x. p x && e n == x) a.1 (λ x h. sym (eqb-true (e n) x (and_parts (p x) (e n == x) h).1)) in
      let here : (p (e n) && e n == e n) ≡ p (e n) = rw (eq-eqb (e n) (e n) refl) (elim (p (e n)) as (λ b. (b && true) ≡ b) [ true ↦ refl | false ↦ refl ]) in
      omega (arith, ih, cut, one, ap digit here)

  module _ (n k v : ℕ) (r : rising w e n ≡ true) (fits : k < 2 ^ w) (settled : bit_and v k ≡ v) where
    -- the listed states in a cube are at most the states of the cube
    pub tally_le : tally (meets k v) e n ≤ 2 ^ (w - count_ones k)
    tally_le =
        let le = card_le w (λ x. meets k v x && listed e n x) (meets k v) (λ x h. (and_parts _ _ h).0) in
        omega (arith, le, tally_card n (meets k v) r, card_cube w k v fits settled)

    -- and just as many only where each is listed
    pub tally_full : tally (meets k v) e n ≡ 2 ^ (w - count_ones k) → (x : ℕ) → x < 2 ^ w → meets k v x ≡ true → listed e n x ≡ true
    tally_full same x l h =
        (and_parts _ _ (card_full w (λ x. meets k v x && listed e n x) (meets k v) (λ x h. (and_parts _ _ h).0)
        (sym (tally_card n (meets k v) r) ∙ same ∙ sym (card_cube w k v fits settled)) x l h)).1

    -- one at most in a cube with no free variable
    pub tally_total : k ≡ 2 ^ w - 1 → tally (meets k v) e n ≤ 1
    tally_total t =
        let f : w - count_ones k ≡ 0 = omega (arith, ap count_ones t, ones-ones w) in
        omega (arith, tally_le, ap (λ m. 2 ^ m) f)

-- none of those listed
pub tally_none : (e : ℕ → ℕ) (p : ℕ → Bool) (n : ℕ) → tally p e n ≡ 0 → (x : ℕ) → listed e n x ≡ true → p x ≡ false
unfolding tally listed
tally_none e p zero z x l = absurd (both_ways _ refl l)
tally_none e p (suc n) z x l =
    ⊎_elim
    (λ h. subst (λ y. p y ≡ false) (eqb-true _ _ h) (bit_zero (p (e n)) (omega arith)))
    (tally_none e p n (omega arith) x)
    (or_cases _ _ l)

-- at most all of the entries
pub tally_bound : (e : ℕ → ℕ) (p : ℕ → Bool) (n : ℕ) → tally p e n ≤ n
unfolding tally
tally_bound e p zero = omega arith
tally_bound e p (suc n) =
    let ih = tally_bound e p n in
    let b : digit (p (e n)) ≤ 1 = elim (p (e n)) as (λ t. digit t ≤ 1) [ true ↦ omega arith | false ↦ omega arith ] in
    omega arith

-- one entry more, as a loop has it
pub tally_hit : (e : ℕ → ℕ) (p : ℕ → Bool) (n : ℕ) → p (e n) ≡ true → tally p e (n + 1) ≡ tally p e n + 1
unfolding tally
tally_hit e p n h = ap (tally p e) (add-one n) ∙ ap (λ b. tally p e n + digit b) h

-- one entry more that does not pass
pub tally_miss : (e : ℕ → ℕ) (p : ℕ → Bool) (n : ℕ) → p (e n) ≡ false → tally p e (n + 1) ≡ tally p e n
unfolding tally
tally_miss e p n h = ap (tally p e) (add-one n) ∙ ap (λ b. tally p e n + digit b) h ∙ add-zero (tally p e n)
