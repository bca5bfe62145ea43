-- The plain tree is lawful where the leaf rule settles what it must.
use Rattle.std.proofs.Common.{◌≡◌, ℕ, zero, suc, ◌+◌, ◌-◌, ◌*◌, ◌^◌, ◌<◌, ◌≤◌, Bool, true, not, List, [], ◌∷◌, ◌++◌, length, sym, refl, ap, ◌∙◌, subst, ⊎_elim, mod-eq_of_lt, pow-suc, arith, pow_mono}
use lib.Bits.{bit_or, and_mask, or_shifted_r}
use Rattle.std.specs.List.{flat_map}
use Rattle.std.proofs.lemmas.Nat.{pow_pos}
use Rattle.std.proofs.lemmas.Bool.{both_ways, cases_Bool, cond_both, and_from, lt-ltb}
use Rattle.logic.specs.BitLaws.{bit_high}
use Rattle.logic.specs.Partial.{PartialState, Fine, Holds, cube_of, whole, single, is_free}
use Rattle.trees.specs.Tree.{Tree, leaf, preorder, Lawful, LawfulEach, Proves}
use Rattle.judge.specs.Plain.{plain_from, plain_tree, copies, plain_body, Finds}

-- ---- the words of a cube that knows the variables below v

pub known_more : (v : ℕ) → bit_or (2 ^ v - 1) (2 ^ v) ≡ 2 ^ suc v - 1
known_more v =
    let one : 1 * 2 ^ v ≡ 2 ^ v = omega arith in
    ap (bit_or (2 ^ v - 1)) (sym one) ∙ or_shifted_r 1 v (2 ^ v - 1) (omega (arith, pow_pos v)) ∙ omega (arith, pow-suc 2 v, pow_pos v)

value_more : (v x : ℕ) → x < 2 ^ v → bit_or x (2 ^ v) ≡ 2 ^ v + x
value_more v x h =
    let one : 1 * 2 ^ v ≡ 2 ^ v = omega arith in
    ap (bit_or x) (sym one) ∙ or_shifted_r 1 v x h ∙ omega arith

pub free_next : (width v x : ℕ) → v < width → is_free (cube_of width (2 ^ v - 1) x) v ≡ true
free_next width v x h = and_from _ _ (lt-ltb v width h) (ap not (bit_high v v (2 ^ v - 1) (omega (arith, pow_pos v)) (omega arith)))

fine_low : (width v x : ℕ) → v ≤ width → x < 2 ^ v → Fine (cube_of width (2 ^ v - 1) x)
fine_low width v x h below = record { inside = omega (arith, pow_pos v, pow_mono h); part = and_mask x v ∙ mod-eq_of_lt below }

-- ---- lawful

-- a leaf rule that settles each cube that holds no state of the set, and the cube of each of its states
pub record Settles (width : ℕ) (has : ℕ → Bool) (settled : PartialState → Bool) : Type 0 where
  pub apart : (c : PartialState) → Fine c → c.width ≡ width → ((s : ℕ) → has s ≡ true → Holds c s → ⊥) → settled c ≡ true
  pub total : (s : ℕ) → has s ≡ true → settled (single width s) ≡ true

module _ (width : ℕ) (has : ℕ → Bool) (within : (s : ℕ) → has s ≡ true → s < 2 ^ width) (held : PartialState → Bool) (finds : Finds has held) where
  module _ (settled : PartialState → Bool) (s : Settles width has settled) where
    -- a cube with no free variable
    one_state : (x : ℕ) → x < 2 ^ width → settled (single width x) ≡ true
    one_state x below =
        ⊎_elim
        (λ l. s.total x l)
        (λ l. s.apart (single width x) (fine_low width width x (omega arith) below) refl
        (λ y h k.
        let same : y ≡ x = sym (mod-eq_of_lt (within y h)) ∙ sym (and_mask y width) ∙ k in
        both_ways _ l (ap has (sym same) ∙ h)))
        (cases_Bool (has x))

    lawful_from : (left v x : ℕ) → v + left ≡ width → x < 2 ^ v → Lawful settled (plain_from held left v (cube_of width (2 ^ v - 1) x)) (cube_of width (2 ^ v - 1) x)
    lawful_from zero v x is below =
        let same : width ≡ v = omega arith in
        subst (λ w. settled (cube_of width (2 ^ w - 1) x) ≡ true) same (one_state x (subst (λ w. x < 2 ^ w) (sym same) below))
    lawful_from (suc left) v x is below =
        let c = cube_of width (2 ^ v - 1) x in
        let P : Tree → Type 0 = λ t. Lawful settled t c in
        let Q : ℕ → ℕ → Type 0 = λ k y. Lawful settled (plain_from held left (suc v) (cube_of width k y)) (cube_of width k y) in
        let low : Q (bit_or (2 ^ v - 1) (2 ^ v)) x = subst (λ k. Q k x) (sym (known_more v)) (lawful_from left (suc v) x (omega arith) (omega (arith, pow-suc 2 v))) in
        let high : Q (bit_or (2 ^ v - 1) (2 ^ v)) (bit_or x (2 ^ v)) =
        subst (λ k. Q k (bit_or x (2 ^ v))) (sym (known_more v)) (lawful_from left (suc v) (bit_or x (2 ^ v)) (omega arith) (omega (arith, pow-suc 2 v, value_more v x below))) in
        cond_both (held c) _ leaf P
        (λ some. (free_next width v x (omega arith), low, high))
        (λ none. s.apart c (fine_low width v x (omega arith) below) refl (finds.none c none))

    plain_lawful : Lawful settled (plain_tree held width) (whole width)
    plain_lawful = lawful_from width 0 0 (omega arith) (pow_pos 0)

  -- ---- the same tree for each rule

  same : ℕ → Tree → List Tree
  same zero tree = []
  same (suc k) tree = tree ∷ same k tree

  same_many : (k : ℕ) (tree : Tree) → length (same k tree) ≡ k
  unfolding same
  same_many zero tree = refl
  same_many (suc k) tree = ap suc (same_many k tree)

  same_written : (k : ℕ) (tree : Tree) → copies k (preorder tree) ≡ flat_map preorder (same k tree)
  unfolding same
  same_written zero tree = refl
  same_written (suc k) tree = ap (λ z. preorder tree ++ z) (same_written k tree)

  module _ (settles : ℕ → PartialState → Bool) where
    same_lawful : (k rule : ℕ) → ((i : ℕ) → i < rule + k → Settles width has (settles i)) → LawfulEach settles rule (same k (plain_tree held width)) (whole width)
    unfolding same
    same_lawful zero rule all = tt
    same_lawful (suc k) rule all = (plain_lawful (settles rule) (all rule (omega arith)), same_lawful k (suc rule) (λ i h. all i (omega arith)))

    pub plain_proves : (count : ℕ) → ((i : ℕ) → i < count → Settles width has (settles i)) → Proves settles (plain_body held width count) (whole width) count
    plain_proves count all = record {
      trees = same count (plain_tree held width);
      number = same_many count (plain_tree held width);
      lawful = same_lawful count 0 (λ i h. all i (omega (arith, h)));
      reads = same_written count (plain_tree held width);
    }
