-- The plain proof of a set of states.
use Rattle.std.specs.Prelude.{◌≡◌, ℕ, zero, suc, ◌<◌, Bool, true, false, cond, ◌⊎◌, ◌↔◌, List, [], ◌++◌}
use Rattle.logic.specs.Partial.{PartialState, Holds, whole, is_free, lower, upper}
use Rattle.trees.specs.Tree.{Tree, leaf, split, preorder}

-- the plain tree of a cube whose free variables are the `left` ones from v up, where `held` says whether a cube holds a state of the set:
-- it splits v while the cube does
abbrev pub plain_from : (PartialState → Bool) → ℕ → ℕ → PartialState → Tree
plain_from held zero v c = leaf
plain_from held (suc left) v c = cond (held c) (split v (plain_from held left (suc v) (lower c v)) (plain_from held left (suc v) (upper c v))) leaf

abbrev pub plain_tree : (PartialState → Bool) → ℕ → Tree
plain_tree held width = plain_from held width 0 (whole width)

abbrev pub copies : ℕ → List ℕ → List ℕ
copies zero bytes = []
copies (suc k) bytes = bytes ++ copies k bytes

-- the body of the plain proof: the plain tree, so many times
abbrev pub plain_body : (PartialState → Bool) → ℕ → ℕ → List ℕ
plain_body held width count = copies count (preorder (plain_tree held width))

-- held says which cubes hold a state of the set
pub record Finds (has : ℕ → Bool) (held : PartialState → Bool) : Type 0 where
  pub some : (c : PartialState) → held c ≡ true → (s : ℕ) × (has s ≡ true) × Holds c s
  pub none : (c : PartialState) → held c ≡ false → (s : ℕ) → has s ≡ true → Holds c s → ⊥

-- a leaf's cube holds no state of the set or is total; any other is split on its lowest free variable
abbrev pub IsPlain : (ℕ → Bool) → Tree → PartialState → Type 0
IsPlain has leaf c = ((s : ℕ) → has s ≡ true → Holds c s → ⊥) ⊎ ((v : ℕ) → is_free c v ≡ false)
IsPlain has (split v low high) c =
    (is_free c v ≡ true) × ((u : ℕ) → u < v → is_free c u ≡ false) × ((s : ℕ) × (has s ≡ true) × Holds c s) × IsPlain has low (lower c v) × IsPlain has high (upper c v)

-- the plain tree is the one such tree of all states
abbrev pub PlainIsPlain : (ℕ → Bool) → (PartialState → Bool) → Type 0
PlainIsPlain has held = (width : ℕ) (tree : Tree) → IsPlain has tree (whole width) ↔ (tree ≡ plain_tree held width)
