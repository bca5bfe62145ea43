-- A leaf's cube knows exactly the splits above it.
use Rattle.std.specs.Prelude.{◌≡◌, ℕ, Bool, true, false, ◌||◌, List, [], ◌∷◌, ◌==◌}
use Rattle.logic.specs.Bit.{bit}
use Rattle.logic.specs.Partial.{PartialState, cube_of}
use Rattle.trees.specs.Tree.{Tree, leaf, split, Lawful}

-- a branch taken: the variable of the split, as false or as true
pub data Turn : Type 0 where
  off : ℕ → Turn
  on : ℕ → Turn

-- the turns lead from the root to a leaf
pub data LeafAt : Tree → List Turn → Type 0 where
  here : LeafAt leaf []
  in_low : {v : ℕ} {low high : Tree} {path : List Turn} → LeafAt low path → LeafAt (split v low high) (off v ∷ path)
  in_high : {v : ℕ} {low high : Tree} {path : List Turn} → LeafAt high path → LeafAt (split v low high) (on v ∷ path)

-- u is the variable of one of the turns; and is taken as true there
abbrev pub split_on : ℕ → List Turn → Bool
split_on u [] = false
split_on u (off v ∷ path) = u == v || split_on u path
split_on u (on v ∷ path) = u == v || split_on u path

abbrev pub true_on : ℕ → List Turn → Bool
true_on u [] = false
true_on u (off v ∷ path) = true_on u path
true_on u (on v ∷ path) = u == v || true_on u path

-- a settled cube that knows what c knows and the variables split on the path, with their values there, and no more
pub record LeafSettled (settled : PartialState → Bool) (c : PartialState) (path : List Turn) : Type 0 where
  pub known : ℕ
  pub value : ℕ
  pub knows : (u : ℕ) → bit u known ≡ (bit u c.known || split_on u path)
  pub values : (u : ℕ) → bit u value ≡ (bit u c.value || true_on u path)
  pub good : settled (cube_of c.width known value) ≡ true

-- each leaf of each lawful tree of c has such a cube
abbrev pub LeavesKnow : PartialState → Type 0
LeavesKnow c = (settled : PartialState → Bool) (tree : Tree) → Lawful settled tree c → (path : List Turn) → LeafAt tree path → LeafSettled settled c path
