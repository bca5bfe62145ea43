-- Proof trees: how they are written, and which are lawful.
use Rattle.std.specs.Prelude.{◌≡◌, ℕ, suc, Bool, true, List, [], ◌∷◌, ◌++◌, length}
use Rattle.std.specs.List.{flat_map}
use Rattle.logic.specs.Partial.{PartialState, is_free, lower, upper}

-- a split has its variable, the branch where that is false, and the branch where it is true
pub data Tree : Type 0 where
  leaf : Tree
  split : ℕ → Tree → Tree → Tree

-- how a tree is written: a leaf is the byte 255, and a split stands before its branches
abbrev pub preorder : Tree → List ℕ
preorder leaf = 255 ∷ []
preorder (split v low high) = v ∷ (preorder low ++ preorder high)

-- each split of the tree of a cube is on a variable that is free there, and each leaf's cube is settled
abbrev pub Lawful : (PartialState → Bool) → Tree → PartialState → Type 0
Lawful settled leaf c = settled c ≡ true
Lawful settled (split v low high) c = (is_free c v ≡ true) × Lawful settled low (lower c v) × Lawful settled high (upper c v)

-- the first of the trees is lawful by the rule i, the next by the rule after it, and so on
abbrev pub LawfulEach : (ℕ → PartialState → Bool) → ℕ → List Tree → PartialState → Type 0
LawfulEach settles i [] c = Unit {0}
LawfulEach settles i (tree ∷ trees) c = Lawful (settles i) tree c × LawfulEach settles (suc i) trees c

-- the body is a lawful tree of the cube c for each rule below `count`, written one after another, and no more
pub record Proves (settles : ℕ → PartialState → Bool) (body : List ℕ) (c : PartialState) (count : ℕ) : Type 0 where
  pub trees : List Tree
  pub number : length trees ≡ count
  pub lawful : LawfulEach settles 0 trees c
  pub reads : body ≡ flat_map preorder trees
