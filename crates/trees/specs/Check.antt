-- The check of trees, over the list of their bytes.
use Rattle.std.specs.Prelude.{ℕ, zero, suc, ◌+◌, Bool, cond, List, length, Ok, Err, Result, ◌==◌, nat_lt, slice_index}
use Rattle.records.specs.Single.{and_then}
use Rattle.logic.specs.Partial.{PartialState, is_free, lower, upper, free_count}
use Rattle.trees.specs.declared.fault.TreeFault.{TreeFault}
use Rattle.trees.specs.declared.fault.TreeFault.TheVariants.{BadByte, Unsettled, Trailing}

-- what the byte at `at` says: the end of the bytes, a leaf, a split by `halves`, or nothing
abbrev pub node_at : (PartialState → Bool) → List ℕ → ℕ → PartialState → Result ℕ TreeFault → Result ℕ TreeFault
node_at settled body at c halves =
    cond (nat_lt at (length body))
    (cond (slice_index body at == 255)
    (cond (settled c) (Ok (at + 1)) (Err (Unsettled at)))
    (cond (is_free c (slice_index body at)) halves (Err (BadByte at))))
    (Err (BadByte at))

-- the two halves of a tree that splits at `at`, of a cube with so many free variables
unfoldable pub halves_at : (PartialState → Bool) → List ℕ → ℕ → ℕ → PartialState → Result ℕ TreeFault
halves_at settled body zero at c = Err (BadByte at)
halves_at settled body (suc free) at c =
    let low = lower c (slice_index body at) in
    let high = upper c (slice_index body at) in
    and_then (node_at settled body (at + 1) low (halves_at settled body free (at + 1) low))
    (λ middle. node_at settled body middle high (halves_at settled body free middle high))

-- where the tree at `at` ends
abbrev pub tree_at : (PartialState → Bool) → List ℕ → ℕ → ℕ → PartialState → Result ℕ TreeFault
tree_at settled body free at c = node_at settled body at c (halves_at settled body free at c)

-- a tree of the cube c for each of so many rules from `rule` on, one after another, and then the end
abbrev pub trees_from : (ℕ → PartialState → Bool) → List ℕ → PartialState → ℕ → ℕ → ℕ → Result (Unit {0}) TreeFault
trees_from settles body c zero rule at = cond (nat_lt at (length body)) (Err (Trailing at)) (Ok tt)
trees_from settles body c (suc left) rule at = and_then (tree_at (settles rule) body (free_count c) at c) (trees_from settles body c left (suc rule))

abbrev pub body_verdict : (ℕ → PartialState → Bool) → List ℕ → PartialState → ℕ → Result (Unit {0}) TreeFault
body_verdict settles body c count = trees_from settles body c count 0 0
