-- What the cube of a leaf knows.
use Rattle.std.proofs.Common.{◌≡◌, ℕ, ◌^◌, Bool, true, false, ◌||◌, eqb, List, sym, refl, ap, ◌∙◌}
use lib.Bits.{bit_or}
use Rattle.logic.specs.Partial.{PartialState, lower, upper}
use Rattle.trees.specs.Tree.{Tree, Lawful}
use Rattle.logic.specs.Bit.{bit}
use Rattle.logic.specs.BitLaws.{bit-bit_or, bit_power}
use Rattle.trees.specs.Leaves.{Turn, LeafAt, here, in_low, in_high, split_on, true_on, LeafSettled, LeavesKnow}

or_false : (a : Bool) → (a || false) ≡ a
or_false true = refl
or_false false = refl

or_assoc : (a b c : Bool) → ((a || b) || c) ≡ (a || (b || c))
or_assoc true b c = refl
or_assoc false b c = refl

-- one bit more
bit_more : (u k v : ℕ) (rest : Bool) → (bit u (bit_or k (2 ^ v)) || rest) ≡ (bit u k || (eqb u v || rest))
bit_more u k v rest = ap (λ b. b || rest) (bit-bit_or u k (2 ^ v) ∙ ap (λ b. bit u k || b) (bit_power u v)) ∙ or_assoc (bit u k) (eqb u v) rest

leaf_from : (settled : PartialState → Bool) {tree : Tree} {path : List Turn} (c : PartialState) → LeafAt tree path → Lawful settled tree c → LeafSettled settled c path
leaf_from settled c here good = record { known = c.known; value = c.value; knows = λ u. sym (or_false (bit u c.known)); values = λ u. sym (or_false (bit u c.value)); good = good }
leaf_from settled c (in_low {v} {low} {high} {path} at) good =
    let l = leaf_from settled (lower c v) at good.1 in
    record { known = l.known; value = l.value; knows = λ u. l.knows u ∙ bit_more u c.known v (split_on u path); values = l.values; good = l.good }
leaf_from settled c (in_high {v} {low} {high} {path} at) good =
    let l = leaf_from settled (upper c v) at good.2 in
    record { known = l.known; value = l.value; knows = λ u. l.knows u ∙ bit_more u c.known v (split_on u path); values = λ u. l.values u ∙ bit_more u c.value v (true_on u path); good = l.good }

pub leaves_know : (c : PartialState) → LeavesKnow c
leaves_know c settled tree good path at = leaf_from settled c at good
