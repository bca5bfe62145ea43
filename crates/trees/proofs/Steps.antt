-- What the byte at hand makes of a tree.
use Rattle.std.proofs.Common.{◌≡◌, ℕ, ◌+◌, ◌<◌, ◌≤◌, Bool, true, false, cond, eqb, List, length, get_or, Ok, Err, Result, sym, refl, ap, ◌∙◌}
use Rattle.std.proofs.lemmas.Bool.{cond-true, cond-false, lt-ltb, le-ltb, eq-eqb, ne_eqb}
use Rattle.trees.specs.declared.fault.TreeFault.{TreeFault}
use Rattle.trees.specs.declared.fault.TreeFault.TheVariants.{BadByte, Unsettled}
use Rattle.logic.specs.Partial.{PartialState, Fine, is_free, free_count, lower, upper}
use Rattle.records.specs.Single.{and_then}
use Rattle.trees.specs.Check.{node_at, halves_at, tree_at}
use Rattle.logic.proofs.Halves.{fewer}

module _ (settled : PartialState → Bool) (body : List ℕ) (at : ℕ) (c : PartialState) where
  pub tree_ends : (free : ℕ) → length body ≤ at → tree_at settled body free at c ≡ Err (BadByte at)
  tree_ends free h = cond-false _ _ _ (le-ltb at (length body) h)

  module _ (b : ℕ) (h : at < length body) (is : b ≡ get_or body at 0) where
    inside : (halves : Result ℕ TreeFault) → node_at settled body at c halves ≡ cond (eqb b 255) (cond (settled c) (Ok (at + 1)) (Err (Unsettled at))) (cond (is_free c b) halves (Err (BadByte at)))
    inside halves = rw is (cond-true _ _ _ (lt-ltb at (length body) h))

    pub tree_leaf : (free : ℕ) (s : Bool) → b ≡ 255 → s ≡ settled c → tree_at settled body free at c ≡ cond s (Ok (at + 1)) (Err (Unsettled at))
    tree_leaf free s leaf e = inside _ ∙ cond-true _ _ _ (eq-eqb b 255 leaf) ∙ ap (λ t. cond t (Ok (at + 1)) (Err (Unsettled at))) (sym e)

    pub tree_bad : (free : ℕ) → (b ≡ 255 → ⊥) → is_free c b ≡ false → tree_at settled body free at c ≡ Err (BadByte at)
    tree_bad free leaf bad = inside _ ∙ cond-false _ _ _ (ne_eqb b 255 leaf) ∙ cond-false _ _ _ bad

    pub tree_split : Fine c → (b ≡ 255 → ⊥) → is_free c b ≡ true → tree_at settled body (free_count c) at c ≡ and_then (tree_at settled body (free_count (lower c b)) (at + 1) (lower c b)) (λ middle. tree_at settled body (free_count (upper c b)) middle (upper c b))
    unfolding halves_at
    tree_split fine leaf good = ap (λ f. tree_at settled body f at c) (fewer c b fine good) ∙ inside _ ∙ cond-false _ _ _ (ne_eqb b 255 leaf) ∙ cond-true _ _ _ good ∙ rw is refl

    module _ (fine : Fine c) (inner : b ≡ 255 → ⊥) (good : is_free c b ≡ true) (low : PartialState) (islow : low ≡ lower c b) (first : Result ℕ TreeFault) (told : first ≡ tree_at settled body (free_count low) (at + 1) low) where
      -- what the second half is asked, from what the first half said
      after : tree_at settled body (free_count c) at c ≡ and_then first (λ middle. tree_at settled body (free_count (upper c b)) middle (upper c b))
      after = tree_split fine inner good ∙ ap (λ r. and_then r (λ middle. tree_at settled body (free_count (upper c b)) middle (upper c b))) (sym (told ∙ ap (λ k. tree_at settled body (free_count k) (at + 1) k) islow))

      pub tree_fails : (e x : TreeFault) (r : Result ℕ TreeFault) → first ≡ Err e → r ≡ Err x → x ≡ e → r ≡ tree_at settled body (free_count c) at c
      tree_fails e x r was is' same = is' ∙ ap Err same ∙ sym (after ∙ ap (λ q. and_then q (λ middle. tree_at settled body (free_count (upper c b)) middle (upper c b))) was)

      pub tree_goes : (high : PartialState) (m : ℕ) (r : Result ℕ TreeFault) → first ≡ Ok m → high ≡ upper c b → r ≡ tree_at settled body (free_count high) m high → r ≡ tree_at settled body (free_count c) at c
      tree_goes high m r was ishigh then' = then' ∙ ap (λ k. tree_at settled body (free_count k) m k) ishigh ∙ sym (after ∙ ap (λ q. and_then q (λ middle. tree_at settled body (free_count (upper c b)) middle (upper c b))) was)
