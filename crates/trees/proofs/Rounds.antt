-- One tree after another.
use Rattle.std.proofs.Common.{◌≡◌, ℕ, suc, ◌+◌, ◌-◌, ◌<◌, Bool, List, Ok, Err, Result, sym, ap, ◌∙◌, arith}
use Rattle.logic.specs.Partial.{PartialState, free_count}
use Rattle.trees.specs.declared.fault.TreeFault.{TreeFault}
use Rattle.records.specs.Single.{and_then}
use Rattle.trees.specs.Check.{tree_at, trees_from}

module _ (settles : ℕ → PartialState → Bool) (body : List ℕ) (c : PartialState) (count rule at : ℕ) (whole : Result (Unit {0}) TreeFault) (inv : trees_from settles body c (count - rule) rule at ≡ whole) where
  module _ (h : rule < count) where
    on : whole ≡ and_then (tree_at (settles rule) body (free_count c) at c) (trees_from settles body c (count - (rule + 1)) (rule + 1))
    on =
        let left : count - rule ≡ suc (count - (rule + 1)) = omega arith in
        let next : suc rule ≡ rule + 1 = omega arith in
        sym inv ∙ ap (λ k. trees_from settles body c k rule at) left
        ∙ ap (λ n. and_then (tree_at (settles rule) body (free_count c) at c) (trees_from settles body c (count - (rule + 1)) n)) next

    pub round_fails : (e y : TreeFault) (r : Result (Unit {0}) TreeFault) → tree_at (settles rule) body (free_count c) at c ≡ Err e → r ≡ Err y → y ≡ e → r ≡ whole
    round_fails e y r was is same = is ∙ ap Err same ∙ sym (on ∙ ap (λ q. and_then q (trees_from settles body c (count - (rule + 1)) (rule + 1))) was)

    pub round_goes : (m : ℕ) → tree_at (settles rule) body (free_count c) at c ≡ Ok m → trees_from settles body c (count - (rule + 1)) (rule + 1) m ≡ whole
    round_goes m was = sym (on ∙ ap (λ q. and_then q (trees_from settles body c (count - (rule + 1)) (rule + 1))) was)
