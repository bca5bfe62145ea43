-- The nodes of a formula's bytes, and its root.
use Rattle.std.proofs.Common.{◌≡◌, length, ℕ, zero, suc, ◌-◌, ◌<◌, ◌≤◌, List, get_or, sym, refl, ap, ◌∙◌, arith}
use Rattle.std.proofs.lemmas.List.{get_or_past}
use Rattle.logic.specs.declared.truth.Truth.{Truth}
use Rattle.logic.specs.declared.truth.Truth.TheVariants.{False as Untrue}
use Rattle.formulas.specs.declared.node.Node.{Node}
use Rattle.formulas.specs.declared.node.Node.TheVariants.{False}
use Rattle.formulas.specs.Decode.{formula_at}
use Rattle.formulas.specs.Formula.{kleene}
use Rattle.formulas.specs.Written.{entry_in}
use Rattle.setpapers.proofs.Chunks.{node_bytes}
use Rattle.setpapers.proofs.Firsts.{row_count}
use Rattle.std.specs.Prelude.{unwrap_or}
use Rattle.setpapers.specs.Diagrams.{entries}
use Rattle.setpapers.specs.Tabled.{table, bytes_at, length_table, get_or_table}
use Rattle.setpapers.specs.FormulaSets.{node_at, nodes_in, root_to, formula_of}

module _ (bs : List ℕ) (i : ℕ) where
  pub node_there : i < entries bs → node_at bs i ≡ get_or (nodes_in bs) i False
  node_there h = sym (get_or_table (node_at bs) (entries bs) i False h)

  pub node_beyond : entries bs ≤ i → False ≡ get_or (nodes_in bs) i False
  node_beyond h = sym (get_or_past (nodes_in bs) i False (omega (arith, length_table (node_at bs) (entries bs))))

-- the node that an entry's bytes write
pub node_read : (bs : List ℕ) (i : ℕ) (rows : List (List ℕ)) → rows ≡ table (bytes_at 5 bs) (entries bs) → (bytes : List ℕ) → i < length rows → bytes ≡ get_or rows i bytes → unwrap_or (entry_in bytes) False ≡ get_or (nodes_in bs) i False
node_read bs i rows is bytes below got =
    let inside : i < entries bs = omega (arith, below, row_count (bytes_at 5 bs) (entries bs) rows is) in
    let row : bytes ≡ bytes_at 5 bs i = got ∙ ap (λ xs. get_or xs i bytes) is ∙ get_or_table (bytes_at 5 bs) (entries bs) i bytes inside in
    ap (λ o. unwrap_or o False) (ap entry_in row ∙ node_bytes bs i) ∙ node_there bs i inside

-- where there is no entry, the formula that is false
pub node_missing : (bs : List ℕ) (i : ℕ) (rows : List (List ℕ)) → rows ≡ table (bytes_at 5 bs) (entries bs) → length rows ≤ i → False ≡ get_or (nodes_in bs) i False
node_missing bs i rows is past = node_beyond bs i (omega (arith, past, row_count (bytes_at 5 bs) (entries bs) rows is))

root_last : (nodes : List Node) (n : ℕ) → (n ≡ 0 → ⊥) → formula_at nodes (n - 1) ≡ root_to nodes n
root_last nodes zero h = absurd (h refl)
root_last nodes (suc n) h = let e : suc n - 1 ≡ n = omega arith in ap (formula_at nodes) e

module _ (bs : List ℕ) (ρ : ℕ → Truth) where
  pub at_root : (n : ℕ) → n ≡ entries bs → (n ≡ 0 → ⊥) → (τ : Truth) → τ ≡ kleene ρ (formula_at (nodes_in bs) (n - 1)) → τ ≡ kleene ρ (formula_of bs)
  at_root n so_many some τ is = is ∙ ap (kleene ρ) (root_last (nodes_in bs) n some ∙ ap (root_to (nodes_in bs)) so_many)

  -- with no node, nothing is in
  pub at_none : entries bs ≡ 0 → Untrue ≡ kleene ρ (formula_of bs)
  at_none none = ap (λ n. kleene ρ (root_to (nodes_in bs) n)) (sym none)
