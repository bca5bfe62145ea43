-- A node of a formula is judged after those before it.
use Rattle.std.proofs.Common.{◌≡◌, ℕ, ◌+◌, ◌<◌, Bool, true, false, ◌&&◌, not, List, length, Some, None, sym, refl, ap, ◌∙◌, subst, arith}
use Rattle.std.proofs.lemmas.Bool.{and_parts, both_ways}
use Rattle.formulas.specs.declared.node.Node.{Node}
use Rattle.formulas.specs.Decode.{ordered}
use Rattle.formulas.specs.Marks.{Marks, Claimed}
use Rattle.formulas.specs.Names.{Each, children, clash, claimed}
use Rattle.formulas.specs.Sorts.{formula_node}
use Rattle.formulas.specs.Written.{entry_in}
use Rattle.setpapers.specs.Diagrams.{entries}
use Rattle.setpapers.specs.Following.{Follows, Judges}
use Rattle.setpapers.specs.FormulaSets.{decoded_at, node_or, node_at, named_by, fits, lawful_node, lawful_at}
use Rattle.setpapers.specs.Naming.{children_below, named_more}
use Rattle.setpapers.specs.Tabled.{bytes_at, length_table}
use Rattle.setpapers.proofs.Chunks.{node_bytes}

module _ (bs : List ℕ) (i : ℕ) (before : List (List ℕ)) (bytes : List ℕ) (f : Follows (bytes_at 5 bs) (entries bs) i before bytes) (w : ℕ) where
  place : length before ≡ i
  place = ap length f.firsts ∙ length_table (bytes_at 5 bs) i

  written_is : decoded_at bs i ≡ entry_in bytes
  written_is = sym (ap entry_in f.here ∙ node_bytes bs i)

  -- a node that may stand there, whose names are claimed
  pub node_claimed : (N : Node) (after : List Bool) (r : Bool) → entry_in bytes ≡ Some N → fits w (length before) N ≡ true
      → (Each (λ c. c < 1024) (children N) → Claimed after (children N) r (named_by (node_at bs) i)) → Judges (lawful_at w bs i) r (Marks after (named_by (node_at bs) (i + 1)))
  node_claimed N after r is fit claims =
      let ns = named_by (node_at bs) i in
      let there : decoded_at bs i ≡ Some N = written_is ∙ is in
      let fits_here : fits w i N ≡ true = ap (λ n. fits w n N) (sym place) ∙ fit in
      let c = claims (children_below w i N (omega (arith, f.few, f.inside)) (and_parts (formula_node N) (ordered w i N) fits_here).1) in
      record {
        tested = c.fresh ∙ ap (λ b. b && not (clash ns (children N))) (sym fits_here) ∙ ap (lawful_node w i ns) (sym there);
        remembered = λ yes. subst (Marks after) (ap (λ o. claimed ns (children (node_or o))) (sym there) ∙ named_more (node_at bs) i) (c.marks yes);
      }

  -- a node that may not
  pub node_refused : (N : Node) (r : Bool) → entry_in bytes ≡ Some N → r ≡ false → r ≡ fits w (length before) N → (R : Type 0) → Judges (lawful_at w bs i) r R
  node_refused N r is stays test R =
      let ns = named_by (node_at bs) i in
      record {
        tested = stays ∙ ap (λ b. b && not (clash ns (children N))) (sym stays ∙ test ∙ ap (λ n. fits w n N) place) ∙ ap (lawful_node w i ns) (sym (written_is ∙ is));
        remembered = λ yes. absurd (both_ways _ stays yes);
      }

  -- bytes that write no node
  pub node_missing : entry_in bytes ≡ None → (R : Type 0) → Judges (lawful_at w bs i) false R
  node_missing is R = record {
    tested = ap (lawful_node w i (named_by (node_at bs) i)) (sym (written_is ∙ is));
    remembered = λ yes. absurd (both_ways _ refl yes);
  }
