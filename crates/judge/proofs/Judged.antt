-- From the answers of the parts to the verdict, and what is accepted.
use Rattle.std.proofs.Common.{◌≡◌, ℕ, ◌<◌, ◌≤◌, Bool, true, false, cond, ◌↔◌, List, get_or, Ok, Err, Result, sym, refl, ap, ◌∙◌, arith}
use Rattle.std.proofs.lemmas.Bool.{cond-true}
use Rattle.records.specs.declared.PaperKind.TheVariants.{Proof}
use Rattle.records.specs.declared.RecordFault.{RecordFault}
use Rattle.records.specs.Papers.{Holds}
use Rattle.records.specs.Single.{and_then, single_in}
use Rattle.records.specs.Walks.{map_err}
use Rattle.records.proofs.Written.{single_holds, holds_single}
use Rattle.logic.specs.Allowed.{sure_is}
use Rattle.logic.specs.Kleene.{sure}
use Rattle.logic.specs.Partial.{PartialState, whole}
use Rattle.logic.proofs.Halves.{fine_whole}
use Rattle.logic.specs.declared.truth.Truth.{Truth}
use Rattle.logic.specs.declared.truth.Truth.TheVariants.{True as Inside}
use Rattle.trees.specs.declared.fault.TreeFault.{TreeFault}
use Rattle.trees.specs.Check.{body_verdict}
use Rattle.trees.specs.Tree.{Proves}
use Rattle.trees.proofs.Exactly.{exact_body}
use Rattle.planning.specs.Model.{Model}
use Rattle.judge.specs.declared.fault.ProofFault.{ProofFault}
use Rattle.judge.specs.declared.fault.ProofFault.TheVariants.{Record, StartNotInside, Tree}
use Rattle.judge.specs.Rules.{settles}
use Rattle.judge.specs.Verdict.{start_answer, tree_count, body_judged, proof_verdict, Accepted}

-- ---- step by step

module _ (m : Model) (ask : PartialState → Truth) (paper body : List ℕ) (q : Result (List ℕ) RecordFault) (read : q ≡ single_in Proof paper) (is : q ≡ Ok body) where
  on : proof_verdict m ask paper ≡ body_judged m ask body
  on = ap (λ r. and_then (map_err Record r) (body_judged m ask)) (sym read ∙ is)

  module _ (a : Bool) (said : a ≡ sure (start_answer m ask)) where
    module _ (inside : a ≡ true) (space : PartialState) (all : space ≡ whole m.variables) (count : ℕ) (number : count ≡ tree_count m) (t : Result (Unit {0}) TreeFault) (told : t ≡ body_verdict (settles ask m) body space count) where
      trees_on : proof_verdict m ask paper ≡ map_err Tree t
      trees_on =
          on ∙ cond-true _ _ _ (sym said ∙ inside)
          ∙ ap (map_err Tree) (sym (told ∙ ap (λ c. body_verdict (settles ask m) body c count) all ∙ ap (body_verdict (settles ask m) body (whole m.variables)) number))

      pub trees_refused : (e : TreeFault) (x : ProofFault) (r : Result (Unit {0}) ProofFault) → t ≡ Err e → r ≡ Err x → x ≡ Tree e → r ≡ proof_verdict m ask paper
      trees_refused e x r was is' same = is' ∙ ap Err same ∙ sym (trees_on ∙ ap (map_err Tree) was)

      pub trees_passed : t ≡ Ok tt → Ok tt ≡ proof_verdict m ask paper
      trees_passed was = sym (trees_on ∙ ap (map_err Tree) was)

-- ---- accepted

never : {A X : Type 0} (u : ProofFault) (x : X) → ◌≡◌ {A = Result X ProofFault} (Err u) (Ok x) → A
never u x e = let z : ◌≡◌ {A = ℕ} 0 1 = cc in absurd (omega arith)

read_ok : (q : Result (List ℕ) RecordFault) (f : List ℕ → Result (Unit {0}) ProofFault) → and_then (map_err Record q) f ≡ Ok tt → (body : List ℕ) × (q ≡ Ok body) × (f body ≡ Ok tt)
read_ok (Ok body) f e = (body, refl, e)
read_ok (Err u) f e = never (Record u) tt e

started : (b : Bool) (r : Result (Unit {0}) ProofFault) → cond b r (Err StartNotInside) ≡ Ok tt → (b ≡ true) × (r ≡ Ok tt)
started true r e = (refl, e)
started false r e = never StartNotInside tt e

unmapped : (t : Result (Unit {0}) TreeFault) → map_err Tree t ≡ Ok tt → t ≡ Ok tt
unmapped (Ok x) e = refl
unmapped (Err u) e = never (Tree u) tt e

module _ (m : Model) (ask : PartialState → Truth) (narrow : m.variables ≤ 255) where
  -- a body that is lawful trees, with the start inside
  pub body_accepted : (body : List ℕ) → start_answer m ask ≡ Inside → Proves (settles ask m) body (whole m.variables) (tree_count m) → body_judged m ask body ≡ Ok tt
  body_accepted body start trees =
      cond-true _ _ _ (ap sure start)
      ∙ ap (map_err Tree) ((exact_body (settles ask m) body (whole m.variables) (fine_whole m.variables) narrow (tree_count m)).1 trees)

  module _ (paper : List ℕ) (r : Result (Unit {0}) ProofFault) (is : r ≡ proof_verdict m ask paper) where
    pub paper_accepted : (body : List ℕ) → Holds Proof body paper → body_judged m ask body ≡ Ok tt → r ≡ Ok tt
    paper_accepted body h e = is ∙ ap (λ q. and_then (map_err Record q) (body_judged m ask)) (holds_single Proof paper body h) ∙ e

    pub accepted_exactly : ((i : ℕ) → get_or paper i 0 < 256) → (r ≡ Ok tt) ↔ Accepted m ask paper
    accepted_exactly bytes = (
      λ e.
          let p = read_ok (single_in Proof paper) (body_judged m ask) (sym is ∙ e) in
          let s = started (sure (start_answer m ask)) _ p.2 in
          record {
            body = p.0;
            written = single_holds Proof paper bytes p.0 p.1;
            start = sure_is (start_answer m ask) s.0;
            trees = (exact_body (settles ask m) p.0 (whole m.variables) (fine_whole m.variables) narrow (tree_count m)).0 (unmapped _ s.1);
          },
      λ a. paper_accepted a.body a.written (body_accepted a.body a.start a.trees),
    )
