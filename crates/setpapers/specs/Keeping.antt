-- What a reader keeps keeps the rules, whatever the paper.
use Rattle.std.specs.Prelude.{◌≡◌, ℕ, Bool, true, List, [], Ok, Err, Result, refl}
use Rattle.std.proofs.Common.{sym, subst}
use Rattle.records.specs.declared.PaperKind.{PaperKind}
use Rattle.records.specs.declared.RecordFault.{RecordFault}
use Rattle.records.specs.Single.{and_then, single_in}
use Rattle.records.specs.Walks.{map_err}
use Rattle.setpapers.specs.declared.fault.SetFault.{SetFault}
use Rattle.setpapers.specs.declared.fault.SetFault.TheVariants.{Record}
use Rattle.setpapers.specs.Papers.{accepted, body_in, kept}
use Rattle.setpapers.specs.Rows.{all, all_none, verdict}
use Rattle.setpapers.specs.Verdicts.{verdict_ok}

module _ (kind : PaperKind) (least : ℕ) (p : List ℕ → ℕ → Bool) (count : List ℕ → ℕ) (empty : count [] ≡ 0) where
  -- of the bytes that are kept, each entry passes
  abbrev passes : Result (List ℕ) SetFault → Type 0
  passes r = all (p (kept r)) (count (kept r)) ≡ true

  none_pass : (e : SetFault) → passes (Err e)
  none_pass e = subst (λ n. all (p []) n ≡ true) (sym empty) (all_none (p []))

  accepted_pass : (body : List ℕ) (v : Result (Unit {0}) SetFault) → verdict least (p body) (count body) ≡ v → passes (accepted body v)
  accepted_pass body (Ok x) e = (verdict_ok (p body) least (count body) e).1
  accepted_pass body (Err x) e = none_pass x

  single_pass : (s : Result (List ℕ) RecordFault) → passes (and_then (map_err Record s) (λ body. accepted body (verdict least (p body) (count body))))
  single_pass (Ok body) = accepted_pass body (verdict least (p body) (count body)) refl
  single_pass (Err f) = none_pass (Record f)

  pub kept_pass : (paper : List ℕ) → all (p (kept (body_in kind (λ bs. verdict least (p bs) (count bs)) paper))) (count (kept (body_in kind (λ bs. verdict least (p bs) (count bs)) paper))) ≡ true
  kept_pass paper = single_pass (single_in kind paper)
