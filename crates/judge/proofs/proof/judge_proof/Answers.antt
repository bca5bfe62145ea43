use Rattle.std.proofs.Common.{◌≤◌, subst, arith}
use Rattle.logic.specs.Partial.{whole}
use Rattle.logic.proofs.Halves.{fine_whole}
use Rattle.sets.specs.Sets.{Laws}
use Rattle.task.specs.Held.{model}
use Rattle.task.proofs.Rules.{well_formed}
use Rattle.trees.proofs.Covered.{proof_covers}
use Rattle.judge.specs.Lists.{plain_of}
use Rattle.judge.specs.Plain.{plain_body}
use Rattle.judge.specs.Rules.{settles}
use Rattle.judge.specs.Verdict.{tree_count}
use Rattle.judge.proofs.Completely.{plain_accepted}
use Rattle.judge.proofs.Judged.{paper_accepted, accepted_exactly}
use Rattle.judge.proofs.Listed.{list_accepted, list_plain}
use Rattle.judge.proofs.Soundly.{proof_shows}
use Rattle.judge.proofs.proof.judge_proof.Goals as goal

pub returns : goal.returns
returns g c =
    let t = c.args.task.now in
    let m = model t in
    let set = c.args.set.now in
    let wide = g.S.StateSet.wide set in
    let has = g.S.StateSet.has set in
    let ask = g.S.StateSet.answer set in
    let laws : Laws wide has ask = g.S.StateSet.meant set in
    let paper = c.args.paper.now in
    let r = c.proof_verdict.result in
    let narrow : m.variables ≤ 255 = omega (arith, t.width) in
    let exactly = accepted_exactly m ask narrow paper r c.proof_verdict.ensures (λ i. (c.type_inv.paper i).fits) in
    record {
      verdict = c.proof_verdict.ensures;
      exact = exactly;
      sound = λ e.
          let a = exactly.0 e in
          proof_shows wide has ask laws m (well_formed t) a.start (proof_covers (settles ask m) (whole m.variables) (fine_whole m.variables) a.body (tree_count m) a.trees);
      complete = λ none same reach empty held finds written.
          paper_accepted m ask narrow paper r c.proof_verdict.ensures (plain_body held m.variables (tree_count m)) written
          (plain_accepted m (well_formed t) has ask (subst (λ w. Laws w has ask) same laws) none reach empty narrow held finds);
      lists = λ none bs rises reach same written.
          paper_accepted m ask narrow paper r c.proof_verdict.ensures (plain_of m bs) written (list_accepted m (well_formed t) narrow none bs rises reach ask same);
      plain = list_plain;
    }
