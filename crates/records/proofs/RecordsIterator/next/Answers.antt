use Rattle.std.proofs.Common.{◌≡◌, ◌+◌, ◌<◌, ◌++◌, length, drop, sym, refl, ap, ◌∙◌, arith}
use Rattle.std.proofs.lemmas.List.{take_rest, drop-drop, drop_at}
use Rattle.std.proofs.Math.Seq.{drop-append-add}
use Rattle.records.specs.Cuts.{split, cut_at}
use Rattle.records.specs.Papers.{head_of}
use Rattle.records.specs.Walks.{left_in}
use Rattle.records.proofs.RecordsIterator.next.Goals as goal

pub returns-in-Ok-clause-steps : goal.returns-in-Ok-clause-steps
returns-in-Ok-clause-steps c =
    let w = c.args.self.now in
    let cut = c.in-Ok.record in
    let size = length cut.body.now in
    let is : c.in_ok-bytes.bytes.now ≡ left_in w = c.in_ok-bytes.ensures.lookup.0.2 ∙ take_rest w.paper.now w.at in
    let some : 0 < length (left_in w) = omega (arith, ap length is, c.in-Ok.ensures.sizes) in (
      c.in-Ok.ensures.value ∙ ap (cut_at w.at) is,
      some,
      record {
        begins = c.in-Ok.ensures.place;
        onward = refl;
        left = sym (drop-drop (6 + size) w.at w.paper.now) ∙ ap (drop (6 + size)) (sym is ∙ c.in-Ok.ensures.parts) ∙ drop-append-add (head_of size cut.kind) (cut.body.now ++ cut.rest.now) size ∙ drop_at cut.body.now cut.rest.now size refl;
        long = c.in-Ok.ensures.sizes ∙ ap length is;
      },
    )
