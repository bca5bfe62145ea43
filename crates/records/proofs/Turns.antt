-- A loop that walks over the records of a paper.
use Rattle.std.proofs.Common.{◌≡◌, ℕ, zero, suc, ◌+◌, ◌<◌, ◌≤◌, List, [], ◌∷◌, length, Some, Ok, Err, Result, sym, refl, ap, ◌∙◌, subst, arith}
use Rattle.records.specs.Cuts.{Split, split, cut_at}
use Rattle.records.specs.Single.{and_then}
use Rattle.records.specs.declared.RecordFault.{RecordFault}
use Rattle.records.specs.Walks.{map_err, walk, left_in, Gives}
use Rattle.records.specs.declared.Cut.{Cut}
use Rattle.records.specs.declared.Records.{Records}

module _ {S E : Type 0} (lift : RecordFault → E) (step : ℕ → Split → S → Result S E) (paper : List ℕ) (start : S) where
  -- the walk from here gives what the whole walk gives
  pub record Sofar (at : ℕ) (rest : List ℕ) (s : S) : Type 0 where
    pub turns : ℕ
    pub enough : length rest ≤ turns
    pub place : at + length rest ≡ length paper
    pub same : walk lift step turns at rest s ≡ walk lift step (length paper) 0 paper start

  pub begun : Sofar 0 paper start
  begun = record { turns = length paper; enough = omega arith; place = omega arith; same = refl }

  next : (turns at : ℕ) (rest : List ℕ) (s : S) → length rest ≤ turns → 0 < length rest → (left : ℕ) × (turns ≡ suc left) × (walk lift step turns at rest s ≡ and_then (map_err lift (cut_at at rest)) (λ r. and_then (step at r s) (λ t. walk lift step left (at + (6 + length r.body)) r.rest t)))
  next turns at [] s h k = absurd (omega arith)
  next zero at (b ∷ bs) s h k = absurd (omega arith)
  next (suc left) at (b ∷ bs) s h k = (left, refl, refl)

  module _ {at : ℕ} {rest : List ℕ} {s : S} (so : Sofar at rest s) where
    pub walked : length rest ≡ 0 → walk lift step (length paper) 0 paper start ≡ Ok s
    walked e = sym so.same ∙ over rest e
      where
        over : (bs : List ℕ) → length bs ≡ 0 → walk lift step so.turns at bs s ≡ Ok s
        over [] e = refl
        over (b ∷ bs) e = absurd (omega arith)

    module _ (some : 0 < length rest) where
      pub torn : (e : RecordFault) → cut_at at rest ≡ Err e → walk lift step (length paper) 0 paper start ≡ Err (lift e)
      torn e is = sym so.same ∙ (next so.turns at rest s so.enough some).2 ∙ ap (λ q. and_then (map_err lift q) (λ r. and_then (step at r s) (λ t. walk lift step (next so.turns at rest s so.enough some).0 (at + (6 + length r.body)) r.rest t))) is

      module _ (r : Split) (is : cut_at at rest ≡ Ok r) where
        on : (let left = (next so.turns at rest s so.enough some).0 in and_then (step at r s) (λ t. walk lift step left (at + (6 + length r.body)) r.rest t)) ≡ walk lift step (length paper) 0 paper start
        on = sym (sym so.same ∙ (next so.turns at rest s so.enough some).2 ∙ ap (λ q. and_then (map_err lift q) (λ r. and_then (step at r s) (λ t. walk lift step (next so.turns at rest s so.enough some).0 (at + (6 + length r.body)) r.rest t))) is)

        pub halts : (e : E) → step at r s ≡ Err e → walk lift step (length paper) 0 paper start ≡ Err e
        halts e was = sym on ∙ ap (λ q. and_then q (λ t. walk lift step (next so.turns at rest s so.enough some).0 (at + (6 + length r.body)) r.rest t)) was

        pub steps : (t : S) → step at r s ≡ Ok t → 6 + length r.body + length r.rest ≡ length rest → Sofar (at + (6 + length r.body)) r.rest t
        steps t was long = record {
          turns = (next so.turns at rest s so.enough some).0;
          enough = omega (arith, so.enough, (next so.turns at rest s so.enough some).1);
          place = omega (arith, so.place);
          same = ap (λ q. and_then q (λ t. walk lift step (next so.turns at rest s so.enough some).0 (at + (6 + length r.body)) r.rest t)) (sym was) ∙ on;
        }

  -- the walk over what the records of a paper have left
  abbrev pub Along : Records → S → Type 0
  Along w s = Sofar w.at (left_in w) s

  -- it goes on at the next record
  pub onward : {w t : Records} {s : S} {c : Cut} → Along w s → Gives w (Some (Ok c)) t → (u : S) → step c.at (split c.kind c.body.now c.rest.now) s ≡ Ok u → Along t u
  onward {w} {t} {s} {c} so gives u was =
      let r = split c.kind c.body.now c.rest.now in
      let next = steps so gives.1 r (sym gives.0) u (ap (λ n. step n r s) (sym gives.2.begins) ∙ was) gives.2.long in
      subst (λ (n : ℕ). Sofar n (left_in t) u) (sym gives.2.onward) (subst (λ (bs : List ℕ). Sofar (w.at + (6 + length c.body.now)) bs u) (sym gives.2.left) next)

  -- it ends at a record that the step refuses
  pub stops : {w t : Records} {s : S} {c : Cut} → Along w s → Gives w (Some (Ok c)) t → (e : E) → step c.at (split c.kind c.body.now c.rest.now) s ≡ Err e → walk lift step (length paper) 0 paper start ≡ Err e
  stops {w} {t} {s} {c} so gives e was =
      let r = split c.kind c.body.now c.rest.now in
      halts so gives.1 r (sym gives.0) e (ap (λ n. step n r s) (sym gives.2.begins) ∙ was)
