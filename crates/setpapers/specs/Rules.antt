-- The rule of each kind's entries is what its reader tests.
use Rattle.std.proofs.Common.{◌≡◌, ℕ, zero, suc, ◌^◌, ◌<◌, true, ◌&&◌, ltb, List, refl, subst, arith}
use Rattle.std.proofs.lemmas.Bool.{and_parts, and_from, ltb-true, lt-ltb}
use Rattle.setpapers.specs.Count.{above, rises}
use Rattle.setpapers.specs.declared.entry.Child.{Child}
use Rattle.setpapers.specs.declared.entry.Child.TheVariants.{Outside, Inside, Entry as EntryAt}
use Rattle.setpapers.specs.declared.entry.Entry.{Entry}
use Rattle.setpapers.specs.Diagrams.{entry_at, lawful_child, lawful, IsChild, DiagramEntry}
use Rattle.setpapers.specs.Lists.{state_at, ListedState}
use Rattle.setpapers.specs.Rows.{all, all_parts}

-- ---- lists

above_to : (e : ℕ → ℕ) (i : ℕ) → above e i ≡ true → (j : ℕ) → i ≡ suc j → e j < e i
above_to e zero h j is = absurd (omega arith)
above_to e (suc k) h j is = let same : k ≡ j = omega arith in subst (λ m. e m < e (suc k)) same (ltb-true (e k) (e (suc k)) h)

above_from : (e : ℕ → ℕ) (i : ℕ) → ((j : ℕ) → i ≡ suc j → e j < e i) → above e i ≡ true
above_from e zero h = refl
above_from e (suc k) h = lt-ltb (e k) (e (suc k)) (h k refl)

state_to : (w : ℕ) (bs : List ℕ) (i : ℕ) → rises w (state_at bs) i ≡ true → ListedState w bs i
state_to w bs i h =
    let p = and_parts (ltb (state_at bs i) (2 ^ w)) (above (state_at bs) i) h in
    record { below = ltb-true _ _ p.0; above = above_to (state_at bs) i p.1 }

pub state_keeps : (w : ℕ) (bs : List ℕ) (i : ℕ) → all (rises w (state_at bs)) (suc i) ≡ true → ListedState w bs i
state_keeps w bs i a = state_to w bs i (all_parts (rises w (state_at bs)) i a).1

pub state_from : (w : ℕ) (bs : List ℕ) (i : ℕ) → ListedState w bs i → rises w (state_at bs) i ≡ true
state_from w bs i s = and_from _ _ (lt-ltb _ _ s.below) (above_from (state_at bs) i s.above)

-- ---- diagrams

module _ (e : ℕ → Entry) (i : ℕ) where
  child_to : (c : Child) → lawful_child e i (e i).variable c ≡ true → IsChild e i c
  child_to Outside h = tt
  child_to Inside h = tt
  child_to (EntryAt j) h =
      let q = and_parts (ltb j i) (ltb (e i).variable (e j).variable) h in
      (ltb-true j i q.0, ltb-true (e i).variable (e j).variable q.1)

  child_from : (c : Child) → IsChild e i c → lawful_child e i (e i).variable c ≡ true
  child_from Outside r = refl
  child_from Inside r = refl
  child_from (EntryAt j) r = and_from _ _ (lt-ltb j i r.0) (lt-ltb (e i).variable (e j).variable r.1)

module _ (w : ℕ) (bs : List ℕ) (i : ℕ) where
  entry_to : lawful w (entry_at bs) i ≡ true → DiagramEntry w bs i
  entry_to h =
      let e = entry_at bs in
      let low = lawful_child e i (e i).variable (e i).low in
      let high = lawful_child e i (e i).variable (e i).high in
      let p = and_parts (ltb (e i).variable w) (low && high) h in
      let q = and_parts low high p.1 in
      record { variable = ltb-true (e i).variable w p.0; low = child_to e i (e i).low q.0; high = child_to e i (e i).high q.1 }

  pub entry_from : DiagramEntry w bs i → lawful w (entry_at bs) i ≡ true
  entry_from d =
      let e = entry_at bs in
      and_from _ _ (lt-ltb (e i).variable w d.variable) (and_from _ _ (child_from e i (e i).low d.low) (child_from e i (e i).high d.high))

pub entry_keeps : (w : ℕ) (bs : List ℕ) (i : ℕ) → all (lawful w (entry_at bs)) (suc i) ≡ true → DiagramEntry w bs i
entry_keeps w bs i a = entry_to w bs i (all_parts (lawful w (entry_at bs)) i a).1
