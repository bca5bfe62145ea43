-- A diagram keeps the laws of a set.
use Rattle.std.specs.Prelude.{◌≡◌, ℕ, zero, suc, ◌<◌, Bool, true, false, cond, ◌&&◌, ◌≢◌, nat_lt, refl}
use Rattle.std.proofs.Common.{sym, ap₂, subst, arith}
use Rattle.std.proofs.lemmas.Bool.{and_parts, ltb-true, cond-true, cond-false}
use Rattle.logic.specs.declared.truth.Truth.{Truth}
use Rattle.logic.specs.declared.truth.Truth.TheVariants.{True, False, Open as Unknown}
use Rattle.logic.specs.States.{Allows, Has, Settled}
use Rattle.logic.specs.declared.truth.Truth.TheVariants.{True as Inside, False as Outside, Open}
use Rattle.sets.specs.Sets.{Laws}
use Rattle.sets.specs.Told.{states_where, told, told_laws}
use Rattle.setpapers.specs.declared.entry.Child.{Child}
use Rattle.setpapers.specs.declared.entry.Child.TheVariants.{Outside as Outside', Inside as Inside', Entry as EntryAt}
use Rattle.setpapers.specs.declared.entry.Entry.{Entry}
use Rattle.setpapers.specs.Rows.{all, all_at}
use Rattle.setpapers.specs.Decisions.{Decision, out, inn, test, picks, agree, pick, answers, Below}
use Rattle.setpapers.specs.Diagrams.{child, entry_decision, decision_to, decision_at, root, lawful_child, lawful}

-- ---- decisions

-- what two agree on holds of either
agree_says : (a b : Truth) (x y t : Bool) → Allows a x → Allows b y → Allows (agree a b) (cond t y x)
agree_says Inside Inside x y true p q = q
agree_says Inside Inside x y false p q = p
agree_says Inside Outside x y t p q = tt
agree_says Inside Open x y t p q = tt
agree_says Outside Inside x y t p q = tt
agree_says Outside Outside x y true p q = q
agree_says Outside Outside x y false p q = p
agree_says Outside Open x y t p q = tt
agree_says Open b x y t p q = tt

-- what the picked one says holds
pick_says : (τ : Truth) (a b : Truth) (x y t : Bool) → Allows τ t → Allows a x → Allows b y → Allows (pick τ a b) (cond t y x)
pick_says True a b x y t h p q = subst (Allows b) (sym (cond-true t y x h)) q
pick_says False a b x y t h p q = subst (Allows a) (sym (cond-false t y x h)) p
pick_says Unknown a b x y t h p q = agree_says a b x y t p q

-- what a decision answers to a cube holds of each of its states
decision_says : (ρ : ℕ → Truth) (s : ℕ → Bool) → Has ρ s → (d : Decision) → Allows (answers ρ d) (picks s d)
decision_says ρ s h out = refl
decision_says ρ s h inn = refl
decision_says ρ s h (test v low high) =
    pick_says (ρ v) (answers ρ low) (answers ρ high) (picks s low) (picks s high) (s v) (h v) (decision_says ρ s h low) (decision_says ρ s h high)

-- a known variable picks an answer that is not open
pick_settles : (τ : Truth) (a b : Truth) → (τ ≢ Unknown) → (a ≢ Open) → (b ≢ Open) → pick τ a b ≢ Open
pick_settles True a b h p q = q
pick_settles False a b h p q = p
pick_settles Unknown a b h p q = absurd (h refl)

-- an answer that is not open
abbrev fixed : Truth → Type 0
fixed Inside = Unit {0}
fixed Outside = Unit {0}
fixed Open = ⊥

-- where no variable is open, no answer is
decision_settles : (w : ℕ) (ρ : ℕ → Truth) → Settled w ρ → (d : Decision) → Below w d → answers ρ d ≢ Open
decision_settles w ρ h out b = λ e. subst fixed e tt
decision_settles w ρ h inn b = λ e. subst fixed e tt
decision_settles w ρ h (test v low high) b =
    pick_settles (ρ v) (answers ρ low) (answers ρ high) (h v b.0) (decision_settles w ρ h low b.1) (decision_settles w ρ h high b.2)

-- ---- lawful entries

-- the child is no entry, or one below i
abbrev pub Under : ℕ → Child → Type 0
Under i Outside' = Unit {0}
Under i Inside' = Unit {0}
Under i (EntryAt j) = j < i

module _ (w : ℕ) (e : ℕ → Entry) (i : ℕ) (o : lawful w e i ≡ true) where
  pub variable_below : (e i).variable < w
  variable_below = ltb-true _ _ (and_parts _ _ o).0

  child_below : (v : ℕ) (c : Child) → lawful_child e i v c ≡ true → Under i c
  child_below v Outside' h = tt
  child_below v Inside' h = tt
  child_below v (EntryAt j) h = ltb-true j i (and_parts (nat_lt j i) (nat_lt v (e j).variable) h).0

  children : (lawful_child e i (e i).variable (e i).low ≡ true) × (lawful_child e i (e i).variable (e i).high ≡ true)
  children =
      and_parts (lawful_child e i (e i).variable (e i).low) (lawful_child e i (e i).variable (e i).high)
      (and_parts (nat_lt (e i).variable w) (lawful_child e i (e i).variable (e i).low && lawful_child e i (e i).variable (e i).high) o).1

  pub low_below : Under i (e i).low
  low_below = child_below (e i).variable (e i).low children.0

  pub high_below : Under i (e i).high
  high_below = child_below (e i).variable (e i).high children.1

-- a relation of what the fixed children and the entries below i stand for holds of each child
pub child_so : {A B : Type 0} (R : A → B → Type 0) (a b : A) (x y : B) (f : ℕ → A) (g : ℕ → B) (i : ℕ) (c : Child) → R a x → R b y → ((j : ℕ) → j < i → R (f j) (g j)) → Under i c → R (child a b f c) (child x y g c)
child_so R a b x y f g i Outside' p q h l = p
child_so R a b x y f g i Inside' p q h l = q
child_so R a b x y f g i (EntryAt j) p q h l = h j l

module _ (w : ℕ) (e : ℕ → Entry) (n : ℕ) (fine : all (lawful w e) n ≡ true) where
  at : (i : ℕ) → i < n → lawful w e i ≡ true
  at = all_at (lawful w e) n fine

  -- to read deeper than the entry's number changes nothing
  decision_deep : (k l i : ℕ) → i < n → i < k → i < l → decision_to k e i ≡ decision_to l e i
  decision_deep zero l i hi hk hl = absurd (omega arith)
  decision_deep (suc k) zero i hi hk hl = absurd (omega arith)
  decision_deep (suc k) (suc l) i hi hk hl =
      let same : (j : ℕ) → j < i → decision_to k e j ≡ decision_to l e j = λ j hj. decision_deep k l j (omega arith) (omega arith) (omega arith) in
      ap₂ (test (e i).variable)
      (child_so (λ (a b : Decision). a ≡ b) out inn out inn (decision_to k e) (decision_to l e) i (e i).low refl refl same (low_below w e i (at i hi)))
      (child_so (λ (a b : Decision). a ≡ b) out inn out inn (decision_to k e) (decision_to l e) i (e i).high refl refl same (high_below w e i (at i hi)))

  pub decision_node : (i : ℕ) → i < n → decision_at e i ≡ entry_decision (decision_at e) (e i)
  decision_node i hi =
      let same : (j : ℕ) → j < i → decision_to i e j ≡ decision_at e j = λ j hj. decision_deep i (suc j) j (omega arith) hj (omega arith) in
      ap₂ (test (e i).variable)
      (child_so (λ (a b : Decision). a ≡ b) out inn out inn (decision_to i e) (decision_at e) i (e i).low refl refl same (low_below w e i (at i hi)))
      (child_so (λ (a b : Decision). a ≡ b) out inn out inn (decision_to i e) (decision_at e) i (e i).high refl refl same (high_below w e i (at i hi)))

  decision_below : (k i : ℕ) → i < n → Below w (decision_to k e i)
  decision_below zero i hi = tt
  decision_below (suc k) i hi =
      let under : (j : ℕ) → j < i → Below w (decision_to k e j) = λ j hj. decision_below k j (omega arith) in
      let R : Decision → Unit {0} → Type 0 = λ d _. Below w d in (
        variable_below w e i (at i hi),
        child_so R out inn tt tt (decision_to k e) (λ j. tt) i (e i).low tt tt under (low_below w e i (at i hi)),
        child_so R out inn tt tt (decision_to k e) (λ j. tt) i (e i).high tt tt under (high_below w e i (at i hi)),
      )

-- the root tests only variables below w
root_below : (w : ℕ) (e : ℕ → Entry) (n : ℕ) → all (lawful w e) n ≡ true → Below w (root e n)
root_below w e zero fine = tt
root_below w e (suc n) fine = decision_below w e (suc n) fine (suc n) n (omega arith)

-- a diagram is a set
pub diagram_laws : (w : ℕ) (e : ℕ → Entry) (n : ℕ) → all (lawful w e) n ≡ true → Laws w (states_where w (λ s. picks s (root e n))) (told w (λ ρ. answers ρ (root e n)))
diagram_laws w e n fine =
    told_laws w (λ s. picks s (root e n)) (λ ρ. answers ρ (root e n)) (record {
      says = λ ρ s h. decision_says ρ s h (root e n);
      settles = λ ρ h. decision_settles w ρ h (root e n) (root_below w e n fine);
    })
