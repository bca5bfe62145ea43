-- One entry more of a diagram is answered.
use Rattle.std.proofs.Common.{◌≡◌, ℕ, ◌+◌, ◌<◌, ◌≤◌, true, ◌≢◌, List, length, get_or, set, subst, sym, refl, ap, ◌∙◌, ap₂, arith, below_more}
use Rattle.std.proofs.lemmas.List.{get_or-set_same, get_or-set_other}
use Rattle.logic.specs.declared.truth.Truth.{Truth}
use Rattle.logic.specs.declared.truth.Truth.TheVariants.{True as Inside, False as Outside}
use Rattle.setpapers.specs.declared.entry.Child.{Child}
use Rattle.setpapers.specs.declared.entry.Child.TheVariants.{Outside as Out, Inside as In, Entry as EntryAt}
use Rattle.setpapers.specs.declared.entry.Entry.{Entry}
use Rattle.setpapers.specs.Rows.{all, all_at}
use Rattle.setpapers.specs.Decisions.{out, inn, pick, answers, Decision}
use Rattle.setpapers.specs.Diagrams.{child, decision_at, lawful}
use Rattle.setpapers.specs.DiagramLaws.{Under, low_below, high_below, child_so, decision_node}

-- a child below i is below more
under_more : (i n : ℕ) → i ≤ n → (c : Child) → Under i c → Under n c
under_more i n le Out l = tt
under_more i n le In l = tt
under_more i n le (EntryAt j) l = omega arith

-- the children of a lawful entry are below n
pub children_under : (w : ℕ) (e : ℕ → Entry) (k : ℕ) → all (lawful w e) k ≡ true → (i n : ℕ) → i < k → i ≤ n → (x : Entry) → x ≡ e i → Under n x.low × Under n x.high
children_under w e k fine i n here le x is =
    let o = all_at (lawful w e) k fine i here in (
      subst (λ (y : Entry). Under n y.low) (sym is) (under_more i n le (e i).low (low_below w e i o)),
      subst (λ (y : Entry). Under n y.high) (sym is) (under_more i n le (e i).high (high_below w e i o)),
    )

-- the answers of the entries below i
abbrev pub Answered : (ℕ → Truth) → (ℕ → Entry) → List Truth → ℕ → Type 0
Answered ρ e row i = (j : ℕ) → j < i → get_or row j Outside ≡ answers ρ (decision_at e j)

module _ (w : ℕ) (e : ℕ → Entry) (n : ℕ) (fine : all (lawful w e) n ≡ true) (ρ : ℕ → Truth) (row : List Truth) (i : ℕ) where
  answered_child : (c : Child) → Answered ρ e row i → Under i c → child Outside Inside (λ j. get_or row j Outside) c ≡ answers ρ (child out inn (decision_at e) c)
  answered_child c h l = child_so (λ (a : Truth) (d : Decision). a ≡ answers ρ d) Outside Inside out inn (λ j. get_or row j Outside) (decision_at e) i c refl refl h l

  -- what an entry answers, where those below it are answered
  pub answered_here : (x : Entry) (r : Truth) → x ≡ e i → i < n → Answered ρ e row i
      → r ≡ pick (ρ x.variable) (child Outside Inside (λ j. get_or row j Outside) x.low) (child Outside Inside (λ j. get_or row j Outside) x.high) → r ≡ answers ρ (decision_at e i)
  answered_here x r is hi below here =
      here ∙ ap (λ (y : Entry). pick (ρ y.variable) (child Outside Inside (λ j. get_or row j Outside) y.low) (child Outside Inside (λ j. get_or row j Outside) y.high)) is
      ∙ ap₂ (pick (ρ (e i).variable)) (answered_child (e i).low below (low_below w e i (all_at (lawful w e) n fine i hi))) (answered_child (e i).high below (high_below w e i (all_at (lawful w e) n fine i hi)))
      ∙ sym (ap (answers ρ) (decision_node w e n fine i hi))

-- so many entries and one more are answered
pub answered_more : (ρ : ℕ → Truth) (e : ℕ → Entry) (row : List Truth) (i : ℕ) (r : Truth) → i < length row → Answered ρ e row i → r ≡ answers ρ (decision_at e i) → Answered ρ e (set row i r) (i + 1)
answered_more ρ e row i r hl below here =
    below_more (λ j. get_or (set row i r) j Outside ≡ answers ρ (decision_at e j)) i
    (λ j h. let ne : j ≢ i = omega arith in get_or-set_other row i j r Outside ne ∙ below j h)
    (get_or-set_same row i r Outside hl ∙ here)
