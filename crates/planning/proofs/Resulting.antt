-- The resulting state is one, and only one.
use Rattle.std.proofs.Common.{◌≡◌, ℕ, Bool, true, false, not, ◌&&◌, ◌||◌, sym, refl, ap, ◌∙◌, ap₂}
use Rattle.formulas.specs.Formula.{Effect, holds, sets, clears, after}
use Rattle.formulas.specs.Results.{state, result}
use Rattle.logic.specs.Words.{bit_word, word_below, word_is}
use Rattle.planning.specs.Leads.{Results}

and_no : (b : Bool) → (b && false) ≡ false
and_no true = refl
and_no false = refl

and_yes : (b : Bool) → (b && true) ≡ b
and_yes true = refl
and_yes false = refl

by_cases : (x y b t : Bool) → (x ≡ true → t ≡ true) → (x ≡ false → y ≡ true → t ≡ false) → (x ≡ false → y ≡ false → t ≡ b) → t ≡ (x || (b && not y))
by_cases true y b t f g h = f refl
by_cases false true b t f g h = g refl refl ∙ sym (and_no b)
by_cases false false b t f g h = h refl refl ∙ sym (and_yes b)

pub results_from : (n : ℕ) (e : Effect) (s : ℕ) → Results n e s (result n e s)
results_from n e s = record {
  within = word_below n (λ v. holds (state s) (after v e));
  set = λ v h x. bit_word n (λ v. holds (state s) (after v e)) v h ∙ ap (λ q. q || (state s v && not (holds (state s) (clears v e)))) x;
  cleared = λ v h x y. bit_word n (λ v. holds (state s) (after v e)) v h ∙ ap₂ (λ q r. q || (state s v && not r)) x y ∙ and_no (state s v);
  kept = λ v h x y. bit_word n (λ v. holds (state s) (after v e)) v h ∙ ap₂ (λ q r. q || (state s v && not r)) x y ∙ and_yes (state s v);
}

pub results_is : (n : ℕ) (e : Effect) (s t : ℕ) → Results n e s t → t ≡ result n e s
results_is n e s t r =
    word_is n (λ v. holds (state s) (after v e)) t r.within
    (λ v h. by_cases (holds (state s) (sets v e)) (holds (state s) (clears v e)) (state s v) (state t v) (r.set v h) (r.cleared v h) (r.kept v h))
