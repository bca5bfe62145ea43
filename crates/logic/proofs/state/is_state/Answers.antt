use Rattle.std.proofs.Common.{◌≡◌, ℕ, ◌*◌, ◌/◌, ◌^◌, ◌<◌, ◌≤◌, sym, ap, ◌∙◌, ⊎_elim, lt_of_lt_of_le, arith, pow_pos, pow_mono}
use native.Mathlib.Nat.{div-eq_of_lt}
use Rattle.std.proofs.lemmas.Nat.{mod_below, div-add-mod'}
use Rattle.std.proofs.lemmas.Bool.{lt-ltb, le-ltb, eq-eqb, ne_eqb, cases_lt}
use Rattle.logic.proofs.state.is_state.Goals as goal

pub returns-then-width-ge64 : goal.returns-then-width-ge64
returns-then-width-ge64 c = sym (lt-ltb c.args.word (2 ^ c.args.width) (lt_of_lt_of_le c.ranges.word.fits (pow_mono c.if-width-ge64.true)))

pub returns : goal.returns
returns c =
    ⊎_elim (λ (h : c.args.word < 2 ^ c.args.width). eq-eqb _ 0 (div-eq_of_lt h) ∙ sym (lt-ltb _ _ h))
    (λ (h : 2 ^ c.args.width ≤ c.args.word). ne_eqb _ 0 (λ e. absurd (some_quotient c.args.word (2 ^ c.args.width) (pow_pos c.args.width) h e)) ∙ sym (le-ltb _ _ h))
    (cases_lt c.args.word (2 ^ c.args.width))
  where
    some_quotient : (a b : ℕ) → 0 < b → b ≤ a → a / b ≡ 0 → ⊥
    some_quotient a b p h e = omega (arith, div-add-mod' a b, mod_below a b p, ap (λ (q : ℕ). q * b) e)
