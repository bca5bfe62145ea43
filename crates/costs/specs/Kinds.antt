-- The kinds of cost, and that the order of each is total.
use Rattle.std.specs.Prelude.{◌≡◌, ℕ, ◌+◌, ◌≤◌, max, Bool, true, false, cond, ◌⊎◌, Some, None, Option, nat_le, refl}
use Rattle.std.specs.Cmp.{IsTotalOrder}
use Rattle.std.specs.Option.{option_map}
use Rattle.std.specs.declared.cmp.Ordering.{Ordering}
use Rattle.std.specs.declared.cmp.Ordering.TheVariants.{Less, Equal, Greater}
use Rattle.std.specs.Ordering.{is_le, nat_cmp, ordering_then, ordering_reverse}
use Rattle.std.proofs.Common.{sym, ap, subst, ◌∙◌, inl, inr, ⊎_elim, arith}
use Rattle.std.proofs.lemmas.Bool.{leb-true, le-leb, false≢true, cases_Bool, cases_lt}
use Rattle.std.proofs.lemmas.Bool.Decides.{nat_tests}
use Rattle.costs.specs.Kind.{Kind, Ordered}
use Rattle.costs.specs.declared.amount.Amount.{Amount}
use Rattle.costs.specs.declared.kinds.OfMinutes.{OfMinutes}
use Rattle.costs.specs.declared.kinds.OfCrew.{OfCrew}
use Rattle.costs.specs.declared.kinds.OfSteps.{OfSteps}
use Rattle.costs.specs.declared.pair.Pair.{Pair}

-- the largest count
abbrev pub largest : ℕ
largest = 4294967295

-- the cost of that count
abbrev pub amount : {Q : Type 0} → ℕ → Amount Q
amount n = record { count = n; of = record {} }

-- A count of some quantity: none is 0, an operator counts as `one` says, two are put together as `together` says, and
-- their order is that of numbers.
abbrev pub counted : {Q : Type 0} → (ℕ → ℕ → ℕ) → (ℕ → ℕ → Option ℕ) → Kind (Amount Q)
counted one together = record {
  zero = amount 0;
  one = λ m c. amount (one m c);
  join = λ a b. option_map amount (together a.count b.count);
  le = λ a b. nat_le a.count b.count;
}

-- the sum, unless it is beyond the largest
abbrev pub summed : ℕ → ℕ → Option ℕ
summed a b = cond (nat_le (a + b) largest) (Some (a + b)) None

-- the larger of the two, which is never refused
abbrev pub larger : ℕ → ℕ → Option ℕ
larger a b = Some (max a b)

-- a cost that counts minutes
abbrev pub Minutes : Type 0
Minutes = Amount OfMinutes

-- a cost that counts people
abbrev pub Crew : Type 0
Crew = Amount OfCrew

-- a cost that counts steps
abbrev pub Steps : Type 0
Steps = Amount OfSteps

-- Minutes: their sum, unless it is beyond the largest.
abbrev pub minutes : Kind Minutes
minutes = counted (λ m c. m) summed

-- Crew: the larger of the two, which is never refused.
abbrev pub crew : Kind Crew
crew = counted (λ m c. c) larger

-- Steps: 1 for each operator, and their sum, unless it is beyond the largest.
abbrev pub steps : Kind Steps
steps = counted (λ m c. 1) summed

-- Of two numbers one is at most the other.
either_way : (m n : ℕ) → (m ≤ n) ⊎ (n ≤ m)
either_way m n = ⊎_elim (λ h. inl (omega arith)) inr (cases_lt m n)

-- The order of counts is total, whatever is counted.
pub counted_ordered : {Q : Type 0} (one : ℕ → ℕ → ℕ) (together : ℕ → ℕ → Option ℕ) → Ordered (counted {Q = Q} one together)
counted_ordered one together = record {
  total = λ a b. ⊎_elim (λ h. inl (le-leb _ _ h)) (λ h. inr (le-leb _ _ h)) (either_way a.count b.count);
  trans = λ a b c h k. le-leb _ _ (omega (arith, leb-true _ _ h, leb-true _ _ k));
  antisym = λ a b h k. ap amount (omega (arith, leb-true _ _ h, leb-true _ _ k));
}

-- Comparing counts is comparing their numbers.
pub counted_compared : {Q : Type 0} (a b : Amount Q) → is_le (ordering_then (nat_cmp a.count b.count) Equal) ≡ nat_le a.count b.count
counted_compared a b = grind (arith, nat_tests)

module _ {Q : Type 0} {K : Kind (Amount Q)} (one : ℕ → ℕ → ℕ) (together : ℕ → ℕ → Option ℕ) (counts : K ≡ counted one together) where
  -- A kind that counts has the total order of counts.
  pub kind_ordered : Ordered K
  kind_ordered = subst Ordered (sym counts) (counted_ordered one together)

  -- Comparing counts is comparing by the order of a kind that counts.
  pub kind_compared : (a b : Amount Q) → is_le (ordering_then (nat_cmp a.count b.count) Equal) ≡ K.le a b
  kind_compared a b = counted_compared a b ∙ λ i. (sym counts i).le a b

-- By the first part, and among equals by the second: given whether the first is at most, whether it is at least, and
-- whether the second is at most.
abbrev pub lexi : Bool → Bool → Bool → Bool
lexi true true second = second
lexi true false second = true
lexi false least second = false

-- Two parts, unless either was refused.
abbrev pub both : {A B : Type 0} → Option A → Option B → Option (Pair A B)
both None y = None
both (Some a) None = None
both (Some a) (Some b) = Some (record { first = a; second = b })

-- A pair of any two kinds: joined part by part, refused where a part is, ordered by the first part and then the second.
abbrev pub pair : {A B : Type 0} → Kind A → Kind B → Kind (Pair A B)
pair K L = record {
  zero = record { first = K.zero; second = L.zero };
  one = λ m c. record { first = K.one m c; second = L.one m c };
  join = λ p q. both (K.join p.first q.first) (L.join p.second q.second);
  le = λ p q. lexi (K.le p.first q.first) (K.le q.first p.first) (L.le p.second q.second);
}

-- What a pair at most another says of the parts.
lexi_parts : (f g s : Bool) → lexi f g s ≡ true → (f ≡ true) × (g ≡ true → s ≡ true)
lexi_parts true true s h = (refl, λ _. h)
lexi_parts true false s h = (refl, λ e. absurd (false≢true e))
lexi_parts false g s h = absurd (false≢true h)

-- The parts that make a pair at most another.
lexi_from : (f g s : Bool) → f ≡ true → (g ≡ true → s ≡ true) → lexi f g s ≡ true
lexi_from true true s h k = k refl
lexi_from true false s h k = refl
lexi_from false g s h k = h

module _ {A B : Type 0} {K : Kind A} {L : Kind B} (k : Ordered K) (l : Ordered L) where
  -- Any two pairs are comparable.
  pair_total : (p q : Pair A B) → ((pair K L).le p q ≡ true) ⊎ ((pair K L).le q p ≡ true)
  pair_total p q = ⊎_elim (one p q) (λ h. ⊎_elim inr inl (one q p h)) (k.total p.first q.first)
    where
      one : (p q : Pair A B) → K.le p.first q.first ≡ true → ((pair K L).le p q ≡ true) ⊎ ((pair K L).le q p ≡ true)
      one p q f =
          ⊎_elim
          (λ g. ⊎_elim (λ s. inl (lexi_from _ _ _ f (λ _. s))) (λ s. inr (lexi_from _ _ _ g (λ _. s))) (l.total p.second q.second))
          (λ g. inl (lexi_from _ _ _ f (λ e. absurd (false≢true (sym g ∙ e)))))
          (cases_Bool (K.le q.first p.first))

  -- The order of pairs is transitive.
  pair_trans : (p q r : Pair A B) → (pair K L).le p q ≡ true → (pair K L).le q r ≡ true → (pair K L).le p r ≡ true
  pair_trans p q r h j =
      let a = lexi_parts _ _ _ h in
      let b = lexi_parts _ _ _ j in
      lexi_from _ _ _ (k.trans _ _ _ a.0 b.0)
      (λ g. l.trans _ _ _ (a.1 (k.trans _ _ _ b.0 g)) (b.1 (k.trans _ _ _ g a.0)))

  -- Two pairs each at most the other are the same.
  pair_antisym : (p q : Pair A B) → (pair K L).le p q ≡ true → (pair K L).le q p ≡ true → p ≡ q
  pair_antisym p q h j =
      let a = lexi_parts _ _ _ h in
      let b = lexi_parts _ _ _ j in
      let e = k.antisym _ _ a.0 b.0 in
      let f = l.antisym _ _ (a.1 b.0) (b.1 a.0) in
      λ i. record { first = e i; second = f i }

  -- The order of pairs is total where those of both parts are.
  pub pair_ordered : Ordered (pair K L)
  pair_ordered = record { total = pair_total; trans = pair_trans; antisym = pair_antisym }

-- Comparing by the first part, and among equals by the second, is the lexicographic order.
lexi_compared : (f s : Ordering) → is_le (ordering_then f s) ≡ lexi (is_le f) (is_le (ordering_reverse f)) (is_le s)
lexi_compared Less s = refl
lexi_compared Equal s = refl
lexi_compared Greater s = refl

module _ {A B : Type 0} (K : Kind A) (L : Kind B) (R : A → A → Ordering) (S : B → B → Ordering) (total : IsTotalOrder R) (first : (a b : A) → is_le (R a b) ≡ K.le a b) (second : (a b : B) → is_le (S a b) ≡ L.le a b) where
  -- Where the parts are compared by their kinds' orders, pairs are compared by that of their kind.
  pub pair_compared : (p q : Pair A B) → is_le (ordering_then (R p.first q.first) (S p.second q.second)) ≡ (pair K L).le p q
  pair_compared p q =
      lexi_compared (R p.first q.first) (S p.second q.second)
      ∙ λ i. lexi (first p.first q.first i) ((ap is_le (sym (total.antisymm q.first p.first)) ∙ first q.first p.first) i) (second p.second q.second i)
