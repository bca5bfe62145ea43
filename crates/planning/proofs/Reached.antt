-- The reachable states are the least closed set that holds the start.
use Rattle.std.proofs.Common.{◌≡◌, ℕ, Bool, true, List, [], ◌∷◌, ◌++◌, sym, refl, subst}
use Rattle.planning.specs.Model.{Model}
use Rattle.planning.specs.Leads.{Steps, Leads, ReachableLeast}

-- a step after a sequence
pub leads_more : (m : Model) (s : ℕ) (os : List ℕ) (t o u : ℕ) → Leads m s os t → Steps m t o u → Leads m s (os ++ (o ∷ [])) u
leads_more m s [] t o u l step = (u, subst (λ x. Steps m x o u) (sym l) step, refl)
leads_more m s (p ∷ os) t o u l step = (l.0, l.1, leads_more m l.0 os t o u l.2 step)

pub stays : (m : Model) (has : ℕ → Bool) → ((s o t : ℕ) → has s ≡ true → Steps m s o t → has t ≡ true) → (s : ℕ) (os : List ℕ) (t : ℕ) → has s ≡ true → Leads m s os t → has t ≡ true
stays m has closed s [] t h l = subst (λ x. has x ≡ true) l h
stays m has closed s (o ∷ os) t h l = stays m has closed l.0 os t (closed s o l.0 h l.1) l.2

pub reachable_least : ReachableLeast
reachable_least m = record {
  start = ([], refl);
  closed = λ s o t r step. (r.0 ++ (o ∷ []), leads_more m m.start r.0 s o t r.1 step);
  least = λ has h closed s r. stays m has closed m.start r.0 s h r.1;
}
