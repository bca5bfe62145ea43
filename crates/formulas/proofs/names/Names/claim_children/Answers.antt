use Rattle.std.proofs.Common.{◌≡◌, ℕ, ◌<◌, List, [], ◌∷◌, sym, subst, rules}
use Rattle.formulas.specs.Names.{Each, children}
use Rattle.formulas.specs.Marks.{Claimed}
use Rattle.formulas.proofs.names.Names.claim_children.Goals as goal

pub returns-in-And-clause-named : goal.returns-in-And-clause-named
returns-in-And-clause-named c ns low m =
    let is : children c.args.node ≡ c.in-And.a ∷ c.in-And.b ∷ [] = search rules in
    let P : List ℕ → Type 0 = λ cs. Claimed c.claim_both.new.self.marks cs c.claim_both.result ns in
    let few = subst (Each (λ c. c < 1024)) is low in
    subst P (sym is) (c.claim_both.ensures.named ns few.0 few.1.0 m)
