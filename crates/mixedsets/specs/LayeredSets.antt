-- Layers over set papers, nested as they come: wide, has and answer say the width, the states and the answer of each paper.
use Rattle.std.specs.Prelude.{ℕ, Bool, cond, Some, None, Option, ◌==◌}
use Rattle.logic.specs.Partial.{PartialState}
use Rattle.logic.specs.declared.truth.Truth.{Truth}
use Rattle.logic.specs.Kleene.{and3, or3}
use Rattle.sets.specs.Layers.{complement_laws, meeting_laws, joining_laws}
use Rattle.sets.specs.Sets.{Laws, not_has, both_have, either_has, not_answer, both_answer, either_answer}
use Rattle.mixedsets.specs.declared.layered.Connective.{Connective}
use Rattle.mixedsets.specs.declared.layered.Connective.TheVariants.{Meeting, Joining}
use Rattle.mixedsets.specs.declared.layered.Layered.{Layered}
use Rattle.mixedsets.specs.declared.layered.Layered.TheVariants.{Paper, Complement', Pair'}

-- the answer of two sets joined, by those of both
abbrev pub joined : Connective → Truth → Truth → Truth
joined Meeting = and3
joined Joining = or3

-- a layer has the width of its first part
abbrev pub layered_wide : {P : Type 0} → (P → ℕ) → Layered P → ℕ
layered_wide wide (Paper s) = wide s
layered_wide wide (Complement' p part) = layered_wide wide part
layered_wide wide (Pair' k p first q second) = layered_wide wide first

-- the states of two sets joined, of the widths v and w
abbrev pub pair_has : Connective → ℕ → (ℕ → Bool) → ℕ → (ℕ → Bool) → ℕ → Bool
pair_has Meeting = both_have
pair_has Joining = either_has

-- the answer of two sets joined
abbrev pub pair_answer : Connective → ℕ → (PartialState → Truth) → (PartialState → Truth) → PartialState → Truth
pair_answer Meeting = both_answer
pair_answer Joining = either_answer

-- the states, by those of the parts
abbrev pub layered_has : {P : Type 0} → (P → ℕ) → (P → ℕ → Bool) → Layered P → ℕ → Bool
layered_has wide has (Paper s) = has s
layered_has wide has (Complement' p part) = not_has (layered_wide wide part) (layered_has wide has part)
layered_has wide has (Pair' k p first q second) = pair_has k (layered_wide wide first) (layered_has wide has first) (layered_wide wide second) (layered_has wide has second)

-- the answer, by the parts' answers
abbrev pub layered_answer : {P : Type 0} → (P → ℕ) → (P → PartialState → Truth) → Layered P → PartialState → Truth
layered_answer wide answer (Paper s) = answer s
layered_answer wide answer (Complement' p part) = not_answer (layered_wide wide part) (layered_answer wide answer part)
layered_answer wide answer (Pair' k p first q second) = pair_answer k (layered_wide wide first) (layered_answer wide answer first) (layered_answer wide answer second)

-- two sets joined are a set
pair_laws : (k : Connective) {v w : ℕ} {f g : ℕ → Bool} {a b : PartialState → Truth} → Laws v f a → Laws w g b → Laws v (pair_has k v f w g) (pair_answer k v a b)
pair_laws Meeting x y = meeting_laws x y
pair_laws Joining x y = joining_laws x y

-- where each paper is a set, each layered set is
pub layered_laws : {P : Type 0} {wide : P → ℕ} {has : P → ℕ → Bool} {answer : P → PartialState → Truth}
    → ((s : P) → Laws (wide s) (has s) (answer s)) → (s : Layered P) → Laws (layered_wide wide s) (layered_has wide has s) (layered_answer wide answer s)
layered_laws laws (Paper s) = laws s
layered_laws laws (Complement' p part) = complement_laws (layered_laws laws part)
layered_laws laws (Pair' k p first q second) = pair_laws k (layered_laws laws first) (layered_laws laws second)

-- the answer to a cube of the width w, and none to any other
abbrev pub told_at : ℕ → PartialState → Truth → Option Truth
told_at w c a = cond (c.width == w) (Some a) None
