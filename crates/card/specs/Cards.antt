-- What each call leaves in a card, and in a card on a walk.
use Rattle.std.specs.Prelude.{true, false, cond, Some, None, Ok, Err, Option, Result}
use Rattle.costs.specs.Kind.{Kind}
use Rattle.task.specs.declared.place.Task.{Task}
use Rattle.task.specs.Held.{model}
use Rattle.plans.specs.Verdicts.{Answer, begin}
use Rattle.judge.specs.declared.fault.ProofFault.{ProofFault}
use Rattle.card.specs.declared.card.Card.{Card}
use Rattle.card.specs.declared.card.Walk.{Walk}
use Rattle.card.specs.declared.card.Verdict.TheVariants.{Plan, Proof}

-- what a judge of proofs answers
abbrev pub Ruling : Type 0
Ruling = Result (Unit {0}) ProofFault

-- a card just opened: no cost, mark or verdict stands
abbrev pub opened : {C : Type 0} → Task → Card C
opened t = record { task = t; cost = None; impossible = false; verdict = None }

-- the cheaper of the two
abbrev pub better : {C : Type 0} → Kind C → Option C → C → C
better K None c = c
better K (Some d) c = cond (K.le d c) d c

-- an accepted plan or walk leaves the least cost, a refused one leaves it as it is; either is the latest verdict
abbrev pub noted : {C : Type 0} → Kind C → Card C → Answer C → Card C
noted K card (Ok r) = record { task = card.task; cost = Some (better K card.cost r.cost); impossible = card.impossible; verdict = Some (Plan (Ok r)) }
noted K card (Err f) = record { task = card.task; cost = card.cost; impossible = card.impossible; verdict = Some (Plan (Err f)) }

-- an accepted proof sets the mark, a refused one leaves it as it is; either is the latest verdict
abbrev pub ruled : {C : Type 0} → Card C → Ruling → Card C
ruled card (Ok u) = record { task = card.task; cost = card.cost; impossible = true; verdict = Some (Proof (Ok u)) }
ruled card (Err f) = record { task = card.task; cost = card.cost; impossible = card.impossible; verdict = Some (Proof (Err f)) }

-- a walk at the start
abbrev pub set_out : {C : Type 0} → Kind C → Card C → Walk C
set_out K card = record { card = card; reached = begin K (model card.task) }

-- an accepted step moves the walk, a refused one leaves it where it was
abbrev pub moved : {C : Type 0} → Walk C → Answer C → Walk C
moved w (Ok r) = record { card = w.card; reached = r }
moved w (Err f) = w
