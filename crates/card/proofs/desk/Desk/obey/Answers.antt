use Rattle.std.proofs.Common.{refl, ap}
use Rattle.card.specs.declared.desk.Desk.TheVariants.{Idle, Busy}
use Rattle.card.specs.declared.card.Verdict.TheVariants.{Plan, Proof}
use Rattle.card.specs.declared.desk.Reply.TheVariants.{Judged, Done}
use Rattle.card.specs.History.{planned, proved, begun, given_up}
use Rattle.card.proofs.Heard.{idle_heard, busy_heard}
use Rattle.card.proofs.desk.Desk.obey.Goals as goal

pub returns-in-Plan : goal.returns-in-Plan
returns-in-Plan g c = idle_heard g.C.Cost.kind g.S.StateSet.answer g.P.AsSlice.items c.in-Plan.is c.in-Idle.card c.in-Idle.is _ (Judged (Plan c.lodge_plan-answer.result)) (Idle c.lodge_plan-answer.new.self) refl (ap (λ bs. planned bs c.lodge_plan-answer.result) c.as_slice.ensures) c.lodge_plan-answer.ensures.law

pub returns-in-Proof : goal.returns-in-Proof
returns-in-Proof g c = idle_heard g.C.Cost.kind g.S.StateSet.answer g.P.AsSlice.items c.in-Proof.is c.in-Idle.card c.in-Idle.is _ (Judged (Proof c.lodge_proof-answer.result)) (Idle c.lodge_proof-answer.new.self) refl (ap (λ bs. proved (g.S.StateSet.answer c.in-Proof.set) bs c.lodge_proof-answer.result) c.as_slice-in-Proof.ensures) c.lodge_proof-answer.ensures.law

pub returns-in-Begin : goal.returns-in-Begin
returns-in-Begin g c = idle_heard g.C.Cost.kind g.S.StateSet.answer g.P.AsSlice.items c.in-Begin.is c.in-Idle.card c.in-Idle.is begun Done (Busy c.begin.result) refl refl c.begin.ensures.law

pub returns-in-Step-call : goal.returns-in-Step-call
returns-in-Step-call g c = busy_heard g.C.Cost.kind g.S.StateSet.answer g.P.AsSlice.items c.in-Step-call.is c.in-Busy.walk c.in-Busy.is _ (Judged (Plan c.step-answer.result)) (Busy c.step-answer.new.self) (λ os. refl) refl c.step-answer.ensures.law

pub returns-in-Finish : goal.returns-in-Finish
returns-in-Finish g c = busy_heard g.C.Cost.kind g.S.StateSet.answer g.P.AsSlice.items c.in-Finish.is c.in-Busy.walk c.in-Busy.is _ (Judged (Plan c.finish-card.result.1)) (Idle c.finish-card.result.0) (λ os. refl) refl c.finish-card.ensures.law

pub returns-in-GiveUp : goal.returns-in-GiveUp
returns-in-GiveUp g c = busy_heard g.C.Cost.kind g.S.StateSet.answer g.P.AsSlice.items c.in-GiveUp.is c.in-Busy.walk c.in-Busy.is given_up Done (Idle c.give_up.result) (λ os. refl) refl c.give_up.ensures.law
