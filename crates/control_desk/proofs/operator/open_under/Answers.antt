use Rattle.std.proofs.Common.{refl, sym, ap, Ok, Err}
use Rattle.session_desk.specs.Makes.{reserves, starts}
use Rattle.operator_lines.specs.Lines.{no_extra}
use Rattle.operator_lines.specs.declared.answer.Answer.TheVariants.{Done}
use Rattle.operator_lines.specs.declared.answer.Refusal.{Refusal}
use Rattle.control_desk.specs.Plan.{reserve}
use Rattle.control_desk.specs.Operator.{reserved_plan, say, refuse}
use Rattle.control_desk.proofs.Following.{follows_as, follows_called, follows_then}
use Rattle.control_desk.proofs.operator.open_under.Goals as goal

pub returns-in-Ok-clause-done : goal.returns-in-Ok-clause-done
returns-in-Ok-clause-done g c = λ s next.
    let a = c.args in
    let plan = reserved_plan a.heard.conn a.heard.now s next in
    let place = c.in-Ok.place in
    follows_then
    (follows_called (reserve a.key.now no_extra a.config.now a.wait plan) (plan (Ok place)) (reserves a.key.now no_extra a.config.now a.wait (Ok place)) _ (refl, refl, refl, refl, refl) c.in-Ok.ensures.made refl)
    (follows_then
    (follows_called (plan (Ok place)) (say a.heard.conn Done s next) (starts place a.heard.now c.start-answer.result) _ (refl, refl, refl) c.start-answer.ensures.made refl)
    (c.answer.ensures a.hands.now.table.now s next _))

pub returns-in-Err-clause-done : goal.returns-in-Err-clause-done
returns-in-Err-clause-done g c = λ s next.
    let a = c.args in
    let plan = reserved_plan a.heard.conn a.heard.now s next in
    let fault = c.in-Err.fault in
    follows_then
    (follows_called (reserve a.key.now no_extra a.config.now a.wait plan) (plan (Err fault)) (reserves a.key.now no_extra a.config.now a.wait (Err fault)) _ (refl, refl, refl, refl, refl) c.in-Err.ensures.made refl)
    (follows_as (ap (λ (r : Refusal). refuse a.heard.conn r s next) (sym c.reserve_refusal-refusal.ensures)) (c.answer-in-Err.ensures a.hands.now.table.now s next _))
