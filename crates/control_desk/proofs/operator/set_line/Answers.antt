use Rattle.std.proofs.Common.{Ok, Err, refl, sym, ap, ◌∙◌}
use Rattle.operator_lines.specs.declared.answer.Refusal.{Refusal}
use Rattle.session_desk.specs.Makes.{sets}
use Rattle.control_desk.specs.State.{at_names}
use Rattle.control_desk.specs.Plan.{set}
use Rattle.control_desk.specs.Operator.{set_under, set_plan, refuse}
use Rattle.control_desk.proofs.Following.{follows_as, follows_called, follows_then}
use Rattle.control_desk.proofs.operator.set_line.Goals as goal

pub returns-in_default-clause-done : goal.returns-in_default-clause-done
returns-in_default-clause-done g c = λ s next.
    let u = at_names s c.args.names.now in
    follows_as (ap (set_under c.args.conn u c.args.key.now next) (sym c.find.ensures ∙ c.in_default.is)) (c.answer.ensures c.args.hands.now.table.now u next _)

pub returns-in-Ok-clause-done : goal.returns-in-Ok-clause-done
returns-in-Ok-clause-done g c = λ s next.
    let u = at_names s c.args.names.now in
    let k = c.args.key.now in
    let plan = set_plan c.args.conn u next in
    let a = Ok c.in-Ok.field-0 in
    follows_as (ap (set_under c.args.conn u k next) (sym c.find.ensures ∙ c.in-Some.is)) (follows_then
    (follows_called (set k c.in-Some.config plan) (plan a) (sets k c.in-Some.config a) _ (refl, refl, refl) c.in-Ok.ensures.made refl)
    (c.answer-in-Ok.ensures c.args.hands.now.table.now u next _))

pub returns-in-Err-clause-done : goal.returns-in-Err-clause-done
returns-in-Err-clause-done g c = λ s next.
    let u = at_names s c.args.names.now in
    let k = c.args.key.now in
    let plan = set_plan c.args.conn u next in
    let a = Err c.in-Err.fault in
    follows_as (ap (set_under c.args.conn u k next) (sym c.find.ensures ∙ c.in-Some.is)) (follows_then
    (follows_called (set k c.in-Some.config plan) (plan a) (sets k c.in-Some.config a) _ (refl, refl, refl) c.in-Err.ensures.made refl)
    (follows_as (ap (λ (r : Refusal). refuse c.args.conn r u next) (sym c.set_refusal-refusal.ensures)) (c.answer-in-Err.ensures c.args.hands.now.table.now u next _)))
