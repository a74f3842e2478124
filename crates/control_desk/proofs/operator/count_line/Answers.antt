use Rattle.std.proofs.Common.{refl, Ok, Err}
use Rattle.session_desk.specs.Makes.{counts}
use Rattle.control_desk.specs.Plan.{count}
use Rattle.control_desk.specs.Operator.{number_plan}
use Rattle.control_desk.proofs.Following.{follows_called, follows_then}
use Rattle.control_desk.proofs.operator.count_line.Goals as goal

pub returns-in-Ok-clause-done : goal.returns-in-Ok-clause-done
returns-in-Ok-clause-done g c = λ s next.
    let k = c.args.key.now in
    let plan = number_plan c.args.conn s next in
    follows_then
    (follows_called (count k plan) (plan (Ok c.in-Ok.number)) (counts k (Ok c.in-Ok.number)) _ (refl, refl) c.in-Ok.ensures.made refl)
    (c.answer.ensures c.args.hands.now.table.now s next _)

pub returns-in-Err-clause-done : goal.returns-in-Err-clause-done
returns-in-Err-clause-done g c = λ s next.
    let k = c.args.key.now in
    let plan = number_plan c.args.conn s next in
    follows_then
    (follows_called (count k plan) (plan (Err c.in-Err.field-0)) (counts k (Err c.in-Err.field-0)) _ (refl, refl) c.in-Err.ensures.made refl)
    (c.answer-in-Err.ensures c.args.hands.now.table.now s next _)
