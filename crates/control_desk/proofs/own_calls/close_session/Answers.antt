use Rattle.std.proofs.Common.{Ok, Err, refl}
use Rattle.session_desk.specs.Makes.{closes}
use Rattle.control_desk.specs.Plan.{close}
use Rattle.control_desk.proofs.Following.{follows_called, follows_then}
use Rattle.control_desk.proofs.own_calls.close_session.Goals as goal

pub returns-in-Ok-clause-done : goal.returns-in-Ok-clause-done
returns-in-Ok-clause-done g c = λ d more.
    let k = c.args.session.now.key in
    follows_then (c.if-not-is_own.ensures d c.args.counts.now (close k (λ a. more)) more)
    (follows_called (close k (λ a. more)) more (closes k (Ok c.in-Ok.field-0)) d (refl, refl) c.in-Ok.ensures.made c.add_closed.ensures)

pub returns-in-Err-clause-done : goal.returns-in-Err-clause-done
returns-in-Err-clause-done g c = λ d more.
    let k = c.args.session.now.key in
    follows_then (c.if-not-is_own.ensures d c.args.counts.now (close k (λ a. more)) more)
    (follows_called (close k (λ a. more)) more (closes k (Err c.in-Err.field-0)) d (refl, refl) c.in-Err.ensures.made refl)
