use Rattle.std.proofs.Common.{Bool, if◌then◌else◌, Some, None, refl, sym, ap}
use Rattle.session_desk.specs.Makes.{tells_place}
use Rattle.control_desk.specs.Plan.{live_place}
use Rattle.control_desk.specs.Control.{while_own}
use Rattle.control_desk.proofs.Following.{follows_to, follows_called}
use Rattle.control_desk.proofs.own_calls.is_own.Goals as goal

pub returns-in-Some : goal.returns-in-Some
returns-in-Some g c = λ d n act more.
    let o = c.args.session.now in
    let plan = while_own o act more in
    let p = c.in-Some.place in
    follows_to (ap (λ (t : Bool). if t then act else more) (sym c.same_place.ensures))
    (follows_called (live_place o.key plan) (plan (Some p)) (tells_place o.key (Some p)) d (refl, refl) (c.in-Some.ensures c.args.table.now) refl)

pub returns-in-None : goal.returns-in-None
returns-in-None g c = λ d n act more.
    let o = c.args.session.now in
    let plan = while_own o act more in
    follows_called (live_place o.key plan) more (tells_place o.key None) d (refl, refl) (c.in-None.ensures c.args.table.now) refl
