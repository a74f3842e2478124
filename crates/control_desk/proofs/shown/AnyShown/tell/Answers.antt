use Rattle.std.proofs.Common.{refl}
use Rattle.net_io.specs.Desk.{sent, send_failed}
use Rattle.control_desk.specs.Plan.{send}
use Rattle.control_desk.proofs.Following.{follows_noted}
use Rattle.control_desk.proofs.shown.AnyShown.tell.Goals as goal

pub returns-in-Ok : goal.returns-in-Ok
returns-in-Ok g c = λ t good failed b.
    follows_noted (send c.args.conn c.args.octets.now good failed) good (sent c.args.conn c.args.octets.now) b (refl, refl, refl)
    (record { went = c.in-Ok.ensures.goes; is_open = c.in-Ok.ensures.open; made = c.in-Ok.ensures.made; log = c.in-Ok.ensures.log; faults = c.in-Ok.ensures.still }) refl

pub returns-in-Err : goal.returns-in-Err
returns-in-Err g c = λ t good failed b.
    follows_noted (send c.args.conn c.args.octets.now good failed) failed (send_failed c.args.conn c.args.octets.now) b (refl, refl, refl)
    (record { went = c.in-Err.ensures.goes; is_open = c.in-Err.ensures.open; made = c.in-Err.ensures.made; log = c.in-Err.ensures.log; faults = c.in-Err.ensures.cause }) c.add_fault.ensures
