use Rattle.std.proofs.Common.{refl, take}
use Rattle.net_io.specs.Desk.{gave, next_failed, octet_count}
use Rattle.control_desk.specs.Plan.{hear}
use Rattle.control_desk.proofs.Following.{follows_noted}
use Rattle.control_desk.proofs.shown.AnyShown.take_event.Goals as goal

pub returns-in-Ok-clause-done : goal.returns-in-Ok-clause-done
returns-in-Ok-clause-done g c = λ t given failed b.
    let timed = c.in-Ok.timed in
    let octets = take (octet_count timed.event) c.next.new.buf in
    follows_noted (hear given failed) (given timed octets) (gave timed octets) b refl
    (record { went = c.in-Ok.ensures.goes; is_open = c.in-Ok.ensures.open; made = c.in-Ok.ensures.made; log = c.in-Ok.ensures.log; faults = c.in-Ok.ensures.still }) c.add_event.ensures

pub returns-in-Err-clause-done : goal.returns-in-Err-clause-done
returns-in-Err-clause-done g c = λ t given failed b.
    follows_noted (hear given failed) failed next_failed b refl
    (record { went = c.in-Err.ensures.goes; is_open = c.in-Err.ensures.open; made = c.in-Err.ensures.made; log = c.in-Err.ensures.log; faults = c.in-Err.ensures.cause }) c.add_fault.ensures
