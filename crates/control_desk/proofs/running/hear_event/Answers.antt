use Rattle.std.proofs.Common.{take, sym, ap}
use Rattle.net_io.specs.declared.desk.DeskEvent.{DeskEvent}
use Rattle.net_io.specs.Desk.{octet_count}
use Rattle.control_desk.specs.Connections.{state_of}
use Rattle.control_desk.specs.Run.{event_plan, behind_event}
use Rattle.control_desk.proofs.Following.{follows_as}
use Rattle.control_desk.proofs.running.hear_event.Goals as goal

pub returns-in-Opened-clause-done : goal.returns-in-Opened-clause-done
returns-in-Opened-clause-done g c = λ more. let f = c.args.setting.now in
    let a = c.args in
    follows_as (ap (λ (e : DeskEvent). event_plan f (state_of a.places.now) a.timed.now.moment (take (octet_count e) a.piece.now) (behind_event more) e) c.in-Opened.is)
    (c.hear_opened.ensures f a.hands.now.table.now more _ (sym c.twamp.ensures))

pub returns-in-Bytes-clause-done : goal.returns-in-Bytes-clause-done
returns-in-Bytes-clause-done g c = λ more. let f = c.args.setting.now in
    let a = c.args in
    follows_as (ap (λ (e : DeskEvent). event_plan f (state_of a.places.now) a.timed.now.moment (take (octet_count e) a.piece.now) (behind_event more) e) c.in-Bytes.is)
    (c.hear_bytes.ensures.done more)

pub returns-in-Closed-clause-done : goal.returns-in-Closed-clause-done
returns-in-Closed-clause-done g c = λ more. let f = c.args.setting.now in
    let a = c.args in
    follows_as (ap (λ (e : DeskEvent). event_plan f (state_of a.places.now) a.timed.now.moment (take (octet_count e) a.piece.now) (behind_event more) e) c.in-Closed.is)
    (c.hear_closed.ensures.done _ more)

pub returns-in-Tick-clause-done : goal.returns-in-Tick-clause-done
returns-in-Tick-clause-done g c = λ more. let f = c.args.setting.now in
    let a = c.args in
    follows_as (ap (λ (e : DeskEvent). event_plan f (state_of a.places.now) a.timed.now.moment (take (octet_count e) a.piece.now) (behind_event more) e) c.in-Tick.is)
    (c.hear_tick.ensures.done more)
