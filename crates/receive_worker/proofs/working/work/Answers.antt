use Rattle.std.proofs.Common.{subst}
use Rattle.session_world.specs.Sizes.{IsWithinLimits}
use Rattle.session_rule.specs.Seats.{size_of}
use Rattle.receive_worker.proofs.TurnFacts.{LetGo}
use Rattle.receive_worker.proofs.RoundFacts.{whole_work, whole_accounts, whole_given}
use Rattle.receive_worker.proofs.working.work.Goals as goal

pub returns-clause-worked : goal.returns-clause-worked
returns-clause-worked g c =
    let t = c.args.table.now in
    let gone : LetGo t c.args.seat.now c.begin.new.seat = record { come = c.begin.ensures.seat; nothing = c.begin.ensures.nothing; retired = c.begin.ensures.retired; answers = c.begin.ensures.answers } in
    whole_work t c.args.locals.now c.args.limit c.args.turns c.args.seat.now c.begin.new.seat c.take_all-tally.new.seat (g.P.Port.shown c.args.port.now) (g.P.Port.shown c.take_all-tally.new.port) (g.P.Port.shown c.done.new.self) c.take_all-tally.result
    gone c.take_all-tally.ensures.seat c.take_all-tally.ensures.nothing c.take_all-tally.ensures.retired c.take_all-tally.ensures.works c.done.ensures.log

pub returns-clause-accounts : goal.returns-clause-accounts
returns-clause-accounts g c =
    let t = c.args.table.now in
    let gone : LetGo t c.args.seat.now c.begin.new.seat = record { come = c.begin.ensures.seat; nothing = c.begin.ensures.nothing; retired = c.begin.ensures.retired; answers = c.begin.ensures.answers } in
    let within : IsWithinLimits (size_of t) = subst IsWithinLimits c.size-size.ensures.value c.size-size.ensures.limits in
    whole_accounts t c.args.locals.now c.args.limit c.args.turns c.args.seat.now c.begin.new.seat c.take_all-tally.new.seat (g.P.Port.shown c.args.port.now) (g.P.Port.shown c.take_all-tally.new.port) c.take_all-tally.result c.law_rows_read.ensures within gone
    c.take_all-tally.ensures.seat c.take_all-tally.ensures.works

pub returns-clause-coming : goal.returns-clause-coming
returns-clause-coming g c =
    whole_given c.args.table.now c.args.locals.now c.args.limit c.args.turns c.begin.new.seat c.take_all-tally.new.seat (g.P.Port.shown c.args.port.now) (g.P.Port.shown c.take_all-tally.new.port) (g.P.Port.shown c.done.new.self) c.take_all-tally.result
    c.take_all-tally.ensures.works c.done.ensures.log c.done.ensures.coming
