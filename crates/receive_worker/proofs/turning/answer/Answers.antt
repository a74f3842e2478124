use Rattle.reflect_core.specs.Arrived.{arrived}
use Rattle.receive_worker.proofs.TurnFacts.{none_failed, unanswered_turn, replied_turn}
use Rattle.receive_worker.proofs.turning.answer.Goals as goal

pub returns-in-Err-clause-read : goal.returns-in-Err-clause-read
returns-in-Err-clause-read g c = c.take_turn.ensures.turned.known.read c.requires.read

pub returns-in-Err-clause-turned : goal.returns-in-Err-clause-turned
returns-in-Err-clause-turned g c =
    unanswered_turn c.law_reads.ensures c.args.table.now (arrived c.args.datagram.now) c.args.known.now c.take_turn.new.known c.args.seat.now c.take_turn.new.seat (g.P.Port.shown c.args.port.now).log c.in-Err.why c.requires.read c.in-Err.ensures.turned

pub returns-in-Err-clause-faults : goal.returns-in-Err-clause-faults
returns-in-Err-clause-faults g c = none_failed (g.P.Port.shown c.args.port.now).faults c.in-Err.why c.in-Err.ensures.unsent

pub returns-clause-read : goal.returns-clause-read
returns-clause-read g c = c.take_turn.ensures.turned.known.read c.requires.read

pub returns-clause-turned : goal.returns-clause-turned
returns-clause-turned g c =
    replied_turn c.law_reads.ensures c.args.table.now (arrived c.args.datagram.now) c.args.known.now c.take_turn.new.known c.args.seat.now c.take_turn.new.seat (g.P.Port.shown c.args.port.now).log (g.P.Port.shown c.reply.new.port).log
    c.in-Ok.drawn c.config.result.now c.reply.result c.requires.read c.in-Ok.ensures.turned c.config.ensures c.reply.ensures.replies
