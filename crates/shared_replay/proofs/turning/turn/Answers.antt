use Rattle.std.proofs.Common.{Err, sym, subst}
use Rattle.session_rule.specs.Seats.{size_of, worker_steps}
use Rattle.replay_format.specs.declared.code.UnsentCause.{UnsentCause}
use Rattle.replay_format.specs.Records.{Datagram, datagram_of}
use Rattle.shared_replay.specs.Turn.{Turned}
use Rattle.shared_replay.proofs.TookFacts.{unanswered_turn, replied_turn}
use Rattle.shared_replay.proofs.turning.turn.Goals as goal

pub returns-in-Err-clause-turned : goal.returns-in-Err-clause-turned
returns-in-Err-clause-turned c =
    let d : Datagram = datagram_of c.args.meta.now c.args.t3 c.args.octets.now in
    subst (λ (w : UnsentCause). Turned (size_of c.args.table.now) c.args.known.now c.take_turn.new.known (worker_steps c.take_turn.new.seat) c.args.locals.now d c.args.out.now c.args.out.now (Err w)) (sym c.told.ensures)
    (unanswered_turn c.args.table.now c.args.known.now c.take_turn.new.known c.args.worker.now c.take_turn.new.seat c.args.locals.now d c.args.out.now c.requires.fresh c.in-Err.why c.in-Err.ensures.turned)

pub returns-clause-turned : goal.returns-clause-turned
returns-clause-turned c =
    let d : Datagram = datagram_of c.args.meta.now c.args.t3 c.args.octets.now in
    replied_turn c.args.table.now c.args.known.now c.take_turn.new.known c.args.worker.now c.take_turn.new.seat c.args.locals.now d c.args.out.now c.requires.fresh c.write_sent.new.out c.in-Ok.drawn c.config.result.now c.write_sent.result
    c.in-Ok.ensures.turned c.config.ensures c.write_sent.ensures
