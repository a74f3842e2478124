use Rattle.std.proofs.Common.{sym, ap, Option, arith}
use Rattle.reflect_core.specs.declared.ends.Ends.{Ends}
use Rattle.reflect_core.specs.Ends.{ends_told}
use Rattle.shared_replay.proofs.ReplyFacts.{framed_sent}
use Rattle.shared_replay.proofs.reply.write_sent.Goals as goal

pub returns : goal.returns
returns c =
    let s = c.args.session.now in
    let m = c.args.meta.now in
    let reply = c.reflect_usual-reply in
    framed_sent c.args.locals.now s.mode s.extra s.config.now c.args.number m c.args.t3 c.args.octets.now reply.result (record { from = m.local; to = m.peer }) c.args.out.now reply.new.out c.frame_reply.new.out
    (ap (λ (e : Option Ends). ends_told e m) (sym reply.ensures.back)) c.requires.measured (omega (arith, c.requires.room, reply.ensures.limit)) reply.ensures.limit reply.ensures.reply c.frame_reply.ensures.octets c.frame_reply.ensures.len
