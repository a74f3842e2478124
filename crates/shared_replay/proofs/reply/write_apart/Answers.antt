use Rattle.std.proofs.Common.{refl, arith}
use Rattle.reflect_core.specs.Ends.{ends_told}
use Rattle.shared_replay.proofs.ReplyFacts.{framed_sent}
use Rattle.shared_replay.proofs.reply.write_apart.Goals as goal

pub returns : goal.returns
returns c =
    let s = c.args.session in
    let m = c.args.meta in
    let reply = c.reflect-reply in
    framed_sent c.args.locals.now s.mode s.extra s.config.now c.args.number m c.args.t3 c.args.octets.now reply.result (ends_told reply.result.elsewhere m) c.args.out.now reply.new.out c.frame.new.out
    refl c.requires.measured (omega (arith, c.requires.room, reply.ensures.limit)) reply.ensures.limit reply.ensures.reply c.frame.ensures.octets c.frame.ensures.len
