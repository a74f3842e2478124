use Rattle.replay_format.proofs.AnswerFacts.{wrapped}
use Rattle.replay_format.proofs.answer.write_sent.Goals as goal

pub returns-clause-octets : goal.returns-clause-octets
returns-clause-octets c =
    wrapped (record { from = c.args.from; to = c.args.to.now; number = c.args.number; octets = c.args.octets.now }) c.args.out.now c.put.new.out c.frame_reply.new.out c.requires.room c.put.ensures c.frame_reply.ensures.octets
