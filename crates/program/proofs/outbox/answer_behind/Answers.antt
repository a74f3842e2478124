use Rattle.std.proofs.Common.{length, ◌-◌, arith}
use Rattle.program.proofs.Places.{put_behind}
use Rattle.program.proofs.outbox.answer_behind.Goals as goal

pub returns-clause-answer : goal.returns-clause-answer
returns-clause-answer c = λ records stands within.
    let octets = c.args.octets.now in
    let a = c.answer.ensures.answered records stands within in
    (put_behind octets c.answer.new.out c.args.at (length octets - c.args.at) c.answer.result _ _ (omega (arith, c.requires.room)) a.octets a.len, a.stands)
