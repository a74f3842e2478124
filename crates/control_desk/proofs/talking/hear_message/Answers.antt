use Rattle.control_desk.proofs.Following.{follows_then}
use Rattle.control_desk.proofs.HandsFacts.{are_same_then, at_table}
use Rattle.control_desk.proofs.talking.hear_message.Goals as goal

pub returns-clause-same : goal.returns-clause-same
returns-clause-same g c = are_same_then c.do_asked-answer.ensures.same c.reply.ensures.same

pub returns-clause-done : goal.returns-clause-done
returns-clause-done g c = λ more gone. let f = c.args.setting.now in
    follows_then (c.do_asked-answer.ensures.done more gone) (at_table c.do_asked-answer.ensures.same.table (c.reply.ensures.done more gone))
