use Rattle.control_desk.specs.declared.counts.Verdict.TheVariants.{GoesOn, Over}
use Rattle.control_desk.specs.State.{without}
use Rattle.control_desk.specs.Plan.{hang_up}
use Rattle.control_desk.proofs.Following.{follows_then}
use Rattle.control_desk.proofs.answering.answer.Goals as goal

pub returns : goal.returns
returns g c = λ t s next b.
    let gone = next Over (without s c.args.conn) in
    let good = next GoesOn s in
    follows_then (c.if-send_line.ensures t good (hang_up c.args.conn gone) b) (c.drop_line.ensures t gone b _)
