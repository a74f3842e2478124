use Rattle.control_desk.specs.declared.counts.Verdict.TheVariants.{Quits}
use Rattle.control_desk.specs.Plan.{hang_up}
use Rattle.control_desk.proofs.Following.{follows_then}
use Rattle.control_desk.proofs.operator.quit_line.Goals as goal

pub returns-then-not-send_line-clause-done : goal.returns-then-not-send_line-clause-done
returns-then-not-send_line-clause-done g c = λ s next t b.
    let gone = next Quits s in
    follows_then (c.if-not-send_line.ensures t gone (hang_up c.args.conn gone) b) (c.drop_line.ensures t gone b _)
