use Rattle.std.proofs.Common.{Some, ap}
use Rattle.control_desk.specs.declared.sides.ControlSide.{ControlSide}
use Rattle.control_desk.specs.declared.sides.Side.{Side}
use Rattle.control_desk.specs.declared.sides.Side.TheVariants.{Control}
use Rattle.control_desk.specs.declared.counts.Verdict.TheVariants.{GoesOn, Over}
use Rattle.control_desk.specs.State.{at_names, with_side, without}
use Rattle.control_desk.specs.Run.{bytes_plan}
use Rattle.control_desk.proofs.Following.{follows_as, follows_to}
use Rattle.control_desk.proofs.RunFacts.{operator_settled}
use Rattle.control_desk.proofs.hearing.hear_side.Goals as goal

pub returns-in-Operator-clause-done : goal.returns-in-Operator-clause-done
returns-in-Operator-clause-done g c = λ s next. let f = c.args.setting.now in
    let a = c.args in
    let u = at_names s a.names.now in
    follows_as (ap (λ (o : Side). bytes_plan f u a.heard.conn a.heard.now a.octets.now next (Some o)) c.in-Operator.is)
    (follows_to (ap (next c.hear_operator.result) (operator_settled c.hear_operator.result a.heard.conn c.hear_operator.new.line (at_names s c.hear_operator.new.names)))
    (c.hear_operator.ensures.done s next))

pub returns-then-hear_control-clause-done : goal.returns-then-hear_control-clause-done
returns-then-hear_control-clause-done g c = λ s next. let f = c.args.setting.now in
    let a = c.args in
    let u = at_names s a.names.now in
    follows_as (ap (λ (o : Side). bytes_plan f u a.heard.conn a.heard.now a.octets.now next (Some o)) c.in-Control.is)
    (c.if-hear_control.ensures.done (λ (d : ControlSide). next GoesOn (with_side u a.heard.conn (Control d))) (next Over (without u a.heard.conn)))

pub returns-else-hear_control-clause-done : goal.returns-else-hear_control-clause-done
returns-else-hear_control-clause-done g c = λ s next. let f = c.args.setting.now in
    let a = c.args in
    let u = at_names s a.names.now in
    follows_as (ap (λ (o : Side). bytes_plan f u a.heard.conn a.heard.now a.octets.now next (Some o)) c.in-Control.is)
    (c.if-hear_control.ensures.done (λ (d : ControlSide). next GoesOn (with_side u a.heard.conn (Control d))) (next Over (without u a.heard.conn)))
