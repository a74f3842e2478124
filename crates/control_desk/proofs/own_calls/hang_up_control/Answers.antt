use Rattle.control_desk.specs.Control.{end_all}
use Rattle.control_desk.proofs.Following.{follows_then}
use Rattle.control_desk.proofs.own_calls.hang_up_control.Goals as goal

pub returns-clause-done : goal.returns-clause-done
returns-clause-done g c = λ gone.
    follows_then (c.drop_line.ensures c.args.hands.now.table.now (end_all c.args.stage c.args.own.now gone) _ _) (c.end_sessions.ensures.done _ gone)
