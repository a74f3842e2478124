use Rattle.std.proofs.Common.{ap, sym, ◌∙◌}
use Rattle.std.specs.Result.{result_ok}
use Rattle.control_desk.specs.State.{at_names}
use Rattle.control_desk.specs.Operator.{read_plan}
use Rattle.control_desk.proofs.Following.{follows_as}
use Rattle.control_desk.proofs.OperatorFacts.{line_sound}
use Rattle.control_desk.proofs.operator.hear_line.Goals as goal

pub do_line-requires-clause-sound : goal.do_line-requires-clause-sound
do_line-requires-clause-sound g c = line_sound _ c.in-Ok.line c.in-Ok.ensures.is_line

pub returns-in-Err-clause-done : goal.returns-in-Err-clause-done
returns-in-Err-clause-done g c = λ s next. let f = c.args.setting.now in
    let u = at_names s c.args.names.now in
    follows_as (ap (read_plan f c.args.heard.conn c.args.heard.now u next) (sym c.read_line.ensures.value ∙ ap result_ok c.in-Err.is)) (c.answer.ensures c.args.hands.now.table.now u next _)

pub returns-in-Ok-clause-done : goal.returns-in-Ok-clause-done
returns-in-Ok-clause-done g c = λ s next. let f = c.args.setting.now in
    let u = at_names s c.args.names.now in
    follows_as (ap (read_plan f c.args.heard.conn c.args.heard.now u next) (sym c.read_line.ensures.value ∙ ap result_ok c.in-Ok.is)) (c.do_line.ensures.done s next)
