use Rattle.std.proofs.Common.{ap, sym}
use Rattle.control_desk.specs.declared.counts.Verdict.{Verdict}
use Rattle.control_desk.specs.State.{at_names, settled}
use Rattle.control_desk.specs.Operator.{line_plan}
use Rattle.control_desk.proofs.Following.{follows_as, follows_to}
use Rattle.control_desk.proofs.operator.do_line.Goals as goal

pub returns-in-Close-clause-done : goal.returns-in-Close-clause-done
returns-in-Close-clause-done g c = λ s next. let f = c.args.setting.now in
    let u = at_names s c.args.names.now in
    follows_as (ap (line_plan f c.args.heard.conn c.args.heard.now u next) c.in-Close.is) (c.close_line.ensures.done u next)

pub returns-in-Count-clause-done : goal.returns-in-Count-clause-done
returns-in-Count-clause-done g c = λ s next. let f = c.args.setting.now in
    let u = at_names s c.args.names.now in
    follows_as (ap (line_plan f c.args.heard.conn c.args.heard.now u next) c.in-Count.is) (c.count_line.ensures.done u next)

pub returns-in-List-clause-done : goal.returns-in-List-clause-done
returns-in-List-clause-done g c = λ s next. let f = c.args.setting.now in
    let u = at_names s c.args.names.now in
    follows_as (ap (line_plan f c.args.heard.conn c.args.heard.now u next) c.in-List.is) (c.list_line.ensures.done u next)

pub returns-in-Quit-clause-done : goal.returns-in-Quit-clause-done
returns-in-Quit-clause-done g c = λ s next. let f = c.args.setting.now in
    let u = at_names s c.args.names.now in
    follows_as (ap (line_plan f c.args.heard.conn c.args.heard.now u next) c.in-Quit.is)
    (follows_to (ap (λ (v : Verdict). next v (settled v c.args.heard.conn u)) (sym c.quit_line.ensures.quits)) (c.quit_line.ensures.done u next c.args.hands.now.table.now _))
