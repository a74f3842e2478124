use Rattle.std.proofs.Common.{List, [], sym, ap, ◌∙◌}
use Rattle.twamp_control.specs.declared.types.Stage.{Stage}
use Rattle.twamp_control.specs.declared.types.DeskAnswer.TheVariants.{Done}
use Rattle.control_desk.specs.declared.own.OwnSession.{OwnSession}
use Rattle.control_desk.specs.Plan.{Plan}
use Rattle.control_desk.specs.declared.sides.ControlSide.{ControlSide}
use Rattle.control_desk.specs.Control.{asked_plan, reply_plan, start_all, stop_all}
use Rattle.control_desk.proofs.Following.{follows_none, follows_as, follows_then}
use Rattle.control_desk.proofs.talking.do_asked.Goals as goal

pub returns-in-Reserve-clause-done : goal.returns-in-Reserve-clause-done
returns-in-Reserve-clause-done g c = λ more gone. let f = c.args.setting.now in
    let a = c.args in
    follows_as (ap (asked_plan f a.heard.conn a.heard.now more gone a.side.now a.message.now) (sym c.ask.ensures ∙ c.in-Reserve.is))
    (c.reserve_session.ensures.done f _ _ (λ answer side. reply_plan a.heard.conn a.heard.now more gone a.message.now side answer) (sym c.locals.ensures.value) (sym c.twamp.ensures))

pub returns-in-StartAll-clause-done : goal.returns-in-StartAll-clause-done
returns-in-StartAll-clause-done g c = λ more gone. let f = c.args.setting.now in
    let a = c.args in
    let replied = reply_plan a.heard.conn a.heard.now more gone a.message.now a.side.now Done in
    follows_as (ap (asked_plan f a.heard.conn a.heard.now more gone a.side.now a.message.now) (sym c.ask.ensures ∙ c.in-StartAll.is) ∙ ap (λ (os : List OwnSession). start_all a.heard.now os replied) (sym c.list.ensures))
    (c.start_sessions.ensures.done _ _ replied)

pub returns-in-Nothing-clause-done : goal.returns-in-Nothing-clause-done
returns-in-Nothing-clause-done g c = λ more gone. let f = c.args.setting.now in
    let a = c.args in
    follows_as (ap (asked_plan f a.heard.conn a.heard.now more gone a.side.now a.message.now) (sym c.ask.ensures ∙ c.in-Nothing.is)) (follows_none _ _ _ _)

pub returns-in-HangUp-clause-done : goal.returns-in-HangUp-clause-done
returns-in-HangUp-clause-done g c = λ more gone. let f = c.args.setting.now in
    let a = c.args in
    follows_as (ap (asked_plan f a.heard.conn a.heard.now more gone a.side.now a.message.now) (sym c.ask.ensures ∙ c.in-HangUp.is)) (follows_none _ _ _ _)

pub returns-in-StopAll-clause-done : goal.returns-in-StopAll-clause-done
returns-in-StopAll-clause-done g c = λ more gone. let f = c.args.setting.now in
    let a = c.args in
    let side = a.side.now in
    let plan : List OwnSession → Plan = λ os. (let left : ControlSide = record side { sessions = os } in reply_plan a.heard.conn a.heard.now more gone a.message.now left Done) in
    follows_as (ap (asked_plan f a.heard.conn a.heard.now more gone side a.message.now) (sym c.ask.ensures ∙ c.in-StopAll.is)
    ∙ ap (λ (s : Stage). stop_all s a.heard.now side.sessions (plan [])) (sym c.stage-current.ensures)
    ∙ ap (λ (os : List OwnSession). stop_all c.stage-current.result a.heard.now os (plan [])) (sym c.list-in-StopAll.ensures))
    (follows_then (c.stop_sessions.ensures.done _ _ (plan []))
    (follows_as (ap plan (sym c.clear.ensures)) (follows_none _ _ _ _)))
