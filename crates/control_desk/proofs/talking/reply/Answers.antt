use Rattle.std.proofs.Common.{◌≡◌, ℕ, true, false, List, length, take, drop, sym, ap, ◌∙◌}
use Rattle.std.proofs.lemmas.List.{take_at}
use Rattle.twamp_control.specs.declared.types.Stage.{Stage}
use Rattle.twamp_control.specs.declared.types.Stepped.{Stepped}
use Rattle.twamp_control.specs.Connection.{Connection, is_hung_up, unless_hung_up}
use Rattle.twamp_control.specs.Table.{row_of, written_over}
use Rattle.control_desk.specs.declared.own.OwnSession.{OwnSession}
use Rattle.control_desk.specs.Control.{send_some, behind_reply, stage_behind, hang_up_plan}
use Rattle.control_desk.proofs.Choices.{if_true, if_false}
use Rattle.control_desk.proofs.Following.{follows_as, follows_to, follows_then}
use Rattle.control_desk.proofs.talking.reply.Goals as goal

-- the octets that were written are the reply
reply_octets : (old reply out : List ℕ) (n : ℕ) → out ≡ written_over old reply → n ≡ length reply → take n out ≡ reply
reply_octets old reply out n e h = ap (take n) e ∙ take_at reply (drop (length reply) old) n (sym h)

pub returns-then-not-send_some-clause-done : goal.returns-then-not-send_some-clause-done
returns-then-not-send_some-clause-done g c = λ more gone.
    let a = c.args in
    let side = a.side.now in
    let row = row_of side.machine a.message.now a.answer.now a.heard.now in
    let s = c.step-stepped.ensures in
    let sent = behind_reply a.heard.conn more gone side row in
    let failed = hang_up_plan a.heard.conn (stage_behind side row) side.sessions gone in
    let octets = reply_octets _ row.reply _ _ s.reply (ap (λ (x : Stepped). x.len) s.stepped) in
    let stage : c.stage_behind-stage.result ≡ stage_behind side row =
    c.stage_behind-stage.ensures ∙ ap (λ (after : Stage). unless_hung_up after c.stage-before.result after) (c.stage.ensures ∙ ap (λ (m : Connection). m.stage) s.goes_on)
    ∙ ap (λ (before : Stage). unless_hung_up row.next.stage before row.next.stage) c.stage-before.ensures in
    follows_as (ap (λ (o : List ℕ). send_some a.heard.conn o sent failed) (sym octets))
    (follows_then (c.if-not-send_some.ensures a.hands.now.table.now sent failed _)
    (follows_as (ap (λ (t : Stage). hang_up_plan a.heard.conn t side.sessions gone) (sym stage) ∙ ap (λ (os : List OwnSession). hang_up_plan a.heard.conn c.stage_behind-stage.result os gone) (sym c.list.ensures))
    (c.hang_up_control.ensures.done gone)))

pub returns-then-stepped-clause-done : goal.returns-then-stepped-clause-done
returns-then-stepped-clause-done g c = λ more gone.
    let a = c.args in
    let side = a.side.now in
    let row = row_of side.machine a.message.now a.answer.now a.heard.now in
    let s = c.step-stepped.ensures in
    let sent = behind_reply a.heard.conn more gone side row in
    let failed = hang_up_plan a.heard.conn (stage_behind side row) side.sessions gone in
    let octets = reply_octets _ row.reply _ _ s.reply (ap (λ (x : Stepped). x.len) s.stepped) in
    let stage : c.stage_behind-stage.result ≡ stage_behind side row =
    c.stage_behind-stage.ensures ∙ ap (λ (after : Stage). unless_hung_up after c.stage-before.result after) (c.stage.ensures ∙ ap (λ (m : Connection). m.stage) s.goes_on)
    ∙ ap (λ (before : Stage). unless_hung_up row.next.stage before row.next.stage) c.stage-before.ensures in
    let over : is_hung_up row.next.stage ≡ true = sym (ap (λ (x : Stepped). x.hang_up) s.stepped) ∙ c.if-stepped.true in
    follows_as (ap (λ (o : List ℕ). send_some a.heard.conn o sent failed) (sym octets))
    (follows_then (c.if-not-send_some.ensures a.hands.now.table.now sent failed _)
    (follows_as (if_true _ failed (more (record side { machine = row.next })) over
    ∙ ap (λ (t : Stage). hang_up_plan a.heard.conn t side.sessions gone) (sym stage) ∙ ap (λ (os : List OwnSession). hang_up_plan a.heard.conn c.stage_behind-stage.result os gone) (sym c.list-then-stepped.ensures))
    (c.hang_up_control-then-stepped.ensures.done gone)))

pub returns-clause-done : goal.returns-clause-done
returns-clause-done g c = λ more gone.
    let a = c.args in
    let side = a.side.now in
    let row = row_of side.machine a.message.now a.answer.now a.heard.now in
    let s = c.step-stepped.ensures in
    let sent = behind_reply a.heard.conn more gone side row in
    let failed = hang_up_plan a.heard.conn (stage_behind side row) side.sessions gone in
    let octets = reply_octets _ row.reply _ _ s.reply (ap (λ (x : Stepped). x.len) s.stepped) in
    let on : is_hung_up row.next.stage ≡ false = sym (ap (λ (x : Stepped). x.hang_up) s.stepped) ∙ c.if-stepped.false in
    follows_as (ap (λ (o : List ℕ). send_some a.heard.conn o sent failed) (sym octets))
    (follows_to (if_false _ failed (more (record side { machine = row.next })) on ∙ ap (λ (m : Connection). more (record side { machine = m })) (sym s.goes_on))
    (c.if-not-send_some.ensures a.hands.now.table.now sent failed _))
