use Rattle.std.proofs.Common.{sym, ap, ◌∙◌}
use Rattle.control_desk.specs.State.{side_in}
use Rattle.control_desk.specs.Plan.{hang_up}
use Rattle.control_desk.specs.Connections.{state_of}
use Rattle.control_desk.specs.declared.sides.Side.TheVariants.{Operator}
use Rattle.control_desk.specs.State.{with_connection}
use Rattle.control_desk.specs.Run.{opened_plan, greet}
use Rattle.control_desk.proofs.Choices.{if_true, if_false}
use Rattle.control_desk.proofs.Following.{follows_as, follows_none}
use Rattle.control_desk.proofs.IndexFacts.{no_side, some_side}
use Rattle.control_desk.proofs.hearing.hear_opened.Goals as goal

pub returns-then-has : goal.returns-then-has
returns-then-has g c = λ f t next b twamp.
    let a = c.args in
    let s = state_of a.places.now in
    let known = some_side (side_in s.connections a.heard.conn) (sym c.has.ensures ∙ c.if-has.true) in
    follows_as (ap (opened_plan f s a.heard.conn a.heard.now a.caller.now.kind a.caller.now.peer a.caller.now.local next) known.1) (follows_none _ _ _ _)

pub returns-then-refuses : goal.returns-then-refuses
returns-then-refuses g c = λ f t next b twamp.
    let a = c.args in
    let s = state_of a.places.now in
    let known = no_side (side_in s.connections a.heard.conn) (sym c.has.ensures ∙ c.if-has.false) in
    follows_as (ap (opened_plan f s a.heard.conn a.heard.now a.caller.now.kind a.caller.now.peer a.caller.now.local next) known
    ∙ if_true _ (hang_up a.heard.conn (next s)) (greet s a.heard.conn a.heard.now a.caller.now.peer a.caller.now.local next a.caller.now.kind) (sym (c.refuses.ensures.value f twamp) ∙ c.if-refuses.true))
    (c.drop_line.ensures t (next s) b _)

pub returns-in-Operator : goal.returns-in-Operator
returns-in-Operator g c = λ f t next b twamp.
    let a = c.args in
    let s = state_of a.places.now in
    let known = no_side (side_in s.connections a.heard.conn) (sym c.has.ensures ∙ c.if-has.false) in
    follows_as (ap (opened_plan f s a.heard.conn a.heard.now a.caller.now.kind a.caller.now.peer a.caller.now.local next) known
    ∙ if_false _ (hang_up a.heard.conn (next s)) (greet s a.heard.conn a.heard.now a.caller.now.peer a.caller.now.local next a.caller.now.kind) (sym (c.refuses.ensures.value f twamp) ∙ c.if-refuses.false)
    ∙ ap (greet s a.heard.conn a.heard.now a.caller.now.peer a.caller.now.local next) c.in-Operator.is
    ∙ ap (λ (held : _). next (with_connection s a.heard.conn (Operator held))) (sym c.new.ensures)
    ∙ ap next (sym c.add.ensures))
    (follows_none _ _ _ _)

pub returns-in-Control : goal.returns-in-Control
returns-in-Control g c = λ f t next b twamp.
    let a = c.args in
    let s = state_of a.places.now in
    let known = no_side (side_in s.connections a.heard.conn) (sym c.has.ensures ∙ c.if-has.false) in
    follows_as (ap (opened_plan f s a.heard.conn a.heard.now a.caller.now.kind a.caller.now.peer a.caller.now.local next) known
    ∙ if_false _ (hang_up a.heard.conn (next s)) (greet s a.heard.conn a.heard.now a.caller.now.peer a.caller.now.local next a.caller.now.kind) (sym (c.refuses.ensures.value f twamp) ∙ c.if-refuses.false)
    ∙ ap (greet s a.heard.conn a.heard.now a.caller.now.peer a.caller.now.local next) c.in-Control.is)
    (c.greet_client.ensures t next b)
