use Rattle.std.proofs.Common.{◌≡◌, ℕ, ◌<◌, List, [], length, drop, Option, ap, subst, ◌∙◌, arith}
use Rattle.std.proofs.lemmas.List.{drop_all, drop-drop, length-drop}
use Rattle.twamp_control.specs.declared.types.Message.{Message}
use Rattle.twamp_control.specs.Connection.{Feeds}
use Rattle.control_desk.proofs.HandsFacts.{are_same_then, at_table}
use Rattle.control_desk.specs.declared.sides.ControlSide.{ControlSide}
use Rattle.control_desk.specs.Plan.{Plan}
use Rattle.control_desk.specs.Control.{control_plan}
use Rattle.control_desk.proofs.Following.{follows_as, follows_to, follows_then}
use Rattle.control_desk.proofs.TalkFacts.{ends, heard_some, fed_none, fed_some, takes_some}
use Rattle.control_desk.proofs.talking.hear_control.Goals as goal

pub returns-in_default-clause-done : goal.returns-in_default-clause-done
returns-in_default-clause-done g c = λ more gone. let f = c.args.setting.now in
    let a = c.args in
    let l = c.loop-at in
    let piece = drop l.at a.octets.now in
    let some : 0 < length piece = omega (arith, length-drop l.at a.octets.now, c.loop-at-test.true) in
    let feeds = subst (λ (o : Option Message). Feeds l.side.machine c.feed-taken.new.self piece c.feed-taken.result.0 o) c.in_default.is
    (subst (λ (p : List ℕ). Feeds l.side.machine c.feed-taken.new.self p c.feed-taken.result.0 c.feed-taken.result.1) c.rest_of.ensures c.feed-taken.ensures) in
    follows_to (heard_some f a.heard.conn a.heard.now more gone l.side piece some ∙ fed_none f a.heard.conn a.heard.now more gone l.side l.side.machine c.feed-taken.new.self piece c.feed-taken.result.0 feeds)
    (l.invariant.done more gone)

pub returns-then-not-hear_message-clause-done : goal.returns-then-not-hear_message-clause-done
returns-then-not-hear_message-clause-done g c = λ more gone. let f = c.args.setting.now in
    let a = c.args in
    let l = c.loop-at in
    let piece = drop l.at a.octets.now in
    let n = c.feed-taken.result.0 in
    let some : 0 < length piece = omega (arith, length-drop l.at a.octets.now, c.loop-at-test.true) in
    let feeds = subst (λ (o : Option Message). Feeds l.side.machine c.feed-taken.new.self piece n o) c.in-Some.is
    (subst (λ (p : List ℕ). Feeds l.side.machine c.feed-taken.new.self p n c.feed-taken.result.1) c.rest_of.ensures c.feed-taken.ensures) in
    let left : ControlSide → Plan = λ d. control_plan f a.heard.conn a.heard.now more gone d (drop n piece) in
    follows_then (l.invariant.done more gone)
    (follows_as (heard_some f a.heard.conn a.heard.now more gone l.side piece some ∙ fed_some f a.heard.conn a.heard.now more gone l.side l.side.machine c.feed-taken.new.self piece n c.in-Some.message feeds)
    (at_table l.invariant.same.table (c.if-not-hear_message.ensures.done left gone)))

pub loop-at-smaller : goal.loop-at-smaller
loop-at-smaller g c =
    let a = c.args in
    let l = c.loop-at in
    let piece = drop l.at a.octets.now in
    let n = c.feed-taken.result.0 in
    let feeds = subst (λ (o : Option Message). Feeds l.side.machine c.feed-taken.new.self piece n o) c.in-Some.is
    (subst (λ (p : List ℕ). Feeds l.side.machine c.feed-taken.new.self p n c.feed-taken.result.1) c.rest_of.ensures c.feed-taken.ensures) in
    omega (arith, takes_some _ _ piece n c.in-Some.message feeds, c.loop-at-test.true)

pub loop-at-preserved : goal.loop-at-preserved
loop-at-preserved g c =
    let a = c.args in
    let l = c.loop-at in
    let piece = drop l.at a.octets.now in
    let n = c.feed-taken.result.0 in
    let some : 0 < length piece = omega (arith, length-drop l.at a.octets.now, c.loop-at-test.true) in
    let feeds = subst (λ (o : Option Message). Feeds l.side.machine c.feed-taken.new.self piece n o) c.in-Some.is
    (subst (λ (p : List ℕ). Feeds l.side.machine c.feed-taken.new.self p n c.feed-taken.result.1) c.rest_of.ensures c.feed-taken.ensures) in
    record {
      same = are_same_then l.invariant.same c.hear_message.ensures.same;
      book = c.hear_message.ensures.book;
      within = omega (arith, feeds.taken, length-drop l.at a.octets.now, c.loop-at-test.true);
      done = λ more gone. let f = c.args.setting.now in
          let left : ControlSide → Plan = λ d. control_plan f a.heard.conn a.heard.now more gone d (drop n piece) in
          follows_then (l.invariant.done more gone)
          (follows_as (heard_some f a.heard.conn a.heard.now more gone l.side piece some ∙ fed_some f a.heard.conn a.heard.now more gone l.side l.side.machine c.feed-taken.new.self piece n c.in-Some.message feeds)
          (follows_to (ap (control_plan f a.heard.conn a.heard.now more gone c.hear_message.new.side) (drop-drop n l.at a.octets.now))
          (at_table l.invariant.same.table (c.if-not-hear_message.ensures.done left gone))));
    }

pub returns-clause-done : goal.returns-clause-done
returns-clause-done g c = λ more gone. let f = c.args.setting.now in
    let l = c.loop-at in
    let none : drop l.at c.args.octets.now ≡ [] = drop_all l.at c.args.octets.now (omega (arith, c.loop-at-test.false)) in
    follows_to (ap (control_plan f c.args.heard.conn c.args.heard.now more gone l.side) none ∙ ends f c.args.heard.conn c.args.heard.now more gone l.side) (l.invariant.done more gone)
