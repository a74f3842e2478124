use Rattle.std.proofs.Common.{◌≡◌, ◌+◌, [], drop, ap, ◌∙◌, arith}
use Rattle.std.proofs.lemmas.List.{drop_all}
use Rattle.control_desk.specs.State.{at_names}
use Rattle.control_desk.specs.Operator.{operator_plan}
use Rattle.control_desk.proofs.Following.{follows_as, follows_to, follows_then}
use Rattle.control_desk.proofs.HandsFacts.{are_same_then, at_table}
use Rattle.control_desk.proofs.OperatorFacts.{next_octet, no_octet}
use Rattle.control_desk.proofs.piece.hear_operator.Goals as goal

pub returns-in-Over-clause-done : goal.returns-in-Over-clause-done
returns-in-Over-clause-done g c = λ s next. let f = c.args.setting.now in
    let l = c.loop-octet in
    follows_then (l.invariant.done s next)
    (follows_as (ap (operator_plan f c.args.heard.conn c.args.heard.now (at_names s l.names) next l.line) (next_octet c.args.octets.now l.octet-index (omega (arith, c.loop-octet-test.true))))
    (at_table l.invariant.same.table (c.in-Over.ensures.done s next (drop (l.octet-index + 1) c.args.octets.now))))

pub returns-in-Quits-clause-done : goal.returns-in-Quits-clause-done
returns-in-Quits-clause-done g c = λ s next. let f = c.args.setting.now in
    let l = c.loop-octet in
    follows_then (l.invariant.done s next)
    (follows_as (ap (operator_plan f c.args.heard.conn c.args.heard.now (at_names s l.names) next l.line) (next_octet c.args.octets.now l.octet-index (omega (arith, c.loop-octet-test.true))))
    (at_table l.invariant.same.table (c.in-Quits.ensures.done s next (drop (l.octet-index + 1) c.args.octets.now))))

pub loop-octet-preserved : goal.loop-octet-preserved
loop-octet-preserved g c = record {
  same = are_same_then c.loop-octet.invariant.same c.hear_octet.ensures.same;
  book = c.hear_octet.ensures.book;
  done = λ s next. let f = c.args.setting.now in
      let l = c.loop-octet in
      follows_then (l.invariant.done s next)
      (follows_as (ap (operator_plan f c.args.heard.conn c.args.heard.now (at_names s l.names) next l.line) (next_octet c.args.octets.now l.octet-index (omega (arith, c.loop-octet-test.true))))
      (at_table l.invariant.same.table (c.in-GoesOn.ensures.done s next (drop (l.octet-index + 1) c.args.octets.now))));
}

pub returns-clause-done : goal.returns-clause-done
returns-clause-done g c = λ s next. let f = c.args.setting.now in
    let l = c.loop-octet in
    let none : drop l.octet-index c.args.octets.now ≡ [] = drop_all l.octet-index c.args.octets.now (omega (arith, c.loop-octet-test.false)) in
    follows_to (ap (operator_plan f c.args.heard.conn c.args.heard.now (at_names s l.names) next l.line) none ∙ no_octet f c.args.heard.conn c.args.heard.now (at_names s l.names) next l.line)
    (l.invariant.done s next)
