use Rattle.std.proofs.Common.{◌≡◌, ℕ, ◌-◌, refl, ap, arith}
use Rattle.session_desk.specs.Makes.{tells_length}
use Rattle.control_desk.proofs.HandsFacts.{are_same, are_same_then, at_table}
use Rattle.control_desk.specs.Plan.{Plan, live_len}
use Rattle.control_desk.specs.Operator.{list_from}
use Rattle.control_desk.proofs.Following.{follows_as, follows_to, follows_called, follows_then}
use Rattle.control_desk.proofs.OperatorFacts.{list_step, list_end}
use Rattle.control_desk.proofs.operator.list_line.Goals as goal

pub loop-index-init : goal.loop-index-init
loop-index-init g c = record {
  same = are_same _;
  book = c.requires.book;
  within = omega arith;
  done = λ s next.
      let plan : ℕ → Plan = λ all. list_from c.args.conn s next all 0 all in
      let all = c.live_len-all.result in
      let whole : all ≡ all - 0 = omega arith in
      follows_to (ap (list_from c.args.conn s next all 0) whole)
      (follows_called (live_len plan) (plan all) (tells_length all) (g.D.Shown.seen c.args.hands.now.desk.now) {n = c.args.hands.now.counts.now} refl (c.live_len-all.ensures c.args.hands.now.table.now) refl);
}

pub returns-then-not-list_one-clause-done : goal.returns-then-not-list_one-clause-done
returns-then-not-list_one-clause-done g c = λ s next.
    follows_then (c.loop-index.invariant.done s next)
    (follows_as (list_step c.args.conn s next c.live_len-all.result c.loop-index.index (omega (arith, c.loop-index-test.true)))
    (at_table c.loop-index.invariant.same.table (c.if-not-list_one.ensures.done s next _)))

pub loop-index-preserved : goal.loop-index-preserved
loop-index-preserved g c = record {
  same = are_same_then c.loop-index.invariant.same c.list_one.ensures.same;
  book = c.list_one.ensures.book;
  within = omega (arith, c.loop-index-test.true);
  done = λ s next.
      follows_then (c.loop-index.invariant.done s next)
      (follows_as (list_step c.args.conn s next c.live_len-all.result c.loop-index.index (omega (arith, c.loop-index-test.true)))
      (at_table c.loop-index.invariant.same.table (c.if-not-list_one.ensures.done s next _)));
}

pub returns-clause-done : goal.returns-clause-done
returns-clause-done g c = λ s next.
    follows_then (c.loop-index.invariant.done s next)
    (follows_as (list_end c.args.conn s next c.live_len-all.result c.loop-index.index (omega (arith, c.loop-index-test.false)))
    (c.answer.ensures c.args.hands.now.table.now s next _))
