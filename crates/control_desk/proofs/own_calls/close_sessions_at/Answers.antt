use Rattle.std.proofs.Common.{◌≡◌, List, [], drop, ap, arith}
use Rattle.std.proofs.lemmas.List.{drop_all}
use Rattle.control_desk.specs.declared.own.OwnSession.{OwnSession}
use Rattle.control_desk.specs.Control.{close_all_at}
use Rattle.control_desk.proofs.Following.{follows_to, follows_then}
use Rattle.control_desk.proofs.OwnFacts.{close_at_step}
use Rattle.control_desk.proofs.own_calls.close_sessions_at.Goals as goal

pub loop-session-preserved : goal.loop-session-preserved
loop-session-preserved g c = record {
  book = c.close_session_at.ensures.book;
  done = λ d n more.
      follows_then (c.loop-session.invariant.done d n more)
      (close_at_step d n c.args.now c.args.own.now c.loop-session.session-index _ more (omega (arith, c.loop-session-test.true)) (c.close_session_at.ensures.done d n));
}

pub returns-clause-done : goal.returns-clause-done
returns-clause-done g c = λ d n more.
    let l = c.loop-session in
    let none : drop l.session-index c.args.own.now ≡ [] = drop_all l.session-index c.args.own.now (omega (arith, c.loop-session-test.false)) in
    follows_to (ap (λ (os : List OwnSession). close_all_at c.args.now os more) none) (l.invariant.done d n more)
