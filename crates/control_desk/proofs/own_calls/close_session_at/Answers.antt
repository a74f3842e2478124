use Rattle.std.proofs.Common.{ℕ, refl, subst}
use Rattle.session_desk.specs.Makes.{Makes, closes_at}
use Rattle.control_desk.specs.Plan.{close_at}
use Rattle.control_desk.specs.Control.{closing_moment}
use Rattle.control_desk.proofs.Following.{follows_called, follows_then}
use Rattle.control_desk.proofs.own_calls.close_session_at.Goals as goal

pub returns-then-is_own-clause-book : goal.returns-then-is_own-clause-book
returns-then-is_own-clause-book g c = c.close_at-answer.ensures.same c.args.table.now c.requires.book

pub returns-then-is_own-clause-done : goal.returns-then-is_own-clause-done
returns-then-is_own-clause-done g c = λ d n more.
    let o = c.args.session.now in
    let t = c.args.table.now in
    let plan = close_at o.key (closing_moment c.args.now o) (λ a. more) in
    let made = subst (λ (m : ℕ). Makes t (closes_at o.key m c.close_at-answer.result) c.args.book.now c.close_at-answer.new.self) c.closing_moment-moment.ensures (c.close_at-answer.ensures.made t) in
    follows_then (c.if-is_own.ensures d n plan more)
    (follows_called plan more (closes_at o.key (closing_moment c.args.now o) c.close_at-answer.result) d (refl, refl, refl) made refl)
