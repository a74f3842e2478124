use Rattle.std.proofs.Common.{drop}
use Rattle.session_desk.specs.Book.{IsBookOf}
use Rattle.control_desk.specs.Plan.{Plan, DeskView, Follows}
use Rattle.control_desk.specs.Control.{close_all}
use Rattle.control_desk.proofs.own_calls.close_sessions.Given as goal

abbrev pub invariant-loop-session : goal.invariant-loop-session
invariant-loop-session g l = record {
  book : IsBookOf l.table l.book;
  done : (d : DeskView g.row.D-Setup.Denot g.row.D.Denot g.D.Shown.steps) (more : Plan) → Follows l.table (close_all l.own more) (close_all (drop l.session-index l.own) more) d d l.fn.book l.book l.fn.counts l.counts;
}
