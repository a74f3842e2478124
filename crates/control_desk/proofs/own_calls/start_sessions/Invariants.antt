use Rattle.std.proofs.Common.{drop}
use Rattle.session_desk.specs.Book.{IsBookOf}
use Rattle.control_desk.specs.declared.counts.Counts.{Counts}
use Rattle.control_desk.specs.Plan.{Plan, DeskView, Follows}
use Rattle.control_desk.specs.Control.{start_all}
use Rattle.control_desk.proofs.own_calls.start_sessions.Given as goal

abbrev pub invariant-loop-session : goal.invariant-loop-session
invariant-loop-session g l = record {
  book : IsBookOf l.table l.book;
  done : (d : DeskView g.row.D-Setup.Denot g.row.D.Denot g.D.Shown.steps) (n : Counts) (more : Plan) → Follows l.table (start_all l.now l.own more) (start_all l.now (drop l.session-index l.own) more) d d l.fn.book l.book n n;
}
