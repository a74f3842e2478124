use Rattle.std.proofs.Common.{◌++◌, List, drop}
use Rattle.session_desk.specs.Book.{IsBookOf}
use Rattle.control_desk.specs.declared.counts.Counts.{Counts}
use Rattle.control_desk.specs.Plan.{DeskView, Follows}
use Rattle.control_desk.specs.Control.{NextAnswer, Candidate, is_candidate, chosen, try_all}
use Rattle.control_desk.proofs.requests.try_locals.Given as goal

abbrev pub invariant-loop-i : goal.invariant-loop-i
invariant-loop-i g l = record {
  book : IsBookOf l.table l.book;
  done : (d : DeskView g.row.D-Setup.Denot g.row.D.Denot g.D.Shown.steps) (n : Counts) (next : NextAnswer) (rest : List Candidate) →
      Follows l.table (try_all l.wish.config.now l.wish.extra.now l.wish.from.now l.wish.request.now next (chosen (is_candidate l.wish.request.now.v6 l.wish.to.now l.wish.request.now.receiver_port l.wanted) 0 l.locals ++ rest))
      (try_all l.wish.config.now l.wish.extra.now l.wish.from.now l.wish.request.now next (chosen (is_candidate l.wish.request.now.v6 l.wish.to.now l.wish.request.now.receiver_port l.wanted) l.i (drop l.i l.locals) ++ rest)) d d l.fn.book l.book n n;
}
