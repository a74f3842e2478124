use Rattle.std.proofs.Common.{take}
use Rattle.session_desk.specs.Going.{DeskWent}
use Rattle.file_opening.specs.Opening.{OpensAll}
use Rattle.file_opening.specs.OpenedFirst.{HasOpenedFirst}
use Rattle.file_opening.proofs.open_sessions.Given as goal

abbrev pub invariant-loop-index : goal.invariant-loop-index
invariant-loop-index l = record {
  opens : OpensAll l.fn.table l.moment (take l.index l.fn.conf.sessions) l.fn.book l.book;
  went : DeskWent l.fn.table l.fn.book l.book;
  first : HasOpenedFirst l.fn.table l.fn.conf l.moment l.index l.book;
}
