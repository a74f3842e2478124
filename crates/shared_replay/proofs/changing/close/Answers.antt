use Rattle.std.proofs.Common.{sym, subst}
use Rattle.session_desk.specs.Fits.{BookFits}
use Rattle.shared_replay.proofs.DeskFacts.{same_desk, close_desk, has_closed, not_closed}
use Rattle.shared_replay.proofs.changing.close.Goals as goal

pub returns-in_default-clause-after : goal.returns-in_default-clause-after
returns-in_default-clause-after c = same_desk c.requires.desk c.in_default.ensures.made.1

pub returns-in_default-clause-closed : goal.returns-in_default-clause-closed
returns-in_default-clause-closed c = λ t h apart. not_closed c.requires.desk c.law_fits.ensures (subst BookFits (sym c.in_default.ensures.made.1) c.law_fits.ensures) t h c.in_default.ensures.made.1 c.in_default.ensures.made.0

pub returns-clause-after : goal.returns-clause-after
returns-clause-after c = close_desk c.requires.desk c.law_fits.ensures c.law_fits-2.ensures c.in-Ok.ensures.made c.law_calls_tell.ensures c.law_rows_stay.ensures c.in-Ok.ensures.same

pub returns-clause-closed : goal.returns-clause-closed
returns-clause-closed c = λ t h apart. has_closed c.requires.desk c.law_fits.ensures c.law_fits-2.ensures c.in-Ok.ensures.made t c.law_calls_tell.ensures h apart
