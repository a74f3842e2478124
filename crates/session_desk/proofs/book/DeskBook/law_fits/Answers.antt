use Rattle.std.proofs.Common.{subst}
use Rattle.session_desk.specs.Fits.{BookFits}
use Rattle.session_desk.proofs.Fitting.{fits}
use Rattle.session_desk.proofs.book.DeskBook.law_fits.Goals as goal

pub returns : goal.returns
returns c = subst BookFits c.self.view_is (fits c.law_desk_did.ensures c.self.inside.size c.self.inside.seat c.self.inside.rows c.self.inside.slots.items c.self.inside.live.items c.self.inside.reserved.items c.self.inside.taken.items c.self.inside.reach.items c.self.invariant.0 c.self.invariant.1)
