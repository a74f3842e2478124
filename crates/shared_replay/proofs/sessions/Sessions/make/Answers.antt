use Rattle.std.proofs.Common.{refl}
use Rattle.shared_replay.proofs.Standing.{stands_first}
use Rattle.shared_replay.proofs.sessions.Sessions.make.Goals as goal

pub returns : goal.returns
returns c =
    let new = c.in-Ok.ensures.opened in
    stands_first _ c.in-Ok.seat c.in-Ok-make.book _ c.law_begins.ensures new.limits refl new.steps new.joined c.in-Ok-make.ensures.made refl
