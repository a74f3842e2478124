use Rattle.std.proofs.Common.{refl}
use Rattle.program.proofs.top.stampd.Goals as goal

pub returns-in_default-clause-load : goal.returns-in_default-clause-load
returns-in_default-clause-load g c = λ seed count is.
    let h = c.offline.ensures.load seed count is in
    (h.0, h.1, h.2, refl, refl)
