use Rattle.std.proofs.Common.{◌∙◌}
use Rattle.conf_text.proofs.TakenFacts.{taken_is}
use Rattle.conf_text.proofs.taken.Taken.excludes.Goals as goal

pub returns : goal.returns
returns c = λ sessions by. c.has.ensures.value ∙ taken_is c.args.self.now c.args.key.now sessions by c.has.ensures.fits
