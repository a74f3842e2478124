use Rattle.std.proofs.Common.{◌∙◌, true, false, sym}
use Rattle.tlv_integrity.proofs.Cases.{found_is, absent_is}
use Rattle.tlv_integrity.proofs.integrity.check_under.Goals as goal

pub returns-then-fits-clause-value : goal.returns-then-fits-clause-value
returns-then-fits-clause-value c = found_is c.args.mode _ c.args.sequence.now c.args.tail.now c.in-Hmac.span true c.in-Hmac.ensures (sym c.if-fits.true ∙ c.fits.ensures.value)

pub returns-else-fits-clause-value : goal.returns-else-fits-clause-value
returns-else-fits-clause-value c = found_is c.args.mode _ c.args.sequence.now c.args.tail.now c.in-Hmac.span false c.in-Hmac.ensures (sym c.if-fits.false ∙ c.fits.ensures.value)

pub returns-in-Rest-clause-value : goal.returns-in-Rest-clause-value
returns-in-Rest-clause-value c = c.without.ensures ∙ absent_is c.args.mode _ c.args.sequence.now c.args.tail.now c.in-Rest.at c.in-Rest.ensures
