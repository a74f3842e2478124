use Rattle.refl_types.proofs.TlvFacts.{known_by_mask}
use Rattle.refl_types.proofs.config.are_known_tlvs.Goals as goal

pub returns : goal.returns
returns c = known_by_mask c.args.tlvs c.ranges.tlvs.fits
