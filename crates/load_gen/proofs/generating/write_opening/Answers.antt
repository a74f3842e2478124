use Rattle.load_gen.proofs.RecordFacts.{fits_opening}
use Rattle.load_gen.proofs.generating.write_opening.Goals as goal

pub returns-clause-fits : goal.returns-clause-fits
returns-clause-fits c = fits_opening c.args.number c.requires
