use Rattle.load_gen.proofs.RecordFacts.{fits_peer}
use Rattle.load_gen.proofs.generating.peer.Goals as goal

pub returns-clause-fits : goal.returns-clause-fits
returns-clause-fits c = fits_peer c.args.number c.requires
