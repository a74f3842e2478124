use Rattle.std.proofs.Common.{arith}
use Rattle.load_gen.proofs.RecordFacts.{fits_arrival}
use Rattle.load_gen.proofs.generating.write_arrival.Goals as goal

pub write_record-requires-clause-fits : goal.write_record-requires-clause-fits
write_record-requires-clause-fits c = fits_arrival c.args.peer c.args.arrival c.args.octets.now c.requires.sender c.requires.early c.requires.limit (λ i. omega (arith, c.type_inv.octets i))

pub returns-clause-fits : goal.returns-clause-fits
returns-clause-fits c = fits_arrival c.args.peer c.args.arrival c.args.octets.now c.requires.sender c.requires.early c.requires.limit (λ i. omega (arith, c.type_inv.octets i))
