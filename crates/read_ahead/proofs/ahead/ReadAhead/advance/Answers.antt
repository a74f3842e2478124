use Rattle.read_ahead.proofs.Places.{between_advance}
use Rattle.read_ahead.proofs.ahead.ReadAhead.advance.Goals as goal

pub returns : goal.returns
returns c = between_advance c.args.self.now.octets.items c.args.self.now.from c.args.self.now.to c.args.count c.requires
