use Rattle.replay_format.proofs.RecordFacts.{read_back}
use Rattle.replay_format.proofs.record.read_again.Goals as goal

pub returns : goal.returns
returns c = read_back
