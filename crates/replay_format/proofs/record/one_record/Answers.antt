use Rattle.replay_format.proofs.RecordFacts.{one_front}
use Rattle.replay_format.proofs.record.one_record.Goals as goal

pub returns : goal.returns
returns c = one_front
