use Rattle.replay_format.proofs.AnswerLaws.{one_front}
use Rattle.replay_format.proofs.answer.one_answer.Goals as goal

pub returns : goal.returns
returns c = one_front
