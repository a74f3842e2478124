use Rattle.std.proofs.Common.{rules}
use Rattle.receive_worker.proofs.turning.turn.Goals as goal

pub answer-requires-clause-read : goal.answer-requires-clause-read
answer-requires-clause-read g c = search rules
