use Rattle.std.proofs.Common.{arith}
use Rattle.std.proofs.lemmas.Grind.{common_steps}
use Rattle.receive_worker.proofs.tally.Tally.add.Goals as goal

pub returns-in-Err-NoReply : goal.returns-in-Err-NoReply
returns-in-Err-NoReply c = grind (arith, common_steps)
