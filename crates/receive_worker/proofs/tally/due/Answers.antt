use Rattle.std.proofs.Common.{arith}
use Rattle.std.proofs.lemmas.Grind.{common_steps}
use Rattle.receive_worker.proofs.tally.due.Goals as goal

pub returns-then-failed-eq-FAULT_LIMIT-clause-value : goal.returns-then-failed-eq-FAULT_LIMIT-clause-value
returns-then-failed-eq-FAULT_LIMIT-clause-value c = grind (arith, common_steps)
