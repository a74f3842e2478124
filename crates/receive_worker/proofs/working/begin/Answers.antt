use Rattle.std.proofs.Common.{rules}
use Rattle.receive_worker.proofs.working.begin.Goals as goal

pub returns-clause-retired : goal.returns-clause-retired
returns-clause-retired c = search rules

pub returns-clause-seat : goal.returns-clause-seat
returns-clause-seat c = search rules
