use Rattle.operator_lines.proofs.CutFacts.{NoneBefore}
use Rattle.operator_lines.proofs.reading.cut.Given as goal

abbrev pub invariant-loop-at : goal.invariant-loop-at
invariant-loop-at l = NoneBefore l.mark l.text l.at
