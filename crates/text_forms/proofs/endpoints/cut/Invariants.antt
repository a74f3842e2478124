use Rattle.text_forms.proofs.CutFacts.{NoneBefore}
use Rattle.text_forms.proofs.endpoints.cut.Given as goal

abbrev pub invariant-loop-at : goal.invariant-loop-at
invariant-loop-at l = NoneBefore l.mark l.text l.at
