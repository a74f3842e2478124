use Rattle.file_opening.proofs.OnlyUsed.{only_used}
use Rattle.file_opening.proofs.laws.law_only_used.Goals as goal

pub returns : goal.returns
returns c = only_used
