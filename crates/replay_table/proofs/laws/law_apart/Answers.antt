use Rattle.replay_table.specs.Table.{empty_table}
use Rattle.replay_table.proofs.ApartFacts.{all}
use Rattle.replay_table.proofs.laws.law_apart.Goals as goal

pub returns : goal.returns
returns c = λ items. all empty_table items tt
