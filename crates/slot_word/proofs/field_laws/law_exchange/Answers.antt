use Rattle.slot_word.proofs.Laws.{exchanged}
use Rattle.slot_word.proofs.field_laws.law_exchange.Goals as goal

pub returns : goal.returns
returns c = exchanged
