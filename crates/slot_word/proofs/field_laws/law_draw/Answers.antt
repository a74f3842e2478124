use Rattle.slot_word.proofs.Laws.{drawn}
use Rattle.slot_word.proofs.field_laws.law_draw.Goals as goal

pub returns : goal.returns
returns c = drawn
