use Rattle.slot_word.proofs.Laws.{closing_keeps, closing_closes, opening_keeps, opening_opens}
use Rattle.slot_word.proofs.field_laws.law_closed.Goals as goal

pub returns : goal.returns
returns c = record { closing = closing_keeps; closed = closing_closes; opening = opening_keeps; opened = opening_opens }
