use Rattle.slot_word.proofs.Laws.{word_has, word_back, sequence_range, generation_range, row_range}
use Rattle.slot_word.proofs.field_laws.law_fields.Goals as goal

pub returns : goal.returns
returns c = record { fields = word_has; back = word_back; sequence = sequence_range; generation = generation_range; row = row_range }
