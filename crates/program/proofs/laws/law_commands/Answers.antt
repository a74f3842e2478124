use Rattle.program.proofs.Spelled.{Numbers, words_read, words_written}
use Rattle.program.proofs.laws.law_commands.Goals as goal

pub returns : goal.returns
returns c =
    let numbers : Numbers = record { read = c.law_number_texts.ensures.read; written = c.law_number_texts.ensures.written } in
    record { read = words_read numbers; written = words_written numbers }
