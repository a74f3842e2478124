use Rattle.conf_text.proofs.TakenFacts.{none_taken}
use Rattle.conf_text.proofs.taken.Taken.new.Goals as goal

pub returns : goal.returns
returns c = none_taken (record { modes = c.new.result; keys = c.new-2.result }) c.new.ensures.empty c.new-2.ensures.empty
