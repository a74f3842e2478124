use Rattle.session_world.proofs.ReadWords.{loaded_words}
use Rattle.session_world.proofs.laws.law_words.Goals as goal

pub returns : goal.returns
returns c = loaded_words
