use Rattle.config_rows.proofs.WordLaws.{config_words_one, are_config_words, config_back, config_words_fit, words_back}
use Rattle.config_rows.proofs.laws.law_words.Goals as goal

pub returns : goal.returns
returns c = record { one = config_words_one; words = are_config_words; back = config_back; fits = config_words_fit; again = words_back }
