use Rattle.session_key.proofs.WordLaws.{key_words_one, are_key_words, key_back, extra_back, key_words_fit, words_back}
use Rattle.session_key.proofs.laws.law_words.Goals as goal

pub returns : goal.returns
returns c = record { one = key_words_one; words = are_key_words; key = key_back; extra = extra_back; fits = key_words_fit; again = words_back }
