use Rattle.std.proofs.Common.{[], ◌∷◌, sym, subst}
use Rattle.refl_types.specs.Spelling.{FitsSession}
use Rattle.session_key.specs.Words.{key_words, AreKeyWords}
use Rattle.session_key.proofs.WordLaws.{are_key_words}
use Rattle.session_key.proofs.words.key_words.Goals as goal

pub returns-clause-value : goal.returns-clause-value
unfolding key_words
returns-clause-value c =
    let w = c.first_words-first.ensures in
    let fourth = c.extra_word-fourth.ensures in
    λ i. w.first i ∷ w.second i ∷ w.third i ∷ fourth i ∷ []

pub returns-clause-words : goal.returns-clause-words
returns-clause-words c sound =
    let fits : FitsSession c.args.key.now c.args.extra.now = record { key = c.key_fits.ensures; reflect = c.number_fits.ensures; sound = sound } in
    subst AreKeyWords (sym (returns-clause-value c)) (are_key_words c.args.key.now c.args.extra.now fits)
