use Rattle.std.proofs.Common.{◌/◌, ◌%◌, ◌^◌, get_or, refl, ◌∙◌, arith}
use Rattle.refl_types.specs.Keys.{is_sound}
use Rattle.session_key.specs.Words.{key_of_words, extra_of_words}
use Rattle.session_key.proofs.WordLaws.{key_words_fit}
use Rattle.session_key.proofs.words.from_key_words.Goals as goal

pub overflow_cast-extra : goal.overflow_cast-extra
unfolding extra_of_words
overflow_cast-extra c = omega (arith, (key_words_fit c.args.words.now c.requires).reflect)

pub returns-clause-key : goal.returns-clause-key
unfolding key_of_words
returns-clause-key c =
    let n = get_or c.args.words.now 2 0 in
    let address = c.address_of.ensures in
    let mode = c.mode_of.ensures in
    λ i. record { local = n / 2 ^ 16 % 2 ^ 16; peer = record { address = address i; port = n / 2 ^ 48 }; mode = mode i; ssid = n / 2 ^ 32 % 2 ^ 16 }

pub returns-clause-extra : goal.returns-clause-extra
unfolding extra_of_words
returns-clause-extra c = refl

pub returns-clause-sound : goal.returns-clause-sound
returns-clause-sound c =
    let fits = key_words_fit c.args.words.now c.requires in
    (λ i. is_sound (returns-clause-key c i) (returns-clause-extra c i)) ∙ fits.sound
