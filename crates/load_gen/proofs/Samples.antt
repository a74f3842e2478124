-- The generator, computed.
use Rattle.std.proofs.Common.{◌≡◌, refl}
use Rattle.load_gen.specs.Generator.{state, sender, padding_len}

first_state : state 0 1 ≡ 1442695040888963407
unfolding state
first_state = refl

second_state : state 0 2 ≡ 1876011003808476466
unfolding state
second_state = refl

first_sender : sender (state 0 1) ≡ 7
unfolding state
first_sender = refl

first_padding : padding_len (state 0 1) ≡ 59
unfolding state
first_padding = refl
