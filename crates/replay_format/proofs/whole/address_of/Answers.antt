use Rattle.std.proofs.Common.{◌≡◌, true, false, sym, ◌∙◌}
use Rattle.replay_format.proofs.WholeFacts.{zeros_behind}
use Rattle.replay_format.proofs.whole.address_of.Goals as goal

pub returns-then-not-has_zeros-clause-none : goal.returns-then-not-has_zeros-clause-none
returns-then-not-has_zeros-clause-none c = λ _ a h.
    let zeros = zeros_behind c.args.octets.now a c.requires h c.in-4.is in
    let e : false ≡ true = sym c.if-not-has_zeros.true ∙ c.has_zeros.ensures.1 zeros in
    cc
