use Rattle.std.proofs.Common.{ℕ, ap, ◌∙◌}
use Rattle.std.specs.Int.{w32, from_be_bytes}
use Rattle.twamp_client.specs.Client.{are_offered}
use Rattle.twamp_client.proofs.Offers.{mask_offers}
use Rattle.twamp_client.proofs.messages.offers.Goals as goal

pub returns : goal.returns
returns c =
    let modes = c.from_be_bytes-modes.result in
    mask_offers modes c.args.mode c.ranges.mode.fits ∙ ap (λ (n : ℕ). are_offered n c.args.mode) (c.from_be_bytes-modes.ensures ∙ ap (from_be_bytes w32) c.field4.ensures)
