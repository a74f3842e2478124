use Rattle.std.proofs.Common.{◌≡◌, ℕ, ◌+◌, ◌*◌, true, subst, arith}
use Rattle.refl_types.specs.Configs.{are_known_tlvs}
use Rattle.refl_types.proofs.TlvFacts.{known_joined}
use Rattle.session_octets.proofs.reading.tlvs_at.Goals as goal

pub returns-clause-known : goal.returns-clause-known
returns-clause-known c =
    let low : are_known_tlvs c.in_ok-low.low ≡ true = subst (λ (x : ℕ). are_known_tlvs x ≡ true) (omega arith) c.in_ok-low.ensures.known in
    let joined : are_known_tlvs (c.in_ok-high.high * 256 + c.in_ok-low.low) ≡ true = known_joined c.in_ok-high.high c.in_ok-low.low c.in_ok-low.ensures.range c.in_ok-high.ensures.known low in
    subst (λ (x : ℕ). are_known_tlvs x ≡ true) (omega (arith, c.from.ensures, c.from-2.ensures)) joined
