-- One TLV type more.
use Rattle.std.proofs.Common.{◌≡◌, ℕ, ◌*◌, ◌%◌, ◌^◌, ◌<◌, true, Bool, max, ◌⊎◌, inl, inr, sym, ◌∙◌, ap, arith, bit_or, subst, refl}
use Rattle.std.specs.Int.{bit_at}
use Rattle.std.proofs.lemmas.Bool.{cases_eq}
use Rattle.std.proofs.lemmas.Bool.Decides.{nat_tests}
use Rattle.std.proofs.lemmas.Nat.{pow_below}
use Rattle.std.proofs.lemmas.Nat.Bits.{bit_at_or, bit_at-pow_other}
use Rattle.refl_types.specs.Configs.{may_be_supported, are_known_tlvs}
use Rattle.refl_types.proofs.TlvFacts.{known_each, known_from_each}

pub supported-small : (t : ℕ) → may_be_supported t ≡ true → t < 11
supported-small t is = grind (arith, nat_tests)

pub known-more : (found t : ℕ) → may_be_supported t ≡ true → are_known_tlvs found ≡ true → are_known_tlvs (bit_or found (2 ^ t)) ≡ true
known-more found t is known = known_from_each (bit_or found (2 ^ t)) (λ u small set. by u small set (cases_eq u t))
  where
    by : (u : ℕ) → u < 32 → bit_at (bit_or found (2 ^ t)) u ≡ 1 → (u ≡ t) ⊎ (u ≡ t → ⊥) → may_be_supported u ≡ true
    by u small set (inl same) = ap may_be_supported same ∙ is
    by u small set (inr other) =
        let split : max (bit_at found u) (bit_at (2 ^ t) u) ≡ 1 = sym (bit_at_or found (2 ^ t) u) ∙ set in
        let none : bit_at (2 ^ t) u ≡ 0 = bit_at-pow_other t u other in
        known_each found u known small (omega (arith, split, none))

pub bit-fits : (t : ℕ) → t < 11 → 1 * 2 ^ t % 4294967296 ≡ 2 ^ t
bit-fits t small = let below : 2 ^ t < 2 ^ 32 = pow_below t 32 (omega arith) in omega (arith, below)

pub known_defaults : are_known_tlvs 40 ≡ true
unfolding are_known_tlvs
known_defaults = refl
