-- What passes the test of TLV types, bit by bit.
use Rattle.std.proofs.Common.{◌≡◌, ℕ, ◌+◌, ◌*◌, ◌/◌, ◌%◌, ◌^◌, ◌<◌, ◌≤◌, true, nat_lt, refl, sym, ap, ◌∙◌, inl, inr, arith, eqb}
use Rattle.std.specs.Prelude.{bit_and}
use Rattle.std.specs.Int.{bit_at}
use Rattle.std.proofs.lemmas.Bool.{ltb-true, ltb-false}
use Rattle.std.proofs.lemmas.Bool.Decides.{nat_tests}
use Rattle.std.proofs.lemmas.Nat.Bits.{bit_at-lt, bit_at-zero, bit_at_above, bit_at_cat_low, bit_at_cat_high, same_from_bits}
use Rattle.refl_types.specs.Configs.{may_be_supported, are_known_tlvs}
use Rattle.refl_types.proofs.BitFacts.{true_or_false, allowed_each, allowed_from_each, mask_test}

pub known_each : (tlvs t : ℕ) → are_known_tlvs tlvs ≡ true → t < 32 → bit_at tlvs t ≡ 1 → may_be_supported t ≡ true
unfolding are_known_tlvs
known_each tlvs t e h bit = allowed_each may_be_supported tlvs t e h bit

pub known_from_each : (tlvs : ℕ) → ((t : ℕ) → t < 32 → bit_at tlvs t ≡ 1 → may_be_supported t ≡ true) → are_known_tlvs tlvs ≡ true
unfolding are_known_tlvs
known_from_each tlvs each = allowed_from_each may_be_supported tlvs each

-- the mask has all of the 32 bits but 3, 5, 9 and 10
pub known_by_mask : (n : ℕ) → n < 2 ^ 32 → eqb (bit_and n 4294965719) 0 ≡ are_known_tlvs n
unfolding are_known_tlvs
known_by_mask n lt = mask_test 4294965719 may_be_supported refl n lt

-- ---- the types of one octet and of the one above it

supported_below : (t : ℕ) → may_be_supported t ≡ true → t < 11
supported_below t e = grind (arith, nat_tests)

unset : (x : ℕ) → x < 2 → (x ≡ 1 → ⊥) → x ≡ 0
unset x lt f = omega (arith, f)

-- no bit from 11 on is set
pub known_small : (n : ℕ) → n < 2 ^ 32 → are_known_tlvs n ≡ true → n < 2 ^ 11
known_small n lt e = omega (arith, same_from_bits n (n % 2 ^ 11) same) where
  parts : n ≡ n / 2 ^ 11 * 2 ^ 11 + n % 2 ^ 11
  parts = omega arith

  high : (i : ℕ) → 11 ≤ i → bit_at n i ≡ 0
  high i le = elim (true_or_false (nat_lt i 32)) [
    | inl y ↦ unset (bit_at n i) (bit_at-lt n i) (λ bit. omega (arith, le, supported_below i (known_each n i e (ltb-true i 32 y) bit)))
    | inr f ↦ bit_at_above n 32 i lt (ltb-false i 32 f)
  ]

  same : (i : ℕ) → bit_at n i ≡ bit_at (n % 2 ^ 11) i
  same i = elim (true_or_false (nat_lt i 11)) [
    | inl y ↦ ap (λ (x : ℕ). bit_at x i) parts ∙ bit_at_cat_low (n / 2 ^ 11) 11 (n % 2 ^ 11) i (ltb-true i 11 y)
    | inr f ↦ high i (ltb-false i 11 f) ∙ sym (bit_at_above (n % 2 ^ 11) 11 i (omega arith) (ltb-false i 11 f))
  ]

pub known_low : (n : ℕ) → are_known_tlvs n ≡ true → are_known_tlvs (n % 256) ≡ true
known_low n e = known_from_each (n % 256) (λ t h bit. elim (true_or_false (nat_lt t 8)) [
  | inl y ↦ known_each n t e h (ap (λ (x : ℕ). bit_at x t) parts ∙ bit_at_cat_low (n / 256) 8 (n % 256) t (ltb-true t 8 y) ∙ bit)
  | inr f ↦ let zero_ : bit_at (n % 256) t ≡ 0 = bit_at_above (n % 256) 8 t (omega arith) (ltb-false t 8 f) in absurd (omega (arith, zero_, bit))
]) where
  parts : n ≡ n / 256 * 2 ^ 8 + n % 256
  parts = omega arith

pub known_high : (n : ℕ) → are_known_tlvs n ≡ true → are_known_tlvs (n / 256 * 256) ≡ true
known_high n e = known_from_each (n / 256 * 256) (λ t h bit. elim (true_or_false (nat_lt t 8)) [
  | inl y ↦ let zero_ : bit_at (n / 256 * 256) t ≡ 0 = ap (λ (x : ℕ). bit_at x t) alone ∙ bit_at_cat_low (n / 256) 8 0 t (ltb-true t 8 y) ∙ bit_at-zero t in absurd (omega (arith, zero_, bit))
  | inr f ↦ known_each n t e h (ap (λ (x : ℕ). bit_at x t) parts ∙ bit_at_cat_high (n / 256) 8 (n % 256) t (omega arith) (ltb-false t 8 f) ∙ sym (bit_at_cat_high (n / 256) 8 0 t (omega arith) (ltb-false t 8 f)) ∙ ap (λ (x : ℕ). bit_at x t) (sym alone) ∙ bit)
]) where
  parts : n ≡ n / 256 * 2 ^ 8 + n % 256
  parts = omega arith

  alone : n / 256 * 256 ≡ n / 256 * 2 ^ 8 + 0
  alone = omega arith

pub known_joined : (high low : ℕ) → low < 256 → are_known_tlvs (high * 256) ≡ true → are_known_tlvs low ≡ true → are_known_tlvs (high * 256 + low) ≡ true
known_joined high low lt a b = known_from_each (high * 256 + low) (λ t h bit. elim (true_or_false (nat_lt t 8)) [
  | inl y ↦ known_each low t b h (sym (bit_at_cat_low high 8 low t (ltb-true t 8 y)) ∙ bit)
  | inr f ↦ known_each (high * 256) t a h (ap (λ (x : ℕ). bit_at x t) alone ∙ bit_at_cat_high high 8 0 t (omega arith) (ltb-false t 8 f) ∙ sym (bit_at_cat_high high 8 low t lt (ltb-false t 8 f)) ∙ bit)
]) where
  alone : high * 256 ≡ high * 2 ^ 8 + 0
  alone = omega arith

pub known_none : are_known_tlvs 0 ≡ true
unfolding are_known_tlvs
known_none = refl
