-- What passes a test of 32 bits, where each set bit must be an allowed one, and that a mask tells the same.
use Rattle.std.proofs.Common.{◌≡◌, ℕ, zero, suc, ◌+◌, ◌^◌, ◌<◌, Bool, true, false, if◌then◌else◌, nat_lt, ◌&&◌, ◌||◌, not, min, refl, sym, ap, ◌∙◌, subst, inl, inr, ◌⊎◌, arith, eqb}
use Rattle.std.specs.Prelude.{bit_and}
use Rattle.std.specs.Int.{bit_at}
use Rattle.std.specs.List.{list_all, range_with_len}
use Rattle.std.proofs.lemmas.Bool.{eqb-true, ltb-true, ltb-false}
use Rattle.std.proofs.lemmas.Nat.Bits.{bit_at_and, bit_at-lt, bit_at-zero, bit_at_above, same_from_bits}

pub true_or_false : (b : Bool) → (b ≡ true) ⊎ (b ≡ false)
true_or_false true = inl refl
true_or_false false = inr refl

both : (a b : Bool) → (a && b) ≡ true → (a ≡ true) × (b ≡ true)
both true b e = (refl, e)
both false b e = absurd cc

-- a list is tested as its places are
all_from_each : (p : ℕ → Bool) (a n : ℕ) → ((t : ℕ) → t < n → p (a + t) ≡ true) → list_all p (range_with_len a n) ≡ true
all_from_each p a zero each = refl
all_from_each p a (suc n) each =
    let first : p a ≡ true = subst (λ (x : ℕ). p x ≡ true) (omega arith) (each 0 (omega arith)) in
    let rest : list_all p (range_with_len (a + 1) n) ≡ true = all_from_each p (a + 1) n (λ t h. subst (λ (x : ℕ). p x ≡ true) (omega arith) (each (t + 1) (omega arith))) in
    rw (first, rest) refl

each_from_all : (p : ℕ → Bool) (a n : ℕ) → list_all p (range_with_len a n) ≡ true → (t : ℕ) → t < n → p (a + t) ≡ true
each_from_all p a zero e t h = absurd (omega arith)
each_from_all p a (suc n) e zero h = let q = both (p a) (list_all p (range_with_len (a + 1) n)) e in subst (λ (x : ℕ). p x ≡ true) (omega arith) q.0
each_from_all p a (suc n) e (suc t) h =
    let q = both (p a) (list_all p (range_with_len (a + 1) n)) e in
    subst (λ (x : ℕ). p x ≡ true) (omega arith) (each_from_all p (a + 1) n q.1 t (omega arith))

or_true : (a b : Bool) → a ≡ true → (not a || b) ≡ true → b ≡ true
or_true true b e f = f
or_true false b e f = absurd cc

true_or : (a b : Bool) → (a ≡ true → b ≡ true) → (not a || b) ≡ true
true_or true b f = f refl
true_or false b f = refl

-- ---- each bit that is set is an allowed one

abbrev pub passes : (ℕ → Bool) → ℕ → ℕ → Bool
passes allowed n t = not (eqb (bit_at n t) 1) || allowed t

abbrev pub all_pass : (ℕ → Bool) → ℕ → Bool
all_pass allowed n = list_all (passes allowed n) (range_with_len 0 32)

pub allowed_each : (allowed : ℕ → Bool) (n t : ℕ) → all_pass allowed n ≡ true → t < 32 → bit_at n t ≡ 1 → allowed t ≡ true
allowed_each allowed n t e h bit =
    let p : passes allowed n t ≡ true = subst (λ (x : ℕ). passes allowed n x ≡ true) (omega arith) (each_from_all (passes allowed n) 0 32 e t h) in
    or_true (eqb (bit_at n t) 1) (allowed t) (ap (λ (b : ℕ). eqb b 1) bit) p

pub allowed_from_each : (allowed : ℕ → Bool) (n : ℕ) → ((t : ℕ) → t < 32 → bit_at n t ≡ 1 → allowed t ≡ true) → all_pass allowed n ≡ true
allowed_from_each allowed n each =
    all_from_each (passes allowed n) 0 32 (λ t h. subst (λ (x : ℕ). passes allowed n x ≡ true) (omega arith) (true_or (eqb (bit_at n t) 1) (allowed t) (λ e. each t h (eqb-true (bit_at n t) 1 e))))

-- ---- the test by a mask

abbrev bit_is_other : ℕ → (ℕ → Bool) → ℕ → Bool
bit_is_other others allowed t = eqb (bit_at others t) (if allowed t then 0 else 1)

-- the mask's 32 bits are those that aren't allowed
abbrev pub is_mask : ℕ → (ℕ → Bool) → Bool
is_mask others allowed = list_all (bit_is_other others allowed) (range_with_len 0 32)

other_bit : (others : ℕ) (allowed : ℕ → Bool) → is_mask others allowed ≡ true → (t : ℕ) → t < 32 → bit_at others t ≡ (if allowed t then 0 else 1)
other_bit others allowed mask t h =
    let p : bit_is_other others allowed t ≡ true = subst (λ (x : ℕ). bit_is_other others allowed x ≡ true) (omega arith) (each_from_all (bit_is_other others allowed) 0 32 mask t h) in
    eqb-true (bit_at others t) (if allowed t then 0 else 1) p

same_by : (a b : Bool) → (a ≡ true → b ≡ true) → (b ≡ true → a ≡ true) → a ≡ b
same_by true b f g = sym (f refl)
same_by false true f g = g refl
same_by false false f g = refl

no_other : (m x : ℕ) (b : Bool) → m ≡ (if b then 0 else 1) → min x m ≡ 0 → x ≡ 1 → b ≡ true
no_other m x true e f g = refl
no_other m x false e f g = absurd (omega (arith, e, f, g))

is_none : (m x : ℕ) (b : Bool) → m ≡ (if b then 0 else 1) → x < 2 → (x ≡ 1 → b ≡ true) → min x m ≡ 0
is_none m x true e lt f = omega (arith, e)
is_none m zero false e lt f = omega arith
is_none m (suc x) false e lt f = let g : false ≡ true = f (omega arith) in absurd cc

pub mask_test : (others : ℕ) (allowed : ℕ → Bool) → is_mask others allowed ≡ true → (n : ℕ) → n < 2 ^ 32 → eqb (bit_and n others) 0 ≡ all_pass allowed n
mask_test others allowed mask n lt = same_by (eqb (bit_and n others) 0) (all_pass allowed n) there back where
  there : eqb (bit_and n others) 0 ≡ true → all_pass allowed n ≡ true
  there e = allowed_from_each allowed n (λ t h bit.
      let none : min (bit_at n t) (bit_at others t) ≡ 0 = sym (bit_at_and n others t) ∙ ap (λ (x : ℕ). bit_at x t) (eqb-true (bit_and n others) 0 e) ∙ bit_at-zero t in
      no_other (bit_at others t) (bit_at n t) (allowed t) (other_bit others allowed mask t h) none bit)

  back : all_pass allowed n ≡ true → eqb (bit_and n others) 0 ≡ true
  back e =
      let none : bit_and n others ≡ 0 = same_from_bits (bit_and n others) 0 (λ i. bit_at_and n others i ∙ low i ∙ sym (bit_at-zero i)) in
      ap (λ (x : ℕ). eqb x 0) none where
        below : (i : ℕ) → i < 32 → min (bit_at n i) (bit_at others i) ≡ 0
        below i h = is_none (bit_at others i) (bit_at n i) (allowed i) (other_bit others allowed mask i h) (bit_at-lt n i) (λ bit. allowed_each allowed n i e h bit)

        low : (i : ℕ) → min (bit_at n i) (bit_at others i) ≡ 0
        low i = elim (true_or_false (nat_lt i 32)) [
          | inl y ↦ below i (ltb-true i 32 y)
          | inr f ↦ let zero_ : bit_at n i ≡ 0 = bit_at_above n 32 i lt (ltb-false i 32 f) in omega (arith, zero_)
        ]
