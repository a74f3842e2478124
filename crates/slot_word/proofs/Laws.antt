-- What each change of a slot's word does to its fields.
use Rattle.std.proofs.Common.{◌≡◌, ℕ, zero, suc, ◌+◌, ◌-◌, ◌*◌, ◌/◌, ◌%◌, ◌^◌, ◌<◌, ◌≤◌, ◌==◌, Bool, true, false, not, refl, ap, sym, ◌∙◌, arith, eq-eqb, ne_eqb}
use Rattle.std.specs.Int.Bits.{bit_and, bit_or, bit_xor, or_zero_r, xor_zero_r, xor_zero_l, xor_self, xor_assoc}
use Rattle.std.proofs.lemmas.Nat.{or_block, xor_block, xor_lt}
use Rattle.std.proofs.lemmas.Nat.Bits.{and_high_mask}
use Rattle.slot_word.specs.Fields.{sequence_unit, row_unit, closed_bit, greatest_generation, greatest_row, sequence_in, generation_in, row_in, is_open_word, word_of}
pub use Rattle.slot_word.specs.Fields.{HasFields, Drawn, Keeps, Exchanged}

-- ---- ranges

pub sequence_range : (n : ℕ) → n < 2 ^ 64 → sequence_in n < 2 ^ 32
unfolding sequence_in
sequence_range n h = omega arith

pub generation_range : (n : ℕ) → generation_in n ≤ greatest_generation
unfolding generation_in
generation_range n = omega arith

pub row_range : (n : ℕ) → row_in n ≤ greatest_row
unfolding row_in
row_range n = omega arith

-- ---- a word of fields

bit_range : (closed : Bool) → closed_bit closed < 2
bit_range true = omega arith
bit_range false = omega arith

parity : (m : ℕ) (closed : Bool) → (m * 2 + closed_bit closed) % 2 == 0 ≡ not closed
parity m true = ne_eqb ((m * 2 + 1) % 2) 0 (λ e. omega (arith, e))
parity m false = eq-eqb ((m * 2 + 0) % 2) 0 (omega arith)

pub word_has : (sequence generation row : ℕ) (closed : Bool) → sequence < 2 ^ 32 → generation ≤ greatest_generation → row ≤ greatest_row → HasFields (word_of sequence generation row closed) sequence generation row closed
unfolding word_of sequence_in generation_in row_in is_open_word
word_has s g r c hs hg hr =
    let b = bit_range c in
    let e : word_of s g r c ≡ (s * 2 ^ 31 + g * 2 ^ 13 + r) * 2 + closed_bit c = omega arith in
    record {
      small = omega (arith, b, hs, hg, hr);
      sequence = omega (arith, b, hs, hg, hr);
      generation = omega (arith, b, hs, hg, hr);
      row = omega (arith, b, hs, hg, hr);
      is_open = ap (λ (k : ℕ). k % 2 == 0) e ∙ parity (s * 2 ^ 31 + g * 2 ^ 13 + r) c;
    }

word_back_of : (n : ℕ) (b : Bool) → n % 2 ≡ closed_bit b → word_of (sequence_in n) (generation_in n) (row_in n) b ≡ n
unfolding word_of sequence_in generation_in row_in
word_back_of n b h = omega (arith, h)

closed_test : (m : ℕ) → m < 2 → m ≡ closed_bit (not (m == 0))
closed_test zero h = refl
closed_test (suc zero) h = refl
closed_test (suc (suc m)) h = absurd (omega arith)

-- each word is that of its fields
pub word_back : (n : ℕ) → word_of (sequence_in n) (generation_in n) (row_in n) (not (is_open_word n)) ≡ n
unfolding is_open_word
word_back n = word_back_of n (not (n % 2 == 0)) (closed_test (n % 2) (omega arith))

-- ---- a draw

pub drawn : (n : ℕ) → Drawn n ((n + sequence_unit) % 2 ^ 64)
unfolding sequence_in generation_in row_in is_open_word
drawn n =
    let e : (n + sequence_unit) % 2 ^ 64 % 2 ≡ n % 2 = omega arith in
    record {
      small = omega arith;
      sequence = omega arith;
      generation = omega arith;
      row = omega arith;
      is_open = ap (λ (k : ℕ). k == 0) e;
    }

-- ---- closing and opening

one_or : (r : ℕ) → r < 2 → bit_or r 1 ≡ 1
one_or zero h = refl
one_or (suc zero) h = refl
one_or (suc (suc r)) h = absurd (omega arith)

halves : (n : ℕ) → n ≡ n / 2 * 2 + n % 2
halves n = omega arith

closes_to : (n : ℕ) → bit_or n (closed_bit true) ≡ n / 2 * 2 + 1
closes_to n =
    ap (λ (k : ℕ). bit_or k 1) (halves n)
    ∙ (or_block 1 (n / 2) 0 (n % 2) 1 (omega arith) (omega arith) ∙ (λ i. or_zero_r (n / 2) i * 2 + one_or (n % 2) (omega arith) i))

pub closing_keeps : (n : ℕ) → Keeps n (bit_or n (closed_bit true))
unfolding sequence_in generation_in row_in
closing_keeps n =
    let e = closes_to n in
    record {
      small = λ h. omega (arith, e, h);
      sequence = omega (arith, e);
      generation = omega (arith, e);
      row = omega (arith, e);
    }

pub closing_closes : (n : ℕ) → is_open_word (bit_or n (closed_bit true)) ≡ false
unfolding is_open_word
closing_closes n = let e = closes_to n in ne_eqb (bit_or n (closed_bit true) % 2) 0 (λ x. omega (arith, e, x))

opens_to : (n : ℕ) → n < 2 ^ 64 → bit_and n (2 ^ 64 - 2) ≡ n / 2 * 2
opens_to n h = and_high_mask 64 1 (omega arith) n h

pub opening_keeps : (n : ℕ) → n < 2 ^ 64 → Keeps n (bit_and n (2 ^ 64 - 2))
unfolding sequence_in generation_in row_in
opening_keeps n h =
    let e = opens_to n h in
    record {
      small = λ h. omega (arith, e, h);
      sequence = omega (arith, e);
      generation = omega (arith, e);
      row = omega (arith, e);
    }

pub opening_opens : (n : ℕ) → n < 2 ^ 64 → is_open_word (bit_and n (2 ^ 64 - 2)) ≡ true
unfolding is_open_word
opening_opens n h = let e = opens_to n h in eq-eqb (bit_and n (2 ^ 64 - 2) % 2) 0 (omega (arith, e))

-- ---- another row

xor_back : (a b : ℕ) → bit_xor a (bit_xor a b) ≡ b
xor_back a b = sym (xor_assoc a a b) ∙ (ap (λ (k : ℕ). bit_xor k b) (xor_self a) ∙ xor_zero_l b)

exchanges_to : (n old new : ℕ) → row_in n ≡ old → new ≤ greatest_row → bit_xor n (bit_xor old new * row_unit) ≡ (n / 2 ^ 14 * 2 ^ 13 + new) * 2 + n % 2
unfolding row_in
exchanges_to n old new e h =
    let high = n / 2 ^ 14 in
    let low : old < 2 ^ 13 = omega (arith, e) in
    let mixed : bit_xor old new < 2 ^ 13 = xor_lt 13 old new low (omega (arith, h)) in
    let parts : n ≡ (high * 2 ^ 13 + old) * 2 + n % 2 = omega (arith, e) in
    let even : bit_xor old new * 2 ≡ bit_xor old new * 2 + 0 = omega arith in
    let outer : bit_xor n (bit_xor old new * 2) ≡ bit_xor (high * 2 ^ 13 + old) (bit_xor old new) * 2 + bit_xor (n % 2) 0 =
    (λ i. bit_xor (parts i) (even i)) ∙ xor_block 1 (high * 2 ^ 13 + old) (bit_xor old new) (n % 2) 0 (omega arith) (omega arith) in
    let padded : bit_xor old new ≡ 0 * 2 ^ 13 + bit_xor old new = omega arith in
    let inner : bit_xor (high * 2 ^ 13 + old) (bit_xor old new) ≡ high * 2 ^ 13 + new =
    ap (λ (k : ℕ). bit_xor (high * 2 ^ 13 + old) k) padded ∙ xor_block 13 high 0 old (bit_xor old new) low mixed ∙ (λ i. xor_zero_r high i * 2 ^ 13 + xor_back old new i) in
    outer ∙ (λ i. inner i * 2 + xor_zero_r (n % 2) i)

pub exchanged : (n old new : ℕ) → row_in n ≡ old → new ≤ greatest_row → Exchanged n (bit_xor n (bit_xor old new * row_unit)) new
unfolding sequence_in generation_in row_in is_open_word
exchanged n old new e h =
    let x = exchanges_to n old new e h in
    let low : bit_xor n (bit_xor old new * 2) % 2 ≡ n % 2 = omega (arith, x) in
    record {
      small = λ s. omega (arith, x, h, s);
      sequence = omega (arith, x, h);
      generation = omega (arith, x, h);
      row = omega (arith, x, h);
      is_open = ap (λ (k : ℕ). k == 0) low;
    }
