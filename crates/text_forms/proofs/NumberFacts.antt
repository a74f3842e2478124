-- Decimal texts.
use Rattle.std.proofs.Common.{◌≡◌, ℕ, ◌<◌, ◌≤◌, ◌^◌, Bool, true, false, ◌&&◌, nat_le, List, Some, None, cond, decimal, bytes_eq, refl, sym, ap, ◌∙◌, arith}
use Rattle.std.specs.Str.{IsUtf8}
use Rattle.std.specs.Str.Parse.{digits_value}
use Rattle.std.proofs.lemmas.Bool.{and_parts}
use Rattle.std.proofs.lemmas.Bool.Decides.{nat_tests}
use Rattle.std.proofs.lemmas.Slice.Eq.{bytes_eq-Decides}
use Rattle.std.proofs.lemmas.Str.{IsUtf8-from_ascii}
use Rattle.std.proofs.lemmas.Fmt.{decimal_is_IsNumeral, IsAscii-decimal}
use Rattle.text_forms.specs.Numbers.{number_from}

-- the decimal spelling of a number in the range is read as the number
pub number_from-decimal : (low high n : ℕ) (s : List ℕ) → n < 2 ^ 64 → low ≤ n → n ≤ high → s ≡ decimal n → number_from low high s ≡ Some n
number_from-decimal low high n s small least most same =
    let value : digits_value 10 s ≡ n = ap (digits_value 10) same ∙ (decimal_is_IsNumeral n small).1 in
    let spelled : bytes_eq (decimal n) s ≡ true = (bytes_eq-Decides (decimal n) s).1 (sym same) in
    let above : nat_le low n ≡ true = grind (arith, nat_tests) in
    let below : nat_le n high ≡ true = grind (arith, nat_tests) in
    rw (value, spelled, above, below) refl

-- any other text is read as none
pub number_from-other : (low high : ℕ) (s : List ℕ) → ((n : ℕ) → low ≤ n → n ≤ high → s ≡ decimal n → ⊥) → number_from low high s ≡ None
number_from-other low high s other = by (bytes_eq (decimal n) s && nat_le low n && nat_le n high) refl
  where
    n : ℕ
    n = digits_value 10 s

    by : (t : Bool) → (bytes_eq (decimal n) s && nat_le low n && nat_le n high) ≡ t → cond t (Some n) None ≡ None
    by false is = refl
    by true is =
        let (front, below) = and_parts (bytes_eq (decimal n) s && nat_le low n) (nat_le n high) is in
        let (spelled, above) = and_parts (bytes_eq (decimal n) s) (nat_le low n) front in
        absurd (other n (grind (arith, nat_tests)) (grind (arith, nat_tests)) (sym ((bytes_eq-Decides (decimal n) s).0 spelled)))

pub IsUtf8-decimal : (n : ℕ) (s : List ℕ) → n < 2 ^ 64 → s ≡ decimal n → IsUtf8 s
IsUtf8-decimal n s small same = rw same (IsUtf8-from_ascii (decimal n) (IsAscii-decimal n small))

-- a text that is read is the number's spelling
pub text-number : (low high n : ℕ) (s : List ℕ) → number_from low high s ≡ Some n → (s ≡ decimal n) × (low ≤ n) × (n ≤ high)
text-number low high n s is = by (bytes_eq (decimal m) s && nat_le low m && nat_le m high) refl is
  where
    m : ℕ
    m = digits_value 10 s

    by : (t : Bool) → (bytes_eq (decimal m) s && nat_le low m && nat_le m high) ≡ t → cond t (Some m) None ≡ Some n → (s ≡ decimal n) × (low ≤ n) × (n ≤ high)
    by false test e = absurd cc
    by true test e =
        let (front, below) = and_parts (bytes_eq (decimal m) s && nat_le low m) (nat_le m high) test in
        let (spelled, above) = and_parts (bytes_eq (decimal m) s) (nat_le low m) front in
        let same : m ≡ n = cc in
        (sym ((bytes_eq-Decides (decimal m) s).0 spelled) ∙ ap decimal same, grind (arith, nat_tests), grind (arith, nat_tests))
