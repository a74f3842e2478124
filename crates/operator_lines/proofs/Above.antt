-- Octets above a mark: those of a word are above a space, and those of a line above its end.
use Rattle.std.proofs.Common.{◌≡◌, ℕ, suc, ◌+◌, ◌<◌, ◌≤◌, ◌^◌, ◌/◌, ◌%◌, Bool, true, false, cond, List, [], ◌∷◌, ◌++◌, Option, Some, None, option_map, decimal, codes, nat_lt, refl, ap, subst, arith, eqb}
use Rattle.std.specs.Str.Parse.{AllDigits}
use Rattle.std.specs.List.{list_all}
use Rattle.std.proofs.lemmas.Bool.{eqb-true, and_parts}
use Rattle.std.proofs.lemmas.Bool.Decides.{nat_tests}
use Rattle.std.proofs.lemmas.Fmt.{decimal_is_IsNumeral}
use Rattle.std.proofs.lemmas.Str.Parse.{digit_from_value}
use Rattle.octet_format.specs.Octets.{IsBytes}
use Rattle.refl_types.specs.declared.types.Address.{Address}
use Rattle.refl_types.specs.declared.types.Address.TheVariants.{V4, V6}
use Rattle.refl_types.specs.declared.types.Endpoint.{Endpoint}
use Rattle.refl_types.specs.Spelling.{FitsAddress}
use Rattle.text_forms.specs.Names.{is_name_octet}
use Rattle.text_forms.specs.Endpoints.{cut, hex_digit, dotted, more_groups, grouped, address_text, endpoint_text, HasText}

abbrev pub AreAbove : ℕ → List ℕ → Type 0
AreAbove mark [] = Unit {0}
AreAbove mark (c ∷ cs) = (mark < c) × AreAbove mark cs

pub above-append : (mark : ℕ) (a b : List ℕ) → AreAbove mark a → AreAbove mark b → AreAbove mark (a ++ b)
above-append mark [] b ha hb = hb
above-append mark (c ∷ cs) b ha hb = (ha.0, above-append mark cs b ha.1 hb)

pub above-lower : (low high : ℕ) (s : List ℕ) → low ≤ high → AreAbove high s → AreAbove low s
above-lower low high [] le above = tt
above-lower low high (c ∷ cs) le above = let first : high < c = above.0 in (omega arith, above-lower low high cs le above.1)

-- ---- what stands before and after a mark

above-is_no_mark : (mark c : ℕ) → mark < c → eqb c mark ≡ false
above-is_no_mark mark c above = grind (arith, nat_tests)

pub cut-word : (mark : ℕ) (a b : List ℕ) → AreAbove mark a → cut mark (a ++ mark ∷ b) ≡ Some (a, b)
cut-word mark [] b above = let same : eqb mark mark ≡ true = grind (arith, nat_tests) in rw same refl
cut-word mark (c ∷ cs) b above =
    rw (above-is_no_mark mark c above.0) (ap (λ (r : Option (List ℕ × List ℕ)). option_map (λ p. (c ∷ p.0, p.1)) r) (cut-word mark cs b above.1))

pub word-cut : (mark : ℕ) (s : List ℕ) (p : List ℕ × List ℕ) → cut mark s ≡ Some p → s ≡ p.0 ++ mark ∷ p.1
word-cut mark [] p is = absurd cc
word-cut mark (c ∷ cs) p is = by (eqb c mark) refl (λ q found. word-cut mark cs q found) is
  where
    later : (r : Option (List ℕ × List ℕ)) → cut mark cs ≡ r → ((q : List ℕ × List ℕ) → cut mark cs ≡ Some q → cs ≡ q.0 ++ mark ∷ q.1) → option_map (λ q. (c ∷ q.0, q.1)) r ≡ Some p → c ∷ cs ≡ p.0 ++ mark ∷ p.1
    later None found rest e = absurd cc
    later (Some q) found rest e =
        let same : ◌≡◌ {A = List ℕ × List ℕ} (c ∷ q.0, q.1) p = cc in
        let P : List ℕ × List ℕ → Type 0 = λ r. c ∷ cs ≡ r.0 ++ mark ∷ r.1 in
        subst P same (ap (λ l. c ∷ l) (rest q found))

    by : (t : Bool) → eqb c mark ≡ t → ((q : List ℕ × List ℕ) → cut mark cs ≡ Some q → cs ≡ q.0 ++ mark ∷ q.1) → cond t (Some ([], cs)) (option_map (λ q. (c ∷ q.0, q.1)) (cut mark cs)) ≡ Some p → c ∷ cs ≡ p.0 ++ mark ∷ p.1
    by true test rest e =
        let same : ◌≡◌ {A = List ℕ × List ℕ} ([], cs) p = cc in
        let P : List ℕ × List ℕ → Type 0 = λ r. c ∷ cs ≡ r.0 ++ mark ∷ r.1 in
        subst P same (ap (λ (n : ℕ). n ∷ cs) (eqb-true c mark test))
    by false test rest e = later (cut mark cs) refl rest e

-- ---- words

above-digits : (ds : List ℕ) → AllDigits 10 ds → AreAbove 32 ds
above-digits [] digits = tt
above-digits (c ∷ cs) digits = let range = digit_from_value c digits.0 in (omega (arith, range), above-digits cs digits.1)

pub above-decimal : (n : ℕ) → n < 2 ^ 64 → AreAbove 32 (decimal n)
above-decimal n small = above-digits (decimal n) (decimal_is_IsNumeral n small).0.1

pub above-all : (p : ℕ → Bool) (s : List ℕ) → ((c : ℕ) → p c ≡ true → 32 < c) → list_all p s ≡ true → AreAbove 32 s
above-all p [] above all = tt
above-all p (c ∷ cs) above all = let parts = and_parts (p c) (list_all p cs) all in (above c parts.0, above-all p cs above parts.1)

pub name_octet-above : (c : ℕ) → is_name_octet c ≡ true → 32 < c
name_octet-above c is = grind (arith, nat_tests)

hex_digit-above : (n : ℕ) → 32 < hex_digit n
hex_digit-above n = by (nat_lt n 10)
  where
    by : (t : Bool) → 32 < cond t (48 + n) (87 + n)
    by true = omega arith
    by false = omega arith

above-more_groups : (octets : List ℕ) → AreAbove 32 (more_groups octets)
above-more_groups [] = tt
above-more_groups (a ∷ []) = tt
above-more_groups (a ∷ b ∷ rest) =
    (omega arith, (hex_digit-above (a / 16), (hex_digit-above (a % 16), (hex_digit-above (b / 16), (hex_digit-above (b % 16), above-more_groups rest)))))

above-grouped : (octets : List ℕ) → AreAbove 32 (grouped octets)
above-grouped [] = tt
above-grouped (a ∷ []) = tt
above-grouped (a ∷ b ∷ rest) = (hex_digit-above (a / 16), (hex_digit-above (a % 16), (hex_digit-above (b / 16), (hex_digit-above (b % 16), above-more_groups rest))))

above-dotted : (octets : List ℕ) → IsBytes octets → AreAbove 32 (dotted octets)
above-dotted [] bytes = tt
above-dotted (a ∷ []) bytes = let small : a < 256 = bytes 0 in above-decimal a (omega arith)
above-dotted (a ∷ b ∷ rest) bytes =
    let small : a < 256 = bytes 0 in
    above-append 32 (decimal a ++ codes ".") (dotted (b ∷ rest)) (above-append 32 (decimal a) (codes ".") (above-decimal a (omega arith)) (omega arith, tt)) (above-dotted (b ∷ rest) (λ i. bytes (suc i)))

pub above-address : (a : Address) → FitsAddress a → AreAbove 32 (address_text a)
above-address (V4 octets) fits = above-dotted octets fits.1
above-address (V6 octets) fits = above-append 32 (codes "[" ++ grouped octets) (codes "]") (omega arith, above-grouped octets) (omega arith, tt)

pub above-endpoint : (e : Endpoint) → HasText e → AreAbove 32 (endpoint_text e)
above-endpoint e has =
    let small : e.port < 2 ^ 16 = has.fits.port in
    above-append 32 (address_text e.address ++ codes ":") (decimal e.port) (above-append 32 (address_text e.address) (codes ":") (above-address e.address has.fits.address) (omega arith, tt)) (above-decimal e.port (omega arith))
