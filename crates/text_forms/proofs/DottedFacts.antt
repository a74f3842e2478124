-- Addresses of IPv4, and what stands beside a mark.
use Rattle.std.proofs.Common.{◌≡◌, ℕ, ◌^◌, ◌<◌, ◌≤◌, Bool, true, false, cond, List, [], ◌∷◌, ◌++◌, decimal, Option, Some, None, option_map, refl, ap, sym, subst, arith, eqb, lit≤}
use Rattle.std.proofs.lemmas.Bool.{eqb-true}
use Rattle.std.proofs.lemmas.Bool.Decides.{nat_tests}
use Rattle.std.proofs.lemmas.Fmt.{decimal_is_IsNumeral}
use Rattle.std.specs.Str.Parse.{AllDigits}
use Rattle.std.specs.Char.{digit_value}
use Rattle.text_forms.specs.Numbers.{number_from}
use Rattle.text_forms.specs.Endpoints.{cut, dot, v4_from}
use Rattle.text_forms.proofs.Binds.{bind-some, bind-is, some-is}
use Rattle.text_forms.proofs.NumberFacts.{number_from-decimal, text-number}

-- ---- an octet that isn't there

abbrev pub Lacks : ℕ → List ℕ → Type 0
Lacks mark [] = Unit {0}
Lacks mark (c ∷ cs) = (eqb c mark ≡ false) × Lacks mark cs

pub Lacks-append : (mark : ℕ) (a b : List ℕ) → Lacks mark a → Lacks mark b → Lacks mark (a ++ b)
Lacks-append mark [] b ha hb = hb
Lacks-append mark (c ∷ cs) b ha hb = (ha.0, Lacks-append mark cs b ha.1 hb)

-- the marks that are no digits
abbrev pub IsMark : ℕ → Type 0
IsMark mark = (10 ≤ digit_value mark)

digit-is_no_mark : (c mark : ℕ) → digit_value c < 10 → IsMark mark → eqb c mark ≡ false
digit-is_no_mark c mark small is = by (eqb c mark) refl
  where
    by : (t : Bool) → eqb c mark ≡ t → t ≡ false
    by false e = refl
    by true e = let same : digit_value c ≡ digit_value mark = ap digit_value (eqb-true c mark e) in absurd (omega (arith, same, small, is))

Lacks-digits : (mark : ℕ) (ds : List ℕ) → IsMark mark → AllDigits 10 ds → Lacks mark ds
Lacks-digits mark [] is digits = tt
Lacks-digits mark (c ∷ cs) is digits = (digit-is_no_mark c mark digits.0 is, Lacks-digits mark cs is digits.1)

pub Lacks-decimal : (mark n : ℕ) → IsMark mark → n < 2 ^ 64 → Lacks mark (decimal n)
Lacks-decimal mark n is small = Lacks-digits mark (decimal n) is (decimal_is_IsNumeral n small).0.1

-- ---- what stands before and after a mark

pub cut-text : (mark : ℕ) (a b : List ℕ) → Lacks mark a → cut mark (a ++ mark ∷ b) ≡ Some (a, b)
cut-text mark [] b lacks = let same : eqb mark mark ≡ true = grind (arith, nat_tests) in rw same refl
cut-text mark (c ∷ cs) b lacks =
    rw (lacks.0) (ap (λ (r : Option (List ℕ × List ℕ)). option_map (λ p. (c ∷ p.0, p.1)) r) (cut-text mark cs b lacks.1))

pub text-cut : (mark : ℕ) (s : List ℕ) (p : List ℕ × List ℕ) → cut mark s ≡ Some p → s ≡ p.0 ++ mark ∷ p.1
text-cut mark [] p is = absurd cc
text-cut mark (c ∷ cs) p is = by (eqb c mark) refl (λ q found. text-cut mark cs q found) is
  where
    later : (r : Option (List ℕ × List ℕ)) → cut mark cs ≡ r → ((q : List ℕ × List ℕ) → cut mark cs ≡ Some q → cs ≡ q.0 ++ mark ∷ q.1) → option_map (λ q. (c ∷ q.0, q.1)) r ≡ Some p → c ∷ cs ≡ p.0 ++ mark ∷ p.1
    later None found rest e = absurd cc
    later (Some q) found rest e =
        let same : ◌≡◌ {A = List ℕ × List ℕ} (c ∷ q.0, q.1) p = some-is _ _ e in
        let P : List ℕ × List ℕ → Type 0 = λ r. c ∷ cs ≡ r.0 ++ mark ∷ r.1 in
        subst P same (ap (λ l. c ∷ l) (rest q found))

    by : (t : Bool) → eqb c mark ≡ t → ((q : List ℕ × List ℕ) → cut mark cs ≡ Some q → cs ≡ q.0 ++ mark ∷ q.1) → cond t (Some ([], cs)) (option_map (λ q. (c ∷ q.0, q.1)) (cut mark cs)) ≡ Some p → c ∷ cs ≡ p.0 ++ mark ∷ p.1
    by true test rest e =
        let same : ◌≡◌ {A = List ℕ × List ℕ} ([], cs) p = some-is _ _ e in
        let P : List ℕ × List ℕ → Type 0 = λ r. c ∷ cs ≡ r.0 ++ mark ∷ r.1 in
        subst P same (ap (λ (n : ℕ). n ∷ cs) (eqb-true c mark test))
    by false test rest e = later (cut mark cs) refl rest e

-- ---- four numbers

pub record AreSmall (w x y z : ℕ) : Type 0 where
  pub first : w ≤ 255
  pub second : x ≤ 255
  pub third : y ≤ 255
  pub fourth : z ≤ 255

abbrev pub dotted_text : ℕ → ℕ → ℕ → ℕ → List ℕ
dotted_text w x y z = decimal w ++ dot ∷ (decimal x ++ dot ∷ (decimal y ++ dot ∷ decimal z))

pub v4_from-text : (w x y z : ℕ) → AreSmall w x y z → v4_from (dotted_text w x y z) ≡ Some (w ∷ x ∷ y ∷ z ∷ [])
v4_from-text w x y z small =
    bind-is (cut dot (dotted_text w x y z)) _ _ _ (cut-text dot (decimal w) _ (Lacks-decimal dot w (lit≤ tt) (omega (arith, small.first))))
    (bind-is (cut dot (decimal x ++ dot ∷ (decimal y ++ dot ∷ decimal z))) _ _ _ (cut-text dot (decimal x) _ (Lacks-decimal dot x (lit≤ tt) (omega (arith, small.second))))
    (bind-is (cut dot (decimal y ++ dot ∷ decimal z)) _ _ _ (cut-text dot (decimal y) _ (Lacks-decimal dot y (lit≤ tt) (omega (arith, small.third))))
    (bind-is (number_from 0 255 (decimal w)) w _ _ (number_from-decimal 0 255 w (decimal w) (omega (arith, small.first)) (omega arith) small.first refl)
    (bind-is (number_from 0 255 (decimal x)) x _ _ (number_from-decimal 0 255 x (decimal x) (omega (arith, small.second)) (omega arith) small.second refl)
    (bind-is (number_from 0 255 (decimal y)) y _ _ (number_from-decimal 0 255 y (decimal y) (omega (arith, small.third)) (omega arith) small.third refl)
    (bind-is (number_from 0 255 (decimal z)) z _ _ (number_from-decimal 0 255 z (decimal z) (omega (arith, small.fourth)) (omega arith) small.fourth refl) refl))))))

pub text-v4_from : {C : Type 0} (s octets : List ℕ) → v4_from s ≡ Some octets → ((w x y z : ℕ) → AreSmall w x y z → octets ≡ w ∷ x ∷ y ∷ z ∷ [] → s ≡ dotted_text w x y z → C) → C
text-v4_from s octets is k =
    bind-some (cut dot s) _ _ is (λ a a-is more-a.
    bind-some (cut dot a.1) _ _ more-a (λ b b-is more-b.
    bind-some (cut dot b.1) _ _ more-b (λ c c-is more-c.
    bind-some (number_from 0 255 a.0) _ _ more-c (λ w w-is more-w.
    bind-some (number_from 0 255 b.0) _ _ more-w (λ x x-is more-x.
    bind-some (number_from 0 255 c.0) _ _ more-x (λ y y-is more-y.
    bind-some (number_from 0 255 c.1) _ _ more-y (λ z z-is end.
    let (w-text, w-low, w-high) = text-number 0 255 w a.0 w-is in
    let (x-text, x-low, x-high) = text-number 0 255 x b.0 x-is in
    let (y-text, y-low, y-high) = text-number 0 255 y c.0 y-is in
    let (z-text, z-low, z-high) = text-number 0 255 z c.1 z-is in
    let same : octets ≡ w ∷ x ∷ y ∷ z ∷ [] = some-is _ _ (sym end) in
    let spelled : s ≡ dotted_text w x y z = rw (← w-text, ← x-text, ← y-text, ← z-text, ← text-cut dot b.1 c c-is, ← text-cut dot a.1 b b-is) (text-cut dot s a a-is) in
    k w x y z (record { first = w-high; second = x-high; third = y-high; fourth = z-high }) same spelled)))))))
