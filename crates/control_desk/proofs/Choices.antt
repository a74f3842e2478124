-- Choices by tests, and tests of numbers.
use Rattle.std.proofs.Common.{◌≡◌, ℕ, suc, ◌+◌, ◌<◌, ◌≤◌, leb, eqb, Bool, true, false, if◌then◌else◌, List, ◌∷◌, length, drop, get_or, refl, sym, ap, ◌∙◌, arith}
use Rattle.std.proofs.Math.Seq.{drop-cons}
use Rattle.std.proofs.lemmas.Bool.Decides.{nat_tests}

pub reaches : (m n : ℕ) → m ≤ n → leb m n ≡ true
reaches m n h = grind (arith, nat_tests)

pub stays_below : (m n : ℕ) → n < m → leb m n ≡ false
stays_below m n h = grind (arith, nat_tests)

pub unless_full : (t : Bool) (m n : ℕ) → (m ≤ n → t ≡ true) → t ≡ false → n < m
unless_full t m n h e = by_cases (leb m n) refl
  where
    by_cases : (u : Bool) → leb m n ≡ u → n < m
    by_cases false k = grind (arith, nat_tests)
    by_cases true k = let same : false ≡ true = sym e ∙ h (grind (arith, nat_tests)) in absurd cc

pub if_true : {A : Type 0} (t : Bool) (x y : A) → t ≡ true → (if t then x else y) ≡ x
if_true t x y h = rw h refl

pub if_false : {A : Type 0} (t : Bool) (x y : A) → t ≡ false → (if t then x else y) ≡ y
if_false t x y h = rw h refl

pub if_same : {A : Type 0} (t : Bool) (x : A) → (if t then x else x) ≡ x
if_same true x = refl
if_same false x = refl

pub differs : (a b : ℕ) → (a ≡ b → ⊥) → eqb a b ≡ false
differs a b h = grind (arith, nat_tests)

pub equals : (a b : ℕ) → a ≡ b → eqb a b ≡ true
equals a b h = grind (arith, nat_tests)

-- ---- lists

pub next_item : {A : Type 0} (l : List A) (i : ℕ) (x : A) → i < length l → drop i l ≡ get_or l i x ∷ drop (i + 1) l
next_item {A} l i x h = let e : suc i ≡ i + 1 = omega arith in drop-cons l i x h ∙ ap (λ (j : ℕ). get_or l i x ∷ drop j l) e
