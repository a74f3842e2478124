-- Addresses are compared as numbers.
use Rattle.std.proofs.Common.{◌≡◌, ℕ, Bool, true, false, ◌&&◌, eqb, List, [], ◌++◌, ◌+◌, ◌≤◌, length, drop, refl, sym, ap, subst, ◌∙◌, inl, inr, arith, ◌*◌, ◌%◌, ◌^◌, ◌<◌, ◌∷◌, take, replicate}
use Rattle.std.specs.Int.{w32, w64, to_be_bytes, from_be_bytes}
use Rattle.std.proofs.lemmas.Bool.{eqb-true}
use Rattle.std.proofs.lemmas.Bool.Decides.{eqb_tells}
use Rattle.std.proofs.lemmas.Nat.{be_bytes_4, be_bytes_8}
use Rattle.std.proofs.Math.ListN.{drop_of_length-le}
use Rattle.octet_format.specs.Octets.{IsBytes, field}
use Rattle.octet_format.proofs.Fields.{cut, length-field}
use Rattle.octet_format.proofs.Obeys.{IsBytes-drop, IsBytes-take}
use Rattle.refl_types.specs.Same.{same_octets}
use Rattle.refl_types.proofs.SameFacts.{both_true, eqb-same, octets_same, same_octets-refl}

alike : (t s : Bool) → (t ≡ true → s ≡ true) → (s ≡ true → t ≡ true) → t ≡ s
alike true true f g = refl
alike true false f g = sym (f refl)
alike false true f g = g refl
alike false false f g = refl

-- a test that is true just where the octets are equal
decides : (t : Bool) (a b : List ℕ) → (t ≡ true → a ≡ b) → (a ≡ b → t ≡ true) → t ≡ same_octets a b
decides t a b f g = alike t (same_octets a b) (λ e. subst (λ (x : List ℕ). same_octets a x ≡ true) (f e) (same_octets-refl a)) (λ e. g (octets_same a b e))

pub four : (a b : List ℕ) (x y : ℕ) → length a ≡ 4 → length b ≡ 4 → IsBytes a → IsBytes b → x ≡ from_be_bytes w32 a → y ≡ from_be_bytes w32 b → eqb x y ≡ same_octets a b
four a b x y la lb ba bb ex ey =
    decides (eqb x y) a b
    (λ e. sym (be_bytes_4 a x la ba ex) ∙ ap (to_be_bytes w32) (eqb-true x y e) ∙ be_bytes_4 b y lb bb ey)
    (λ e. subst (λ (n : ℕ). eqb x n ≡ true) (ex ∙ ap (from_be_bytes w32) e ∙ sym ey) (eqb-same x))

none : (a : List ℕ) → length a ≡ 16 → drop 16 a ≡ []
none a l = let le : length a ≤ 16 = omega (arith, l) in drop_of_length-le a le

halves : (a : List ℕ) → length a ≡ 16 → a ≡ field 0 8 a ++ (field 8 8 a ++ [])
halves a l = cut 0 8 8 a refl ∙ ap (λ (x : List ℕ). field 0 8 a ++ x) (cut 8 8 16 a refl ∙ ap (λ (x : List ℕ). field 8 8 a ++ x) (none a l))

half : (at : ℕ) (a b : List ℕ) (x y : ℕ) → at + 8 ≤ length a → at + 8 ≤ length b → IsBytes a → IsBytes b → x ≡ from_be_bytes w64 (field at 8 a) → y ≡ from_be_bytes w64 (field at 8 b) → x ≡ y → field at 8 a ≡ field at 8 b
half at a b x y la lb ba bb ex ey e =
    sym (be_bytes_8 (field at 8 a) x (length-field at 8 a la) (IsBytes-take 8 (drop at a) (IsBytes-drop at a ba)) ex) ∙ ap (to_be_bytes w64) e ∙ be_bytes_8 (field at 8 b) y (length-field at 8 b lb) (IsBytes-take 8 (drop at b) (IsBytes-drop at b bb)) ey

pub sixteen : (a b : List ℕ) (x y u v : ℕ) → length a ≡ 16 → length b ≡ 16 → IsBytes a → IsBytes b → x ≡ from_be_bytes w64 (field 0 8 a) → y ≡ from_be_bytes w64 (field 0 8 b) → u ≡ from_be_bytes w64 (field 8 8 a) → v ≡ from_be_bytes w64 (field 8 8 b) → (eqb x y && eqb u v) ≡ same_octets a b
sixteen a b x y u v la lb ba bb ex ey eu ev =
    decides (eqb x y && eqb u v) a b
    (λ e.
    let p = both_true (eqb x y) (eqb u v) e in
    let front = half 0 a b x y (omega (arith, la)) (omega (arith, lb)) ba bb ex ey (eqb-true x y p.0) in
    let back = half 8 a b u v (omega (arith, la)) (omega (arith, lb)) ba bb eu ev (eqb-true u v p.1) in
    halves a la ∙ ap (λ (z : List ℕ). z ++ (field 8 8 a ++ [])) front ∙ ap (λ (z : List ℕ). field 0 8 b ++ (z ++ [])) back ∙ sym (halves b lb))
    (λ e.
    let front : x ≡ y = ex ∙ ap (λ (z : List ℕ). from_be_bytes w64 (field 0 8 z)) e ∙ sym ey in
    let back : u ≡ v = eu ∙ ap (λ (z : List ℕ). from_be_bytes w64 (field 8 8 z)) e ∙ sym ev in
    rw (front, back) (both (eqb-same y) (eqb-same v)))
  where
    both : {p q : Bool} → p ≡ true → q ≡ true → (p && q) ≡ true
    both e f = rw (e, f) refl

-- ---- the two halves, one after the other

pub front_same : (x y : ℕ) (t s : Bool) → (eqb x y && t) ≡ s → x ≡ y → t ≡ s
front_same x y t s e h = ap (λ (b : Bool). b && t) (sym (subst (λ (n : ℕ). eqb x n ≡ true) h (eqb-same x))) ∙ e

is_not : (x y : ℕ) → (x ≡ y → ⊥) → eqb x y ≡ false
is_not x y ne =
    elim (eqb_tells x y) [
      | inl p ↦ absurd (ne p.1)
      | inr p ↦ p.0
    ]

pub front_other : (x y : ℕ) (t s : Bool) → (eqb x y && t) ≡ s → (x ≡ y → ⊥) → eqb x y ≡ s
front_other x y t s e h = is_not x y h ∙ ap (λ (b : Bool). b && t) (sym (is_not x y h)) ∙ e

-- ---- the words of an IPv4 address

pub v4_first : (a : List ℕ) (n : ℕ) → length a ≡ 4 → n < 2 ^ 32 → n ≡ from_be_bytes w32 a → n * 4294967296 % 18446744073709551616 ≡ from_be_bytes w64 (take 8 (a ++ replicate 12 0))
v4_first [] n l h e = cc
v4_first (p ∷ []) n l h e = cc
v4_first (p ∷ q ∷ []) n l h e = cc
v4_first (p ∷ q ∷ r ∷ []) n l h e = cc
v4_first (p ∷ q ∷ r ∷ s ∷ []) n l h e = omega (arith, h, e)
v4_first (p ∷ q ∷ r ∷ s ∷ t ∷ a) n l h e = absurd (omega (arith, l))

pub v4_second : (a : List ℕ) → length a ≡ 4 → 0 ≡ from_be_bytes w64 (drop 8 (a ++ replicate 12 0))
v4_second [] l = cc
v4_second (p ∷ []) l = cc
v4_second (p ∷ q ∷ []) l = cc
v4_second (p ∷ q ∷ r ∷ []) l = cc
v4_second (p ∷ q ∷ r ∷ s ∷ []) l = refl
v4_second (p ∷ q ∷ r ∷ s ∷ t ∷ a) l = absurd (omega (arith, l))
