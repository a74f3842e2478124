-- Tests in Bool, and options.
use Rattle.std.proofs.Common.{◌≡◌, ◌≢◌, ◌⊎◌, inl, inr, ℕ, Bool, true, false, ◌&&◌, ◌||◌, not, if◌then◌else◌, sym, refl, ap, ◌∙◌, subst, Option, Some, None}
use mathlib.Core.Logic.{dite}
use native.Mathlib.Decide.{ℕ_discrete}

pub true_ne_false : true ≡ false → ⊥
true_ne_false e = cc

pub bool : (b : Bool) → (b ≡ true) ⊎ (b ≡ false)
bool true = inl refl
bool false = inr refl

pub both : (a b : Bool) → (a && b) ≡ true → (a ≡ true) × (b ≡ true)
both true b h = (refl, h)
both false b h = absurd (true_ne_false (sym h))

pub either_of : (a b : Bool) → (a || b) ≡ true → (a ≡ true) ⊎ (b ≡ true)
either_of true b h = inl refl
either_of false b h = inr h

pub and_i : (a b : Bool) → a ≡ true → b ≡ true → (a && b) ≡ true
and_i a b h g = rw h g

pub or_l : (a b : Bool) → a ≡ true → (a || b) ≡ true
or_l a b h = rw h refl

pub or_r : (a b : Bool) → b ≡ true → (a || b) ≡ true
or_r true b h = refl
or_r false b h = h

pub or_none : (a b : Bool) → a ≡ false → b ≡ false → (a || b) ≡ false
or_none a b h g = rw h g

pub no_or : (a b : Bool) → (a || b) ≡ false → (a ≡ false) × (b ≡ false)
no_or true b h = absurd (true_ne_false h)
no_or false b h = (refl, h)

pub not_true : (a : Bool) → not a ≡ true → a ≡ false
not_true true h = absurd (true_ne_false (sym h))
not_true false h = refl

pub not_false : (a : Bool) → a ≡ false → not a ≡ true
not_false a h = rw h refl

pub no_not : (a : Bool) → not a ≡ false → a ≡ true
no_not true h = refl
no_not false h = absurd (true_ne_false h)

-- what is not true is false
pub is_false : (a : Bool) → (a ≡ true → ⊥) → a ≡ false
is_false true h = absurd (h refl)
is_false false h = refl

pub number_case : {A : Type 0} (m n : ℕ) → (m ≡ n → A) → (m ≢ n → A) → A
number_case {A} m n f g = dite (ℕ_discrete m n) f g

pub if_yes : {A : Type 0} (b : Bool) (x y : A) → b ≡ true → (if b then x else y) ≡ x
if_yes b x y e = rw e refl

pub if_no : {A : Type 0} (b : Bool) (x y : A) → b ≡ false → (if b then x else y) ≡ y
if_no b x y e = rw e refl

pub some_none : {A : Type 0} (a : A) → None ≡ Some a → ⊥
some_none a e = cc

pub some_same : {A : Type 0} {a b : A} → Some a ≡ Some b → a ≡ b
some_same e = cc
