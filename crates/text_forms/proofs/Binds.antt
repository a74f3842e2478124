-- Two readings, one after the other.
use Rattle.std.proofs.Common.{◌≡◌, Option, Some, None, refl, ap}
use Rattle.text_forms.specs.Steps.{◌>>=◌}

-- where both have read, the first has
pub bind-some : {A B C : Type 0} (o : Option A) (f : A → Option B) (b : B) → (o >>= f) ≡ Some b → ((a : A) → o ≡ Some a → f a ≡ Some b → C) → C
bind-some None f b e k = absurd cc
bind-some (Some a) f b e k = k a refl e

-- where the first has read, the second goes on
pub bind-is : {A B : Type 0} (o : Option A) (a : A) (f : A → Option B) (r : Option B) → o ≡ Some a → f a ≡ r → (o >>= f) ≡ r
bind-is o a f r is more = rw is more

pub same-pair : {A B : Type 0} (p q : A × B) → Some p ≡ Some q → (p.0 ≡ q.0) × (p.1 ≡ q.1)
same-pair p q e = let same : p ≡ q = cc in (ap (λ r. r.0) same, ap (λ r. r.1) same)

pub some-is : {A : Type 0} (x y : A) → Some x ≡ Some y → x ≡ y
some-is x y e = cc
