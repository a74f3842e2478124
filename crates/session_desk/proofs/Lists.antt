-- Lists of numbers that stand once each, and what a change at one place makes of a map over them.
use Rattle.std.proofs.Common.{◌≡◌, ◌≢◌, ⊎_elim, ℕ, suc, ◌+◌, ◌<◌, ◌==◌, Bool, true, false, not, if◌then◌else◌, List, [], ◌∷◌, ◌++◌, length, map, sym, refl, ap, ◌∙◌, subst, arith, eq-eqb, ne_eqb}
use Rattle.std.specs.List.{filter, list_any, Contains}
use Rattle.session_desk.proofs.BoolFacts.{number_case, bool}
use Rattle.session_desk.specs.Slots.{times}

-- ---- how often a number stands in a list

pub times_push : (i x : ℕ) (xs : List ℕ) → times i (xs ++ x ∷ []) ≡ times i xs + (if x == i then 1 else 0)
times_push i x [] = number_case x i (λ (e : x ≡ i). rw (eq-eqb x i e) refl) (λ (n : x ≢ i). rw (ne_eqb x i n) refl)
times_push i x (y ∷ ys) = let h = times_push i x ys in number_case y i (λ (e : y ≡ i). rw (eq-eqb y i e) (omega (arith, h))) (λ (n : y ≢ i). rw (ne_eqb y i n) h)

pub times_drop : (k : ℕ) (xs : List ℕ) → times k (filter (λ j. not (j == k)) xs) ≡ 0
times_drop k [] = refl
times_drop k (x ∷ xs) = number_case x k
    (λ (e : x ≡ k). rw (eq-eqb x k e) (times_drop k xs))
    (λ (n : x ≢ k). rw (ne_eqb x k n) (rw (ne_eqb x k n) (times_drop k xs)))

pub times_other : (k i : ℕ) (xs : List ℕ) → i ≢ k → times i (filter (λ j. not (j == k)) xs) ≡ times i xs
times_other k i [] n = refl
times_other k i (x ∷ xs) n = number_case x k
    (λ (e : x ≡ k). rw (eq-eqb x k e) (rw (ne_eqb x i (λ e'. n (sym e' ∙ e))) (times_other k i xs n)))
    (λ (m : x ≢ k). rw (ne_eqb x k m) (ap (λ (t : ℕ). if x == i then suc t else t) (times_other k i xs n)))

pub length_drop : (k : ℕ) (xs : List ℕ) → length (filter (λ j. not (j == k)) xs) + times k xs ≡ length xs
length_drop k [] = refl
length_drop k (x ∷ xs) = let h = length_drop k xs in number_case x k
    (λ (e : x ≡ k). rw (eq-eqb x k e) (omega (arith, h)))
    (λ (n : x ≢ k). rw (ne_eqb x k n) (omega (arith, h)))

pub still : (j x : ℕ) (xs : List ℕ) → 0 < times j xs → 0 < times j (x ∷ xs)
still j x xs some = number_case x j (λ (e : x ≡ j). rw (eq-eqb x j e) (omega arith)) (λ (n : x ≢ j). rw (ne_eqb x j n) some)

-- ---- maps over the list, where one number is changed or left out

pub map_else : {A : Type 0} (f g : ℕ → A) (k : ℕ) (xs : List ℕ) → times k xs ≡ 0 → ((j : ℕ) → j ≢ k → f j ≡ g j) → map f xs ≡ map g xs
map_else f g k [] none same = refl
map_else {A} f g k (x ∷ xs) none same = number_case x k
    (λ (e : x ≡ k). let w : suc (times k xs) ≡ 0 = sym (rw (eq-eqb x k e) refl) ∙ none in absurd (omega (arith, w)))
    (λ (n : x ≢ k). let w : times k xs ≡ 0 = sym (rw (ne_eqb x k n) refl) ∙ none in λ i. same x n i ∷ map_else f g k xs w same i)

pub map_change : {A : Type 0} (f g : ℕ → A) (h : A → A) (is_here : A → Bool) (k : ℕ) (xs : List ℕ) → ((j : ℕ) → f j ≡ (if is_here (g j) then h (g j) else g j)) → map f xs ≡ map (λ a. if is_here a then h a else a) (map g xs)
map_change f g h is_here k [] each = refl
map_change f g h is_here k (x ∷ xs) each = λ i. each x i ∷ map_change f g h is_here k xs each i

pub map_same : {A : Type 0} (f g : ℕ → A) (xs : List ℕ) → ((j : ℕ) → 0 < times j xs → f j ≡ g j) → map f xs ≡ map g xs
map_same f g [] each = refl
map_same f g (x ∷ xs) each = λ i. each x (rw (eq-eqb x x refl) (omega arith)) i ∷ map_same f g xs (λ j some. each j (still j x xs some)) i

-- members of a map that pass a test are left out
pub map_filter : {A : Type 0} (f : ℕ → A) (p : ℕ → Bool) (q : A → Bool) (xs : List ℕ) → ((j : ℕ) → 0 < times j xs → q (f j) ≡ p j) → map f (filter p xs) ≡ filter q (map f xs)
map_filter f p q [] each = refl
map_filter {A} f p q (x ∷ xs) each = let here : q (f x) ≡ p x = each x (rw (eq-eqb x x refl) (omega arith)) in
    let rest : map f (filter p xs) ≡ filter q (map f xs) = map_filter f p q xs (λ j some. each j (still j x xs some)) in
    ⊎_elim
    (λ (e : p x ≡ true). rw (here, e) (ap (λ (ys : List A). f x ∷ ys) rest))
    (λ (e : p x ≡ false). rw (here, e) rest)
    (bool (p x))

-- a test that no member passes
pub any_none : {A : Type 0} (f : ℕ → A) (q : A → Bool) (xs : List ℕ) → ((j : ℕ) → 0 < times j xs → q (f j) ≡ false) → list_any q (map f xs) ≡ false
any_none f q [] each = refl
any_none f q (x ∷ xs) each = rw (each x (rw (eq-eqb x x refl) (omega arith)), any_none f q xs (λ j some. each j (still j x xs some))) refl

pub any_some : {A : Type 0} (f : ℕ → A) (q : A → Bool) (k : ℕ) (xs : List ℕ) → 0 < times k xs → q (f k) ≡ true → list_any q (map f xs) ≡ true
any_some f q k [] some passes = absurd (omega (arith, some))
any_some f q k (x ∷ xs) some passes = number_case x k
    (λ (e : x ≡ k). rw (ap (λ (j : ℕ). q (f j)) e ∙ passes) refl)
    (λ (n : x ≢ k). let w : 0 < times k xs = subst (λ (t : ℕ). 0 < t) (rw (ne_eqb x k n) refl) some in grind (arith, any_some f q k xs w passes))

pub contains_map : {A : Type 0} (f : ℕ → A) (k : ℕ) (xs : List ℕ) → 0 < times k xs → Contains (map f xs) (f k)
contains_map f k [] some = absurd (omega (arith, some))
contains_map f k (x ∷ xs) some = number_case x k
    (λ (e : x ≡ k). (0, omega arith, ap f e))
    (λ (n : x ≢ k). let w : 0 < times k xs = subst (λ (t : ℕ). 0 < t) (rw (ne_eqb x k n) refl) some in let r = contains_map f k xs w in (suc r.0, (let l = r.1 in omega (arith, l)), r.2))

pub map_each : {A B : Type 0} (f : ℕ → B) (h : A → B) (g : ℕ → A) (xs : List ℕ) → ((j : ℕ) → 0 < times j xs → f j ≡ h (g j)) → map f xs ≡ map h (map g xs)
map_each f h g [] each = refl
map_each f h g (x ∷ xs) each = λ i. each x (rw (eq-eqb x x refl) (omega arith)) i ∷ map_each f h g xs (λ j some. each j (still j x xs some)) i
