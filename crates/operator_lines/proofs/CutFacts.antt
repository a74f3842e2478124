-- What stands before and after the first octet of a kind.
use Rattle.std.proofs.Common.{◌≡◌, ℕ, zero, suc, ◌<◌, true, false, ◌==◌, List, [], ◌∷◌, length, get_or, take, drop, Some, None, option_map, refl, ap, arith}
use Rattle.text_forms.specs.Endpoints.{cut}

-- none of the first n is the mark
abbrev pub NoneBefore : ℕ → List ℕ → ℕ → Type 0
NoneBefore mark s n = (k : ℕ) → k < n → (get_or s k 0 == mark) ≡ false

pub cut-at : (mark : ℕ) (s : List ℕ) (n : ℕ) → n < length s → NoneBefore mark s n → (get_or s n 0 == mark) ≡ true → Some (take n s, drop (suc n) s) ≡ cut mark s
cut-at mark [] n inside before at = absurd (omega arith)
cut-at mark (c ∷ cs) zero inside before at = rw at refl
cut-at mark (c ∷ cs) (suc n) inside before at =
    rw (before 0 (omega arith)) (ap (λ r. option_map (λ p. (c ∷ p.0, p.1)) r) (cut-at mark cs n (omega arith) (λ k h. before (suc k) (omega arith)) at))

pub cut-none : (mark : ℕ) (s : List ℕ) → NoneBefore mark s (length s) → None ≡ cut mark s
cut-none mark [] before = refl
cut-none mark (c ∷ cs) before = rw (before 0 (omega arith), ← cut-none mark cs (λ k h. before (suc k) (omega arith))) refl
