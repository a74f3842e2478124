-- The words at first, slot by slot.
use Rattle.std.proofs.Common.{◌≡◌, ℕ, zero, suc, ◌+◌, List, [], ◌∷◌, ◌++◌, refl, ap, add-one}
use Rattle.session_world.specs.Words.{fresh_slots}

-- one more slot at the end is one more in front
one_more : (n : ℕ) → fresh_slots n ++ (1 ∷ 0 ∷ 0 ∷ 0 ∷ 0 ∷ []) ≡ fresh_slots (suc n)
one_more zero = refl
one_more (suc n) = ap (λ (xs : List ℕ). 1 ∷ 0 ∷ 0 ∷ 0 ∷ 0 ∷ xs) (one_more n)

pub fresh_more : (n : ℕ) → fresh_slots n ++ (1 ∷ 0 ∷ 0 ∷ 0 ∷ 0 ∷ []) ≡ fresh_slots (n + 1)
fresh_more n = rw add-one (one_more n)
