-- How far a slot is from the start of a walk.
use Rattle.std.proofs.Common.{◌≡◌, ◌≢◌, ◌⊎◌, inl, inr, ⊎_elim, ℕ, suc, ◌+◌, ◌-◌, ◌<◌, ◌≤◌, true, false, refl, arith, eq-eqb, ne_eqb}
use Rattle.std.proofs.lemmas.Bool.{leb-true, leb-false}
use Rattle.std.proofs.Math.Dec.{leb}
use Rattle.session_world.specs.Keys.{next_slot, distance}
use Rattle.session_world.specs.Walks.{WalksGoRound}
use Rattle.session_world.proofs.BoolFacts.{number_case, bool}
use Rattle.session_world.proofs.KeyFacts.{start_low, matches_start}

distance_case : (slots from i : ℕ) → ((from ≤ i) × (distance slots from i ≡ i - from)) ⊎ ((i < from) × (distance slots from i ≡ i + slots - from))
unfolding distance
distance_case slots from i = ⊎_elim
    (λ (e : leb from i ≡ true). inl (leb-true from i e, rw e refl))
    (λ (e : leb from i ≡ false). inr (leb-false from i e, rw e refl))
    (bool (leb from i))

pub distance_low : (slots from i : ℕ) → from < slots → i < slots → distance slots from i < slots
distance_low slots from i f l = ⊎_elim
    (λ (x : (from ≤ i) × (distance slots from i ≡ i - from)). let e = x.1 in omega arith)
    (λ (x : (i < from) × (distance slots from i ≡ i + slots - from)). let a = x.0 in let e = x.1 in omega arith)
    (distance_case slots from i)

pub distance_same : (slots from i j : ℕ) → from < slots → i < slots → j < slots → distance slots from i ≡ distance slots from j → i ≡ j
distance_same slots from i j f l m same = ⊎_elim
    (λ (x : (from ≤ i) × (distance slots from i ≡ i - from)). ⊎_elim
    (λ (y : (from ≤ j) × (distance slots from j ≡ j - from)). let a = x.0 in let b = x.1 in let c = y.0 in let d = y.1 in omega arith)
    (λ (y : (j < from) × (distance slots from j ≡ j + slots - from)). let a = x.0 in let b = x.1 in let c = y.0 in let d = y.1 in omega arith)
    (distance_case slots from j))
    (λ (x : (i < from) × (distance slots from i ≡ i + slots - from)). ⊎_elim
    (λ (y : (from ≤ j) × (distance slots from j ≡ j - from)). let a = x.0 in let b = x.1 in let c = y.0 in let d = y.1 in omega arith)
    (λ (y : (j < from) × (distance slots from j ≡ j + slots - from)). let a = x.0 in let b = x.1 in let c = y.0 in let d = y.1 in omega arith)
    (distance_case slots from j))
    (distance_case slots from i)

pub distance_start : (slots from : ℕ) → distance slots from from ≡ 0
distance_start slots from = ⊎_elim
    (λ (x : (from ≤ from) × (distance slots from from ≡ from - from)). let e = x.1 in omega arith)
    (λ (x : (from < from) × (distance slots from from ≡ from + slots - from)). let a = x.0 in absurd (omega arith))
    (distance_case slots from from)

next_case : (slots i : ℕ) → ((suc i ≡ slots) × (next_slot slots i ≡ 0)) ⊎ ((suc i ≢ slots) × (next_slot slots i ≡ suc i))
unfolding next_slot
next_case slots i = number_case (i + 1) slots
    (λ (e : i + 1 ≡ slots). inl (omega (arith, e), rw (eq-eqb (i + 1) slots e) refl))
    (λ (n : i + 1 ≢ slots). inr ((λ x. n (omega (arith, x))), rw (ne_eqb (i + 1) slots n) (omega arith)))

pub distance_next : (slots from i : ℕ) → from < slots → i < slots → ¬ (suc (distance slots from i) ≡ slots) → distance slots from (next_slot slots i) ≡ suc (distance slots from i)
distance_next slots from i f l more = let j : ℕ = next_slot slots i in ⊎_elim
    (λ (x : (from ≤ i) × (distance slots from i ≡ i - from)). ⊎_elim
    (λ (n : (suc i ≡ slots) × (j ≡ 0)). ⊎_elim
    (λ (y : (from ≤ j) × (distance slots from j ≡ j - from)). let a = x.0 in let b = x.1 in let c = y.0 in let d = y.1 in let e = n.0 in let g = n.1 in absurd (more (omega arith)))
    (λ (y : (j < from) × (distance slots from j ≡ j + slots - from)). let a = x.0 in let b = x.1 in let c = y.0 in let d = y.1 in let e = n.0 in let g = n.1 in omega arith)
    (distance_case slots from j))
    (λ (n : (suc i ≢ slots) × (j ≡ suc i)). ⊎_elim
    (λ (y : (from ≤ j) × (distance slots from j ≡ j - from)). let a = x.0 in let b = x.1 in let c = y.0 in let d = y.1 in let g = n.1 in omega arith)
    (λ (y : (j < from) × (distance slots from j ≡ j + slots - from)). let a = x.0 in let b = x.1 in let c = y.0 in let d = y.1 in let g = n.1 in omega arith)
    (distance_case slots from j))
    (next_case slots i))
    (λ (x : (i < from) × (distance slots from i ≡ i + slots - from)). ⊎_elim
    (λ (n : (suc i ≡ slots) × (j ≡ 0)). let a = x.0 in let e = n.0 in absurd (omega arith))
    (λ (n : (suc i ≢ slots) × (j ≡ suc i)). ⊎_elim
    (λ (y : (from ≤ j) × (distance slots from j ≡ j - from)). let a = x.0 in let b = x.1 in let c = y.0 in let d = y.1 in let g = n.1 in absurd (more (omega arith)))
    (λ (y : (j < from) × (distance slots from j ≡ j + slots - from)). let a = x.0 in let b = x.1 in let c = y.0 in let d = y.1 in let g = n.1 in omega arith)
    (distance_case slots from j))
    (next_case slots i))
    (distance_case slots from i)

next_inside : (slots i : ℕ) → i < slots → next_slot slots i < slots
next_inside slots i h = ⊎_elim
    (λ (x : (suc i ≡ slots) × (next_slot slots i ≡ 0)). let e = x.1 in omega arith)
    (λ (x : (suc i ≢ slots) × (next_slot slots i ≡ suc i)). let n = x.0 in let e = x.1 in omega arith)
    (next_case slots i)

pub walks_go_round : WalksGoRound
walks_go_round = record {
  start_inside = start_low;
  start_matched = matches_start;
  low = distance_low;
  same = distance_same;
  at_start = distance_start;
  next_inside = next_inside;
  further = distance_next;
}
