-- The orders of slots, where one slot changes what it is taken by.
use Rattle.std.proofs.Common.{◌≡◌, ◌≢◌, ⊎_elim, ℕ, zero, suc, ◌+◌, ◌<◌, ◌≤◌, ◌==◌, Bool, true, false, not, List, [], ◌∷◌, ◌++◌, length, get_or, set, sym, refl, ap, ◌∙◌, subst, arith, eq-eqb, ne_eqb, length-append}
use Rattle.std.specs.List.{filter, sum_by}
use Rattle.std.proofs.lemmas.List.{get_or-set_same, get_or-set_other}
use Rattle.std.proofs.lemmas.List.Sums.{sum_by-set, sum_by-cons}
use Rattle.session_desk.proofs.BoolFacts.{number_case, bool, true_ne_false}
use Rattle.session_desk.specs.declared.session.Use.{Use}
use Rattle.session_desk.specs.declared.session.Use.TheVariants.{Free, Reserved, Live}
use Rattle.session_desk.specs.declared.session.Slot.{Slot}
use Rattle.session_desk.specs.Slots.{times, once, slot_in, taken_in, taken_once, no_slot, IsOrder, is_live, is_reserving}
use Rattle.session_desk.proofs.Lists.{times_push, times_drop, times_other, length_drop}

pub here : (ss : List Slot) (i : ℕ) (s : Slot) → i < length ss → slot_in (set ss i s) i ≡ s
here ss i s lt = get_or-set_same ss i s no_slot lt

pub else_where : (ss : List Slot) (i j : ℕ) (s : Slot) → j ≢ i → slot_in (set ss i s) j ≡ slot_in ss j
else_where ss i j s n = get_or-set_other ss i j s no_slot n

-- a slot that was read, whatever stands for one that isn't there
pub read_slot : (ss : List Slot) (i : ℕ) (s : Slot) → i < length ss → s ≡ get_or ss i s → s ≡ slot_in ss i
read_slot [] i s lt e = absurd (omega (arith, lt))
read_slot (x ∷ ss) zero s lt e = e
read_slot (x ∷ ss) (suc i) s lt e = read_slot ss i s (omega (arith, lt)) e

pub past : (ss : List Slot) (i : ℕ) → length ss ≤ i → slot_in ss i ≡ no_slot
past [] i le = refl
past (s ∷ ss) zero le = absurd (omega (arith, le))
past (s ∷ ss) (suc i) le = past ss i (omega (arith, le))

pub set_itself : (ss : List Slot) (i : ℕ) → ss ≡ set ss i (slot_in ss i)
set_itself [] i = refl
set_itself (s ∷ ss) zero = refl
set_itself (s ∷ ss) (suc i) = ap (λ (ts : List Slot). s ∷ ts) (set_itself ss i)

taken_is : (test : Use → Bool) (ss : List Slot) (i : ℕ) (s : Slot) → i < length ss → test (taken_in (set ss i s) i) ≡ test s.taken
taken_is test ss i s lt = ap (λ (t : Slot). test t.taken) (here ss i s lt)

taken_else : (test : Use → Bool) (ss : List Slot) (i j : ℕ) (s : Slot) → j ≢ i → test (taken_in (set ss i s) j) ≡ test (taken_in ss j)
taken_else test ss i j s n = ap (λ (t : Slot). test t.taken) (else_where ss i j s n)

sum_after : (test : Use → Bool) (ss : List Slot) (i : ℕ) (s : Slot) → i < length ss → sum_by (taken_once test) (set ss i s) + once (test (taken_in ss i)) ≡ sum_by (taken_once test) ss + once (test s.taken)
sum_after test ss i s lt = sum_by-set (taken_once test) ss i s no_slot lt

-- a slot that comes to pass the test is put at the end
pub order_add : (test : Use → Bool) (ss : List Slot) (xs : List ℕ) (i : ℕ) (s : Slot) → IsOrder test ss xs → i < length ss → test (taken_in ss i) ≡ false → test s.taken ≡ true → IsOrder test (set ss i s) (xs ++ i ∷ [])
order_add test ss xs i s o lt fails passes = record {
  each = λ j. number_case j i
      (λ (e : j ≡ i). let h : times j xs ≡ 0 = o.each j ∙ ap once (ap (λ (k : ℕ). test (taken_in ss k)) e ∙ fails) in
      times_push j i xs ∙ (rw (eq-eqb i j (sym e)) (omega (arith, h))) ∙ sym (ap once (ap (λ (k : ℕ). test (taken_in (set ss i s) k)) e ∙ taken_is test ss i s lt ∙ passes)))
      (λ (n : j ≢ i). times_push j i xs ∙ (rw (ne_eqb i j (λ e. n (sym e))) (omega arith)) ∙ o.each j ∙ ap once (sym (taken_else test ss i j s n)));
  count = let a : sum_by (taken_once test) (set ss i s) + 0 ≡ sum_by (taken_once test) ss + 1 = subst (λ (b : Bool). sum_by (taken_once test) (set ss i s) + once b ≡ sum_by (taken_once test) ss + 1) fails (subst (λ (b : Bool). sum_by (taken_once test) (set ss i s) + once (test (taken_in ss i)) ≡ sum_by (taken_once test) ss + once b) passes (sum_after test ss i s lt)) in
      let l = length-append xs (i ∷ []) in let c = o.count in omega (arith, a, l, c);
}

-- one that comes to fail it is left out
pub order_drop : (test : Use → Bool) (ss : List Slot) (xs : List ℕ) (i : ℕ) (s : Slot) → IsOrder test ss xs → i < length ss → test (taken_in ss i) ≡ true → test s.taken ≡ false → IsOrder test (set ss i s) (filter (λ j. not (j == i)) xs)
order_drop test ss xs i s o lt passes fails = record {
  each = λ j. number_case j i
      (λ (e : j ≡ i). subst (λ (k : ℕ). times k (filter (λ m. not (m == i)) xs) ≡ once (test (taken_in (set ss i s) k))) (sym e) (times_drop i xs ∙ sym (ap once (taken_is test ss i s lt ∙ fails))))
      (λ (n : j ≢ i). times_other i j xs n ∙ o.each j ∙ ap once (sym (taken_else test ss i j s n)));
  count = let a : sum_by (taken_once test) (set ss i s) + 1 ≡ sum_by (taken_once test) ss + 0 = subst (λ (b : Bool). sum_by (taken_once test) (set ss i s) + once b ≡ sum_by (taken_once test) ss + 0) passes (subst (λ (b : Bool). sum_by (taken_once test) (set ss i s) + once (test (taken_in ss i)) ≡ sum_by (taken_once test) ss + once b) fails (sum_after test ss i s lt)) in
      let t : times i xs ≡ 1 = o.each i ∙ ap once passes in
      let l = length_drop i xs in let c = o.count in omega (arith, a, t, l, c);
}

-- the others stay
pub order_same : (test : Use → Bool) (ss : List Slot) (xs : List ℕ) (i : ℕ) (s : Slot) → IsOrder test ss xs → i < length ss → test s.taken ≡ test (taken_in ss i) → IsOrder test (set ss i s) xs
order_same test ss xs i s o lt same = record {
  each = λ j. number_case j i
      (λ (e : j ≡ i). o.each j ∙ ap once (ap (λ (k : ℕ). test (taken_in ss k)) e ∙ sym same ∙ sym (taken_is test ss i s lt) ∙ ap (λ (k : ℕ). test (taken_in (set ss i s) k)) (sym e)))
      (λ (n : j ≢ i). o.each j ∙ ap once (sym (taken_else test ss i j s n)));
  count = let a : sum_by (taken_once test) (set ss i s) + once (test (taken_in ss i)) ≡ sum_by (taken_once test) ss + once (test (taken_in ss i)) = subst (λ (b : Bool). sum_by (taken_once test) (set ss i s) + once (test (taken_in ss i)) ≡ sum_by (taken_once test) ss + once b) same (sum_after test ss i s lt) in
      let c = o.count in omega (arith, a, c);
}

-- ---- both orders together have no more members than there are slots

one_of : (u : Use) → once (is_live u) + once (is_reserving u) ≤ 1
one_of Free = omega arith
one_of Reserved = omega arith
one_of Live = omega arith

pub both_fit : (ss : List Slot) → sum_by (taken_once is_live) ss + sum_by (taken_once is_reserving) ss ≤ length ss
both_fit [] = omega arith
both_fit (s ∷ ss) = let h : sum_by (taken_once is_live) ss + sum_by (taken_once is_reserving) ss ≤ length ss = both_fit ss in let o : once (is_live s.taken) + once (is_reserving s.taken) ≤ 1 = one_of s.taken in
    let e = sum_by-cons (taken_once is_live) s ss in
    let f = sum_by-cons (taken_once is_reserving) s ss in omega (arith, h, o, e, f)

-- so there is room for one more live session where one is reserved
pub has_room : (ss : List Slot) (xs ys : List ℕ) (i : ℕ) → IsOrder is_live ss xs → IsOrder is_reserving ss ys → is_reserving (taken_in ss i) ≡ true → length xs < length ss
has_room ss xs ys i o p passes = let t : times i ys ≡ 1 = p.each i ∙ ap once passes in let l = length_drop i ys in let f = both_fit ss in let a = o.count in let b = p.count in omega (arith, t, l, f, a, b)

-- a member passes the test
pub member : (test : Use → Bool) (ss : List Slot) (xs : List ℕ) (i : ℕ) → IsOrder test ss xs → 0 < times i xs → test (taken_in ss i) ≡ true
member test ss xs i o some = ⊎_elim
    (λ (e : test (taken_in ss i) ≡ true). e)
    (λ (e : test (taken_in ss i) ≡ false). let t : times i xs ≡ 0 = o.each i ∙ ap once e in absurd (omega (arith, t, some)))
    (bool (test (taken_in ss i)))

pub is_member : (test : Use → Bool) (ss : List Slot) (xs : List ℕ) (i : ℕ) → IsOrder test ss xs → test (taken_in ss i) ≡ true → 0 < times i xs
is_member test ss xs i o passes = let t : times i xs ≡ 1 = o.each i ∙ ap once passes in omega (arith, t)

pub no_member : (test : Use → Bool) (ss : List Slot) (xs : List ℕ) (i : ℕ) → IsOrder test ss xs → test (taken_in ss i) ≡ false → times i xs ≡ 0
no_member test ss xs i o fails = o.each i ∙ ap once fails

-- a slot that passes a test which free slots fail is there
pub is_inside : (test : Use → Bool) (ss : List Slot) (i : ℕ) → test Free ≡ false → test (taken_in ss i) ≡ true → i < length ss
is_inside test [] i none passes = absurd (true_ne_false (sym passes ∙ none))
is_inside test (s ∷ ss) zero none passes = omega arith
is_inside test (s ∷ ss) (suc i) none passes = let h = is_inside test ss i none passes in omega (arith, h)
