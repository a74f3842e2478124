-- The four numbers of a want of slots.
use Rattle.std.proofs.Common.{◌≡◌, ⊎_elim, ℕ, zero, suc, ◌+◌, ◌<◌, ◌≤◌, ◌==◌, Bool, true, false, ◌||◌, ◌&&◌, not, nat_lt, List, [], ◌∷◌, length, get_or, sym, refl, ap, ◌∙◌, subst, arith, eq-eqb, ne_eqb, cond}
use Rattle.std.specs.List.{sum_by, count_by, range_with_len}
use Rattle.std.proofs.lemmas.List.Sums.{sum_by-cons}
use Rattle.std.proofs.lemmas.List.{length-map}
use Rattle.slot_word.specs.Fields.{greatest_generation}
use Rattle.config_rows.specs.Rows.{Rows}
use Rattle.session_world.specs.declared.steps.TableSize.{TableSize}
use Rattle.session_desk.proofs.BoolFacts.{number_case, bool, true_ne_false}
use Rattle.session_rule.specs.declared.seats.Table.{Table}
use Rattle.session_rule.specs.declared.seats.Seat.{Seat}
use Rattle.session_rule.specs.Seats.{desk_steps}
use Rattle.session_desk.specs.declared.session.Use.{Use}
use Rattle.session_desk.specs.declared.session.Use.TheVariants.{Free, Reserved, Live}
use Rattle.session_desk.specs.declared.session.Slot.{Slot}
use Rattle.session_desk.specs.Slots.{is_live, is_reserving, is_taken, is_spent, is_left_over, slot_in, session_in, taken_in, taken_once, once, may_take}
use Rattle.session_desk.specs.Kept.{IsKept, book_of}
use Rattle.session_desk.specs.Writes.{is_named, scans_of, HasAdded}
use Rattle.session_world.specs.Desk.{generation_of}
use Rattle.session_desk.specs.Book.{steps_of}
use Rattle.session_desk.specs.Calls.{has_session}
use Rattle.session_desk.specs.Refusals.{is_retired, is_held_in, IsFull}
use Rattle.session_desk.proofs.Refused.{none_free}
use Rattle.session_desk.proofs.Whole.{some_session}

abbrev one_if : {A : Type 0} → (A → Bool) → A → ℕ
one_if p x = cond (p x) 1 0

-- ---- counts over slots by their numbers

counted_at : (ss : List Slot) (p : ℕ → Bool) (q : Slot → Bool) (a : ℕ) → ((i j : ℕ) → i < length ss → j ≡ a + i → p j ≡ q (slot_in ss i)) → count_by p (range_with_len a (length ss)) ≡ count_by q ss
counted_at [] p q a each = refl
counted_at (s ∷ ss) p q a each =
    let h : count_by p (range_with_len (a + 1) (length ss)) ≡ count_by q ss = counted_at ss p q (a + 1) (λ i j lt e. each (suc i) j (omega (arith, lt)) (omega (arith, e))) in
    sum_by-cons (one_if p) a (range_with_len (a + 1) (length ss)) ∙ (λ t. cond (each 0 a (omega arith) (omega arith) t) 1 0 + h t) ∙ sym (sum_by-cons (one_if q) s ss)

fewer : (p q : ℕ → Bool) (xs : List ℕ) → ((i : ℕ) → p i ≡ true → q i ≡ true) → count_by p xs ≤ count_by q xs
fewer p q [] each = omega arith
fewer p q (x ∷ xs) each = let h = fewer p q xs each in let a = sum_by-cons (one_if p) x xs in let b = sum_by-cons (one_if q) x xs in
    let here : cond (p x) 1 0 ≤ cond (q x) 1 0 = ⊎_elim
    (λ (e : p x ≡ true). rw (e, each x e) (omega arith))
    (λ (e : p x ≡ false). rw e (omega arith))
    (bool (p x)) in
    omega (arith, h, a, b, here)

either_count : (p q : ℕ → Bool) (xs : List ℕ) → count_by (λ i. p i || q i) xs ≤ count_by p xs + count_by q xs
either_count p q [] = omega arith
either_count p q (x ∷ xs) = let h = either_count p q xs in let a = sum_by-cons (one_if p) x xs in let b = sum_by-cons (one_if q) x xs in let c = sum_by-cons (one_if (λ i. p i || q i)) x xs in
    let here : cond (p x || q x) 1 0 ≤ cond (p x) 1 0 + cond (q x) 1 0 = ⊎_elim
    (λ (e : p x ≡ true). rw e (omega arith))
    (λ (e : p x ≡ false). rw e (omega arith))
    (bool (p x)) in
    omega (arith, h, a, b, c, here)

none_later : (x a n : ℕ) → x ≤ a → count_by (λ i. x == suc i) (range_with_len a n) ≡ 0
none_later x a zero le = refl
none_later x a (suc n) le = let h = none_later x (a + 1) n (omega (arith, le)) in let c = sum_by-cons (one_if (λ i. x == suc i)) a (range_with_len (a + 1) n) in
    let none : cond {A = ℕ} (x == suc a) 1 0 ≡ 0 = rw (ne_eqb x (suc a) (λ (e : x ≡ suc a). omega (arith, e, le))) refl in omega (arith, h, c, none)

at_most_one : (x a n : ℕ) → count_by (λ i. x == suc i) (range_with_len a n) ≤ 1
at_most_one x a zero = omega arith
at_most_one x a (suc n) = let c = sum_by-cons (one_if (λ i. x == suc i)) a (range_with_len (a + 1) n) in number_case x (suc a)
    (λ (e : x ≡ suc a). let z = none_later x (a + 1) n (omega (arith, e)) in let one : cond {A = ℕ} (x == suc a) 1 0 ≡ 1 = rw (eq-eqb x (suc a) e) refl in omega (arith, c, z, one))
    (λ (m : x ≡ suc a → ⊥). let h = at_most_one x (a + 1) n in let none : cond {A = ℕ} (x == suc a) 1 0 ≡ 0 = rw (ne_eqb x (suc a) m) refl in omega (arith, c, h, none))

no_count : (xs : List ℕ) → count_by (λ i. false) xs ≡ 0
no_count [] = refl
no_count (x ∷ xs) = let h = no_count xs in let c = sum_by-cons (one_if (λ (i : ℕ). false)) x xs in omega (arith, h, c)

named_few : (w : ℕ) (words : List ℕ) (a n : ℕ) → count_by (λ i. is_named w words i) (range_with_len a n) ≤ w
named_few zero words a n = subst (λ (k : ℕ). k ≤ 0) (sym (no_count (range_with_len a n))) (omega arith)
named_few (suc w) words a n = let h = named_few w words a n in let o = at_most_one (get_or words w 0) a n in
    let e = either_count (λ i. get_or words w 0 == suc i) (λ i. is_named w words i) (range_with_len a n) in omega (arith, h, o, e)

-- ---- of the slots that aren't taken, each is retired or held where none is free

held_where_none_free : (t g l n : Bool) → (not t && (g || (l && not n))) ≡ false → (((not t && not g) && l) && n) ≡ (not t && l)
held_where_none_free true g l n e = refl
held_where_none_free false true l n e = absurd (true_ne_false e)
held_where_none_free false false true true e = refl
held_where_none_free false false true false e = absurd (true_ne_false e)
held_where_none_free false false false n e = refl

named_of_held : (a b c d : Bool) → (((a && b) && c) && d) ≡ true → d ≡ true
named_of_held true true true d e = e
named_of_held true true false d e = absurd (true_ne_false (sym e))
named_of_held true false c d e = absurd (true_ne_false (sym e))
named_of_held false b c d e = absurd (true_ne_false (sym e))

one_each : (u : Use) (l : Bool) → once (is_live u) + once (is_reserving u) + cond (not (is_taken u) && not l) 1 0 + cond (not (is_taken u) && l) 1 0 ≡ 1
one_each Live l = omega arith
one_each Reserved l = omega arith
one_each Free true = omega arith
one_each Free false = omega arith

all_slots : (ss : List Slot) → sum_by (taken_once is_live) ss + sum_by (taken_once is_reserving) ss + count_by is_spent ss + count_by is_left_over ss ≡ length ss
all_slots [] = refl
all_slots (s ∷ ss) = let h = all_slots ss in let o = one_each s.taken (nat_lt (s.session.place.generation) greatest_generation) in
    let a = sum_by-cons (taken_once is_live) s ss in let b = sum_by-cons (taken_once is_reserving) s ss in let c = sum_by-cons (one_if is_spent) s ss in let d = sum_by-cons (one_if is_left_over) s ss in omega (arith, h, o, a, b, c, d)

pub full : (t : Table) (z : TableSize) (seat seat' : Seat) (rb : Rows) (ss : List Slot) (ls rs ks far words : List ℕ) → IsKept z (desk_steps seat) rb ss ls rs ks far
    → ((j : ℕ) → j < length ss → may_take ss z.workers words j ≡ false) → HasAdded t seat seat' (scans_of z.workers words)
    → IsFull t (book_of seat z rb ss ls rs ks) (length ls) (length rs) (count_by is_spent ss) (count_by is_left_over ss) (book_of seat' z rb ss ls rs ks)
full t z seat seat' rb ss ls rs ks far words k none added = let b = book_of seat z rb ss ls rs ks in let n = k.slots.count in
    let session : (j : ℕ) → j < z.slots → has_session b j ≡ is_taken (taken_in ss j) = λ (j : ℕ) (lt : j < z.slots). some_session z (desk_steps seat) ss ls rs j (taken_in ss j) k.slots k.live k.reserved refl lt in
    let spent : (i : ℕ) → i < z.slots → is_retired b i ≡ is_spent (slot_in ss i) = λ (i : ℕ) (lt : i < z.slots). λ p. not (session i lt p) && not (nat_lt ((k.slots.fits i lt).generation p) greatest_generation) in
    let left : (i : ℕ) → i < z.slots → is_held_in b words i ≡ is_left_over (slot_in ss i) = λ (i : ℕ) (lt : i < z.slots).
    (λ p. ((not (session i lt p) && not ((k.slots.fits i lt).generation p == 0)) && nat_lt ((k.slots.fits i lt).generation p) greatest_generation) && is_named z.workers words i)
    ∙ held_where_none_free (is_taken (taken_in ss i)) ((session_in ss i).place.generation == 0) (nat_lt ((session_in ss i).place.generation) greatest_generation) (is_named z.workers words i) (none i (omega (arith, lt, n))) in
    let retired : count_by (is_retired b) (range_with_len 0 (length ss)) ≡ count_by is_spent ss = counted_at ss (is_retired b) is_spent 0 (λ i j lt e. ap (is_retired b) (omega (arith, e)) ∙ spent i (omega (arith, lt, n))) in
    let held : count_by (is_held_in b words) (range_with_len 0 (length ss)) ≡ count_by is_left_over ss = counted_at ss (is_held_in b words) is_left_over 0 (λ i j lt e. ap (is_held_in b words) (omega (arith, e)) ∙ left i (omega (arith, lt, n))) in
    let held_z : count_by (is_held_in b words) (range_with_len 0 z.slots) ≡ count_by is_left_over ss = subst (λ (m : ℕ). count_by (is_held_in b words) (range_with_len 0 m) ≡ count_by is_left_over ss) n held in
    let few : count_by (is_held_in b words) (range_with_len 0 z.slots) ≤ count_by (λ i. is_named z.workers words i) (range_with_len 0 z.slots) = fewer (is_held_in b words) (λ i. is_named z.workers words i) (range_with_len 0 z.slots) (λ i h. named_of_held (not (has_session b i)) (not (generation_of (steps_of b) i == 0)) (nat_lt (generation_of (steps_of b) i) greatest_generation) (is_named z.workers words i) h) in
    let named = named_few z.workers words 0 z.slots in
    let all = all_slots ss in let cl = k.live.count in let cr = k.reserved.count in record {
      words = words;
      added = added;
      none = none_free z seat rb ss ls rs ks far words k none;
      live_number = sym (length-map ls (session_in ss));
      reserved_number = sym (length-map rs (session_in ss));
      retired_number = sym (subst (λ (m : ℕ). count_by (is_retired b) (range_with_len 0 m) ≡ count_by is_spent ss) n retired);
      held_number = sym held_z;
      all = omega (arith, all, cl, cr, n);
      few = omega (arith, held_z, few, named);
      book = refl;
    }
