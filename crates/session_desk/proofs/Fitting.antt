-- What every book says of its sessions and rows.
use Rattle.std.proofs.Common.{◌≡◌, ◌≢◌, ◌⊎◌, inl, inr, ⊎_elim, ℕ, zero, suc, ◌+◌, ◌*◌, ◌<◌, ◌≤◌, ◌==◌, Bool, true, false, ◌||◌, ◌&&◌, not, nat_lt, if◌then◌else◌, List, [], ◌∷◌, length, get_or, map, cond, Some, sym, refl, ap, ◌∙◌, subst, arith, eq-eqb, ne_eqb}
use Rattle.std.specs.List.{list_any, sum_by, count_by, range_with_len, slice_get, Contains, AllPairs}
use Rattle.std.proofs.lemmas.Bool.{ltb-false}
use Rattle.std.proofs.lemmas.List.{get_or-map, length-map}
use Rattle.std.proofs.lemmas.List.Sums.{sum_by-cons}
use Rattle.std.proofs.lemmas.Option.{slice_get-get_or}
use Rattle.refl_types.specs.declared.types.Key.{Key}
use Rattle.slot_word.specs.Fields.{greatest_generation}
use Rattle.session_key.specs.Matching.{excludes}
use Rattle.config_rows.specs.Rows.{Rows}
use Rattle.session_world.specs.declared.steps.TableSize.{TableSize}
use Rattle.session_world.specs.declared.steps.Step.{Step}
use Rattle.session_world.specs.declared.steps.Step.TheVariants.{ReserveNew, ReserveUsed}
use Rattle.session_world.specs.Allowed.{DeskDid}
use Rattle.session_world.specs.DeskLists.{DeskIsAllowed}
use Rattle.session_world.specs.Desk.{generation_of}
use Rattle.session_desk.proofs.BoolFacts.{number_case, bool, both, is_false, not_true, true_ne_false, or_none}
use Rattle.session_rule.specs.declared.seats.Seat.{Seat}
use Rattle.session_rule.specs.Seats.{desk_steps}
use Rattle.session_desk.specs.declared.session.Use.{Use}
use Rattle.session_desk.specs.declared.session.Use.TheVariants.{Free, Reserved, Live}
use Rattle.session_desk.specs.declared.session.Session.{Session}
use Rattle.session_desk.specs.declared.session.Slot.{Slot}
use Rattle.session_desk.specs.Book.{Book, Line, line_of, steps_of}
use Rattle.session_desk.specs.Slots.{is_live, is_reserving, is_taken, session_in, key_in, taken_in, times, once, IsOrder, AreSlots}
use Rattle.session_desk.specs.Kept.{IsKept, IsScheduled, book_of}
use Rattle.session_desk.specs.Calls.{has_session}
use Rattle.session_desk.specs.Refusals.{slots_that, is_retired}
use Rattle.session_desk.specs.Fits.{IsIn, reserves_in, BookFits}
use Rattle.session_desk.proofs.Lists.{any_none, any_some, still}
use Rattle.session_desk.proofs.Orders.{member, is_member, is_inside}
use Rattle.session_desk.proofs.Keeping.{inside_of, live_is_taken, reserving_is_taken}
use Rattle.session_desk.proofs.Telling.{got_times}

-- ---- no two keys exclude each other

once_low : (b : Bool) → once b ≤ 1
once_low true = omega arith
once_low false = omega arith

-- what stands once each stands at one place
places_differ : (xs : List ℕ) (i j : ℕ) → ((k : ℕ) → times k xs ≤ 1) → i < j → j < length xs → get_or xs i 0 ≢ get_or xs j 0
places_differ [] i j low ij jl e = omega (arith, jl)
places_differ (x ∷ xs) i zero low ij jl e = omega (arith, ij)
places_differ (x ∷ xs) zero (suc j) low ij jl e =
    let some : 0 < times (get_or xs j 0) xs = got_times xs j (get_or xs j 0) (slice_get-get_or xs j 0 (omega (arith, jl))) in
    let some_x : 0 < times x xs = subst (λ (k : ℕ). 0 < times k xs) (sym e) some in
    let c : times x (x ∷ xs) ≡ suc (times x xs) = rw (eq-eqb x x refl) refl in let l = low x in omega (arith, some_x, c, l)
places_differ (x ∷ xs) (suc i) (suc j) low ij jl e = places_differ xs i j (λ k. let l = low k in number_case x k
    (λ (q : x ≡ k). let c : times k (x ∷ xs) ≡ suc (times k xs) = rw (eq-eqb x k q) refl in omega (arith, l, c))
    (λ (n : x ≢ k). let c : times k (x ∷ xs) ≡ times k xs = rw (ne_eqb x k n) refl in omega (arith, l, c))) (omega (arith, ij)) (omega (arith, jl)) e

member_at : (test : Use → Bool) (ss : List Slot) (xs : List ℕ) (i : ℕ) → IsOrder test ss xs → i < length xs → test (taken_in ss (get_or xs i 0)) ≡ true
member_at test ss xs i o lt = member test ss xs (get_or xs i 0) o (got_times xs i (get_or xs i 0) (slice_get-get_or xs i 0 lt))

alone_pairs : (z : TableSize) (ds : List Step) (ss : List Slot) (ks : List ℕ) → AreSlots z ds ss → IsOrder is_taken ss ks → AllPairs (λ j k. excludes j k ≡ false) (map (key_in ss) ks)
alone_pairs z ds ss ks a o i j d ij jl =
    let l = length-map ks (key_in ss) in let lj : j < length ks = omega (arith, jl, l) in let li : i < length ks = omega (arith, ij, lj) in
    let ti = member_at is_taken ss ks i o li in let tj = member_at is_taken ss ks j o lj in
    let ei = get_or-map (key_in ss) ks i 0 d li in let ej = get_or-map (key_in ss) ks j 0 d lj in
    is_false _ (λ (x : excludes (get_or (map (key_in ss) ks) i d) (get_or (map (key_in ss) ks) j d) ≡ true).
    places_differ ks i j (λ k. let e = o.each k in let b = once_low (is_taken (taken_in ss k)) in omega (arith, e, b)) ij lj
    (a.alone (get_or ks i 0) (get_or ks j 0) (inside_of z ds ss is_taken (get_or ks i 0) a refl ti) (inside_of z ds ss is_taken (get_or ks j 0) a refl tj) ti tj
    ((λ p. excludes (sym ei p) (sym ej p)) ∙ x)))

-- ---- the keys are those of the sessions

each_fails : {A : Type 0} (f : ℕ → A) (p : A → Bool) (xs : List ℕ) → list_any p (map f xs) ≡ false → (j : ℕ) → 0 < times j xs → p (f j) ≡ false
each_fails f p xs none j some = is_false _ (λ (h : p (f j) ≡ true). true_ne_false (sym (any_some f p j xs some h) ∙ none))

taken_cases : (u : Use) → is_taken u ≡ true → (is_live u ≡ true) ⊎ (is_reserving u ≡ true)
taken_cases Live t = inl refl
taken_cases Reserved t = inr refl
taken_cases Free t = absurd (true_ne_false (sym t))

or_false : (a b : Bool) → (a || b) ≡ false → (a ≡ false) × (b ≡ false)
or_false true b h = absurd (true_ne_false h)
or_false false b h = (refl, h)

keys_are : (z : TableSize) (ds : List Step) (rb : Rows) (ss : List Slot) (ls rs ks far : List ℕ) (test : Key → Bool) → IsKept z ds rb ss ls rs ks far
    → list_any test (map (key_in ss) ks) ≡ (list_any (λ s. test s.key) (map (session_in ss) ls) || list_any (λ s. test s.key) (map (session_in ss) rs))
keys_are z ds rb ss ls rs ks far test k = ⊎_elim
    (λ (yes_ : list_any test (map (key_in ss) ks) ≡ true). ⊎_elim
    (λ (r : (list_any (λ s. test s.key) (map (session_in ss) ls) || list_any (λ s. test s.key) (map (session_in ss) rs)) ≡ true). yes_ ∙ sym r)
    (λ (r : (list_any (λ s. test s.key) (map (session_in ss) ls) || list_any (λ s. test s.key) (map (session_in ss) rs)) ≡ false). let b = or_false _ _ r in
    absurd (true_ne_false (sym yes_ ∙ any_none (key_in ss) test ks (λ j some. ⊎_elim
    (λ (live : is_live (taken_in ss j) ≡ true). each_fails (session_in ss) (λ s. test s.key) ls b.0 j (is_member is_live ss ls j k.live live))
    (λ (reserving : is_reserving (taken_in ss j) ≡ true). each_fails (session_in ss) (λ s. test s.key) rs b.1 j (is_member is_reserving ss rs j k.reserved reserving))
    (taken_cases (taken_in ss j) (member is_taken ss ks j k.taken some))))))
    (bool _))
    (λ (no_ : list_any test (map (key_in ss) ks) ≡ false). no_ ∙ sym (or_none _ _
    (any_none (session_in ss) (λ s. test s.key) ls (λ j some. each_fails (key_in ss) test ks no_ j (is_member is_taken ss ks j k.taken (live_is_taken _ (member is_live ss ls j k.live some)))))
    (any_none (session_in ss) (λ s. test s.key) rs (λ j some. each_fails (key_in ss) test ks no_ j (is_member is_taken ss ks j k.taken (reserving_is_taken _ (member is_reserving ss rs j k.reserved some)))))))
    (bool (list_any test (map (key_in ss) ks)))

-- ---- each session has the generation of its slot

contained : (ss : List Slot) (xs : List ℕ) (s : Session) → Contains (map (session_in ss) xs) s → (j : ℕ) × (0 < times j xs) × (session_in ss j ≡ s)
contained ss [] s h = let l = h.1 in absurd (omega (arith, l))
contained ss (x ∷ xs) s (zero, l, e) = (x, rw (eq-eqb x x refl) (omega arith), e)
contained ss (x ∷ xs) s (suc n, l, e) = let r = contained ss xs s (n, omega (arith, l), e) in (r.0, still r.0 x xs r.1, r.2)

placed : (z : TableSize) (ds : List Step) (ss : List Slot) (test : Use → Bool) (xs : List ℕ) (s : Session) → AreSlots z ds ss → IsOrder test ss xs → test Free ≡ false → Contains (map (session_in ss) xs) s → generation_of ds s.place.slot ≡ s.place.generation
placed z ds ss test xs s a o none h = let r = contained ss xs s h in let f = a.fits r.0 (inside_of z ds ss test r.0 a none (member test ss xs r.0 o r.1)) in
    ap (generation_of ds) (ap (λ (y : Session). y.place.slot) (sym r.2) ∙ f.place) ∙ f.generation ∙ ap (λ (y : Session). y.place.generation) r.2

-- ---- how often the slots were reserved, in all

zeros : (xs : List ℕ) → sum_by (λ (i : ℕ). 0) xs ≡ 0
zeros [] = refl
zeros (x ∷ xs) = let h = zeros xs in let c = sum_by-cons (λ (i : ℕ). 0) x xs in omega (arith, h, c)

later_same : (f : ℕ → ℕ) (k g a n : ℕ) → k < a → sum_by (λ i. if i == k then g else f i) (range_with_len a n) ≡ sum_by f (range_with_len a n)
later_same f k g a zero lt = refl
later_same f k g a (suc n) lt = let h = later_same f k g (a + 1) n (omega (arith, lt)) in
    let b = sum_by-cons (λ i. if i == k then g else f i) a (range_with_len (a + 1) n) in let c = sum_by-cons f a (range_with_len (a + 1) n) in
    let e : (if a == k then g else f a) ≡ f a = rw (ne_eqb a k (λ (q : a ≡ k). omega (arith, q, lt))) refl in omega (arith, h, b, c, e)

one_more : (f : ℕ → ℕ) (k g a n : ℕ) → g ≡ suc (f k) → sum_by (λ i. if i == k then g else f i) (range_with_len a n) ≤ suc (sum_by f (range_with_len a n))
one_more f k g a zero e = omega arith
one_more f k g a (suc n) e = let b = sum_by-cons (λ i. if i == k then g else f i) a (range_with_len (a + 1) n) in let c = sum_by-cons f a (range_with_len (a + 1) n) in number_case a k
    (λ (q : a ≡ k). let h = later_same f k g (a + 1) n (omega (arith, q)) in let x : (if a == k then g else f a) ≡ g = rw (eq-eqb a k q) refl in let y = ap f q in omega (arith, b, c, h, x, y, e))
    (λ (m : a ≢ k). let h = one_more f k g (a + 1) n e in let x : (if a == k then g else f a) ≡ f a = rw (ne_eqb a k m) refl in omega (arith, b, c, h, x))

generations : (z : TableSize) (ds : List Step) (n : ℕ) → DeskDid z ds → sum_by (generation_of ds) (range_with_len 0 n) ≤ reserves_in ds
generations z [] n did = let h = zeros (range_with_len 0 n) in omega (arith, h)
generations z (ReserveNew slot row ∷ ds) n did = let h = generations z ds n did.0 in let e = did.1.0 in let m = one_more (generation_of ds) slot 1 0 n (omega (arith, e)) in omega (arith, h, m)
generations z (ReserveUsed slot generation row ∷ ds) n did = let h = generations z ds n did.0 in let m = one_more (generation_of ds) slot generation 0 n did.1.0 in omega (arith, h, m)
generations z (_ ∷ ds) n did = generations z ds n did.0

counted_times : (p : ℕ → Bool) (f : ℕ → ℕ) (g : ℕ) (xs : List ℕ) → ((i : ℕ) → p i ≡ true → g ≤ f i) → count_by p xs * g ≤ sum_by f xs
counted_times p f g [] each = omega arith
counted_times p f g (x ∷ xs) each = let h = counted_times p f g xs each in let a = sum_by-cons (λ (i : ℕ). cond (p i) 1 0) x xs in let b = sum_by-cons f x xs in ⊎_elim
    (λ (e : p x ≡ true). let one : cond {A = ℕ} (p x) 1 0 ≡ 1 = rw e refl in let low = each x e in let c : count_by p (x ∷ xs) ≡ suc (count_by p xs) = omega (arith, a, one) in
    subst (λ (m : ℕ). m * g ≤ sum_by f (x ∷ xs)) (sym c) (omega (arith, h, b, low)))
    (λ (e : p x ≡ false). let none : cond {A = ℕ} (p x) 1 0 ≡ 0 = rw e refl in let c : count_by p (x ∷ xs) ≡ count_by p xs = omega (arith, a, none) in
    subst (λ (m : ℕ). m * g ≤ sum_by f (x ∷ xs)) (sym c) (omega (arith, h, b)))
    (bool (p x))

retired_few : (z : TableSize) (b : Book) → DeskDid z (steps_of b) → slots_that b (is_retired b) * greatest_generation ≤ reserves_in (steps_of b)
retired_few z b did = let g = generations z (steps_of b) b.size.slots did in
    let h = counted_times (is_retired b) (generation_of (steps_of b)) greatest_generation (range_with_len 0 b.size.slots) (λ i r. ltb-false (generation_of (steps_of b) i) greatest_generation (not_true _ (both (not (has_session b i)) _ r).1)) in
    omega (arith, g, h)

-- ---- the whole

lines_of : (ss : List Slot) (xs : List ℕ) → map line_of (map (session_in ss) xs) ≡ map (λ i. line_of (session_in ss i)) xs
lines_of ss [] = refl
lines_of ss (x ∷ xs) = ap (λ (ys : List Line). line_of (session_in ss x) ∷ ys) (lines_of ss xs)

pub fits : DeskIsAllowed → (z : TableSize) (seat : Seat) (rb : Rows) (ss : List Slot) (ls rs ks far : List ℕ) → IsKept z (desk_steps seat) rb ss ls rs ks far → IsScheduled z seat → BookFits (book_of seat z rb ss ls rs ks)
fits law z seat rb ss ls rs ks far k s = record {
  limits = k.limits;
  schedule = s;
  lines = lines_of ss ls ∙ k.lines;
  rows = k.rows;
  alone = alone_pairs z (desk_steps seat) ss ks k.slots k.taken;
  keys = λ test. keys_are z (desk_steps seat) rb ss ls rs ks far test k;
  places = λ x i. ⊎_elim
      (λ (l : Contains (map (session_in ss) ls) x). placed z (desk_steps seat) ss is_live ls x k.slots k.live refl l)
      (λ (r : Contains (map (session_in ss) rs) x). placed z (desk_steps seat) ss is_reserving rs x k.slots k.reserved refl r)
      i;
  retired = retired_few z (book_of seat z rb ss ls rs ks) (law z (desk_steps seat) _ s);
}
