-- What the book tells of its live sessions.
use Rattle.std.proofs.Common.{◌≡◌, ⊎_elim, ℕ, zero, suc, ◌<◌, Bool, true, false, List, [], ◌∷◌, length, get_or, map, sym, refl, ap, ◌∙◌, subst, arith, eq-eqb, ne_eqb, Some, None}
use Rattle.std.specs.List.{list_any, find, slice_get}
use Rattle.std.proofs.lemmas.Option.{slice_get-get_or}
use Rattle.refl_types.specs.declared.types.Key.{Key}
use Rattle.config_rows.specs.Rows.{Rows}
use Rattle.session_world.specs.declared.steps.TableSize.{TableSize}
use Rattle.session_world.specs.declared.steps.Step.{Step}
use Rattle.session_desk.proofs.BoolFacts.{number_case, bool, true_ne_false, some_none, some_same}
use Rattle.session_desk.specs.declared.session.Use.{Use}
use Rattle.session_desk.specs.declared.session.Use.TheVariants.{Free}
use Rattle.session_desk.specs.declared.session.Slot.{Slot}
use Rattle.session_desk.specs.Sessions.{is_of}
use Rattle.session_desk.specs.Slots.{is_live, session_in, taken_in, times, IsOrder}
use Rattle.session_desk.specs.Kept.{IsKept}
use Rattle.session_desk.proofs.Lists.{still}
use Rattle.session_desk.proofs.Orders.{member, is_member, is_inside}
use Rattle.session_desk.proofs.Keeping.{inside_of, live_is_taken, one_of_key}

pub found_none : {A : Type 0} (p : A → Bool) (xs : List A) → list_any p xs ≡ false → find p xs ≡ None
found_none p [] e = refl
found_none p (x ∷ xs) e = ⊎_elim
    (λ (h : p x ≡ true). absurd (true_ne_false (sym (rw h refl) ∙ e)))
    (λ (h : p x ≡ false). rw h (found_none p xs (sym (rw h refl) ∙ e)))
    (bool (p x))

-- the first that passes is the only one
pub found_one : {A : Type 0} (f : ℕ → A) (p : A → Bool) (i : ℕ) (xs : List ℕ) → 0 < times i xs → p (f i) ≡ true → ((j : ℕ) → 0 < times j xs → p (f j) ≡ true → j ≡ i) → find p (map f xs) ≡ Some (f i)
found_one f p i [] some passes one = absurd (omega (arith, some))
found_one f p i (x ∷ xs) some passes one = ⊎_elim
    (λ (h : p (f x) ≡ true). rw h (ap (λ (j : ℕ). Some (f j)) (one x (rw (eq-eqb x x refl) (omega arith)) h)))
    (λ (h : p (f x) ≡ false). rw h (found_one f p i xs (number_case x i
    (λ (e : x ≡ i). absurd (true_ne_false (sym passes ∙ ap (λ (j : ℕ). p (f j)) (sym e) ∙ h)))
    (λ (n : x ≡ i → ⊥). subst (λ (t : ℕ). 0 < t) (rw (ne_eqb x i n) refl) some)) passes (λ j some. one j (still j x xs some))))
    (bool (p (f x)))

pub found_live : (z : TableSize) (ds : List Step) (rb : Rows) (ss : List Slot) (ls rs ks far : List ℕ) (k : Key) (i : ℕ) → IsKept z ds rb ss ls rs ks far → is_live (taken_in ss i) ≡ true → is_of k (session_in ss i) ≡ true
    → find (is_of k) (map (session_in ss) ls) ≡ Some (session_in ss i)
found_live z ds rb ss ls rs ks far k i kept live at = found_one (session_in ss) (is_of k) i ls (is_member is_live ss ls i kept.live live) at (λ j some here. let lj = member is_live ss ls j kept.live some in
    one_of_key z ds ss k j i kept.slots (inside_of z ds ss is_live j kept.slots refl lj) (inside_of z ds ss is_live i kept.slots refl live) (live_is_taken _ lj) (live_is_taken _ live) here at)

-- ---- by number

pub got_times : (xs : List ℕ) (n i : ℕ) → slice_get xs n ≡ Some i → 0 < times i xs
got_times [] n i e = absurd (some_none i e)
got_times (x ∷ xs) zero i e = rw (eq-eqb x i (some_same e)) (omega arith)
got_times (x ∷ xs) (suc n) i e = still i x xs (got_times xs n i e)

-- a number that stands in an order is that of a slot
pub got_inside : (z : TableSize) (ds : List Step) (rb : Rows) (ss : List Slot) (ls rs ks far : List ℕ) (n i : ℕ) → IsKept z ds rb ss ls rs ks far → slice_get ls n ≡ Some i → i < length ss
got_inside z ds rb ss ls rs ks far n i k e = is_inside is_live ss i refl (member is_live ss ls i k.live (got_times ls n i e))

pub order_inside : (test : Use → Bool) (ss : List Slot) (xs : List ℕ) → IsOrder test ss xs → test Free ≡ false → (i : ℕ) → i < length xs → get_or xs i 0 < length ss
order_inside test ss xs o none i lt = is_inside test ss (get_or xs i 0) none (member test ss xs (get_or xs i 0) o (got_times xs i (get_or xs i 0) (slice_get-get_or xs i 0 lt)))

pub order_inside_by : (test : Use → Bool) (ss ts : List Slot) (xs ys : List ℕ) → IsOrder test ss xs → test Free ≡ false → ts ≡ ss → ys ≡ xs → (i : ℕ) → i < length ys → get_or ys i 0 < length ts
order_inside_by test ss ts xs ys o none a b = subst (λ (zs : List ℕ). (i : ℕ) → i < length zs → get_or zs i 0 < length ts) (sym b) (subst (λ (us : List Slot). (i : ℕ) → i < length xs → get_or xs i 0 < length us) (sym a) (order_inside test ss xs o none))
