-- The book of a table that was never used, and what splits and joins keep.
use Rattle.std.proofs.Common.{◌≡◌, ◌⊎◌, inl, inr, ⊎_elim, ℕ, zero, suc, ◌<◌, ◌≤◌, Bool, false, List, [], ◌∷◌, length, get_or, replicate, sym, refl, ap, ◌∙◌, subst, arith}
use Rattle.std.specs.List.{sum_by}
use Rattle.std.proofs.lemmas.List.Sums.{sum_by-cons}
use Rattle.config_rows.specs.Rows.{Rows}
use Rattle.session_world.specs.declared.steps.TableSize.{TableSize}
use Rattle.session_world.specs.declared.steps.Step.{Step}
use Rattle.session_world.specs.declared.steps.Step.TheVariants.{Split, Join}
use Rattle.session_world.specs.Sizes.{IsWithinLimits}
use Rattle.session_desk.proofs.BoolFacts.{true_ne_false, some_none}
use Rattle.session_desk.specs.declared.session.Use.{Use}
use Rattle.session_desk.specs.declared.session.Use.TheVariants.{Free}
use Rattle.session_desk.specs.declared.session.Slot.{Slot}
use Rattle.session_desk.specs.Slots.{is_live, is_reserving, is_taken, taken_in, taken_once, once, free_slot_of, AreUnused, SlotFits, IsOrder}
use Rattle.session_desk.specs.Kept.{IsKept}
use Rattle.session_desk.proofs.Orders.{past}
use Rattle.session_desk.proofs.Keeping.{OnlyAt, quiet_kept}

-- ---- slots that were never used

low_or_high : (i n : ℕ) → (i < n) ⊎ (n ≤ i)
low_or_high zero zero = inr (omega arith)
low_or_high zero (suc n) = inl (omega arith)
low_or_high (suc i) zero = inr (omega arith)
low_or_high (suc i) (suc n) = ⊎_elim (λ (lt : i < n). inl (omega arith)) (λ (le : n ≤ i). inr (omega arith)) (low_or_high i n)

unused_is_free : (ss : List Slot) (n : ℕ) → AreUnused ss n → (i : ℕ) → taken_in ss i ≡ Free
unused_is_free ss n u i = ⊎_elim
    (λ (lt : i < n). ap (λ (s : Slot). s.taken) (u.each i lt))
    (λ (le : n ≤ i). let l = u.length_is in ap (λ (s : Slot). s.taken) (past ss i (omega (arith, l, le))))
    (low_or_high i n)

none_pass : (test : Use → Bool) (ss : List Slot) → ((i : ℕ) → test (taken_in ss i) ≡ false) → sum_by (taken_once test) ss ≡ 0
none_pass test [] each = refl
none_pass test (s ∷ ss) each = let h = none_pass test ss (λ i. each (suc i)) in let e = ap once (each 0) in let c = sum_by-cons (taken_once test) s ss in omega (arith, h, e, c)

no_order : (test : Use → Bool) (ss : List Slot) (n : ℕ) → test Free ≡ false → AreUnused ss n → IsOrder test ss []
no_order test ss n none u = let fails : (i : ℕ) → test (taken_in ss i) ≡ false = λ (i : ℕ). ap test (unused_is_free ss n u i) ∙ none in record {
  each = λ i. sym (ap once (fails i));
  count = sym (none_pass test ss fails);
}

unused_fits : (i : ℕ) → SlotFits [] i (free_slot_of i)
unused_fits i = record { place = refl; generation = refl; live = refl; reserved = λ r. absurd (true_ne_false (sym r)); session = λ t. absurd (true_ne_false (sym t)); noted = λ t. absurd (true_ne_false (sym t)) }

pub first_kept : (z : TableSize) (ss : List Slot) (far : List ℕ) → IsWithinLimits z → AreUnused ss z.slots → length far ≡ z.slots → ((i : ℕ) → get_or far i 0 ≤ z.slots)
    → IsKept z [] (record { configs = []; limit = z.rows }) ss [] [] [] far
first_kept z ss far l u w r = record {
  limits = l;
  slots = record {
    count = u.length_is;
    fits = λ i lt. subst (SlotFits [] i) (sym (u.each i lt)) (unused_fits i);
    alone = λ i j li lj ti tj x. absurd (true_ne_false (sym ti ∙ ap is_taken (unused_is_free ss z.slots u i)));
  };
  live = no_order is_live ss z.slots refl u;
  reserved = no_order is_reserving ss z.slots refl u;
  taken = no_order is_taken ss z.slots refl u;
  rows = record { limit = refl; written = refl; configs = λ c row is. absurd (some_none c is.1) };
  lines = refl;
  reach = λ i lt t. absurd (true_ne_false (sym t ∙ ap is_taken (unused_is_free ss z.slots u i)));
  width = w;
  range = r;
}

-- ---- splits and joins

only_split : (ds : List Step) (w n i : ℕ) → OnlyAt ds (Split w n ∷ ds) i
only_split ds w n i = record { generation = λ j m. refl; row = λ j m. refl; live = λ j m. refl; reserved = λ j m. refl; words = λ j k m. refl; complete = λ r c. c; config = λ r c. refl }

only_join : (ds : List Step) (w n i : ℕ) → OnlyAt ds (Join w n ∷ ds) i
only_join ds w n i = record { generation = λ j m. refl; row = λ j m. refl; live = λ j m. refl; reserved = λ j m. refl; words = λ j k m. refl; complete = λ r c. c; config = λ r c. refl }

pub split_kept : (z : TableSize) (ds : List Step) (rb : Rows) (ss : List Slot) (ls rs ks far : List ℕ) (w n : ℕ) → IsKept z ds rb ss ls rs ks far → IsKept z (Split w n ∷ ds) rb ss ls rs ks far
split_kept z ds rb ss ls rs ks far w n k = quiet_kept z ds (Split w n ∷ ds) rb ss ls rs ks far (only_split ds w n) refl (λ r. refl) refl k

pub join_kept : (z : TableSize) (ds : List Step) (rb : Rows) (ss : List Slot) (ls rs ks far : List ℕ) (w n : ℕ) → IsKept z ds rb ss ls rs ks far → IsKept z (Join w n ∷ ds) rb ss ls rs ks far
join_kept z ds rb ss ls rs ks far w n k = quiet_kept z ds (Join w n ∷ ds) rb ss ls rs ks far (only_join ds w n) refl (λ r. refl) refl k

pub no_far : (n i : ℕ) → get_or {A = ℕ} (replicate n 0) i 0 ≡ 0
no_far zero i = refl
no_far (suc n) zero = refl
no_far (suc n) (suc i) = no_far n i
