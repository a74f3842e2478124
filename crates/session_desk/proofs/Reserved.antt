-- A slot that a reserve takes, and what the reserve makes of the book.
use Rattle.std.proofs.Common.{◌≡◌, ◌≢◌, inl, inr, ⊎_elim, ℕ, zero, suc, ◌+◌, ◌<◌, ◌≤◌, ◌==◌, Bool, true, false, ◌&&◌, not, nat_lt, List, [], ◌∷◌, ◌++◌, length, get_or, set, max, sym, refl, ap, ◌∙◌, subst, arith, add-one, eq-eqb}
use Rattle.std.specs.List.{sum_by}
use Rattle.std.proofs.lemmas.Bool.{eqb-true, ltb-true}
use Rattle.std.proofs.lemmas.List.{length-set, get_or-set_same, get_or-set_other}
use Rattle.std.proofs.lemmas.List.Sums.{sum_by-set, sum_by-cons}
use Rattle.refl_types.specs.declared.types.Key.{Key}
use Rattle.refl_types.specs.declared.outcome.Place.{Place}
use Rattle.slot_word.specs.Fields.{greatest_generation}
use Rattle.config_rows.specs.Rows.{Rows}
use Rattle.session_world.specs.declared.steps.TableSize.{TableSize}
use Rattle.session_world.specs.declared.steps.Step.{Step}
use Rattle.session_world.specs.declared.steps.Step.TheVariants.{Scan}
use Rattle.session_world.specs.Keys.{distance}
use Rattle.session_world.specs.Allowed.{DeskDid}
use Rattle.session_world.specs.Desk.{is_open, generation_of, is_reserved, start_of_key}
use Rattle.session_desk.proofs.BoolFacts.{number_case, bool, true_ne_false, both, either_of, and_i, or_l, not_true, not_false}
use Rattle.session_world.specs.DeskLists.{HasSoundSlots}
use Rattle.session_desk.specs.declared.session.Use.{Use}
use Rattle.session_desk.specs.declared.session.Use.TheVariants.{Free, Reserved, Live}
use Rattle.session_desk.specs.declared.session.Slot.{Slot}
use Rattle.session_desk.specs.Slots.{is_live, is_reserving, is_taken, slot_in, session_in, taken_in, taken_once, once, AreSlots, IsOrder, IsFirst, Reaches, may_take}
use Rattle.session_desk.specs.Kept.{IsKept}
use Rattle.session_desk.specs.Writes.{scans_of, is_named, IsReady}
use Rattle.session_desk.proofs.Orders.{here, else_where, both_fit}
use Rattle.session_desk.proofs.Keeping.{quiet_kept}
use Rattle.session_desk.proofs.Written.{quiet_none, scans_quiet, same_generation, may_reuse}
use Rattle.session_desk.proofs.Reserving.{only_scan, free_is_not_live, free_is_not_reserving}

-- ---- scans keep the book as it is

pub scans_kept : (z : TableSize) (ds : List Step) (rb : Rows) (ss : List Slot) (ls rs ks far : List ℕ) (n : ℕ) (words : List ℕ) → IsKept z ds rb ss ls rs ks far → IsKept z (scans_of n words ++ ds) rb ss ls rs ks far
scans_kept z ds rb ss ls rs ks far zero words k = k
scans_kept z ds rb ss ls rs ks far (suc n) words k = let es = scans_of n words ++ ds in quiet_kept z es (Scan (suc n) (get_or words n 0) ∷ es) rb ss ls rs ks far (λ i. only_scan es i (suc n) (get_or words n 0)) refl (λ r. refl) refl (scans_kept z ds rb ss ls rs ks far n words k)

-- ---- the slot that is taken

used_by : (z : TableSize) (ds : List Step) (j : ℕ) (u : Use) → HasSoundSlots z ds → is_open ds j ≡ is_live u → (is_reserving u ≡ true → is_reserved ds j ≡ true) → is_taken u ≡ true → ¬ (generation_of ds j ≡ 0)
used_by z ds j Free sound o r t = absurd (true_ne_false (sym t))
used_by z ds j Reserved sound o r t = sound.reserved_used j (r refl)
used_by z ds j Live sound o r t = sound.open_used j o

pub is_ready : (z : TableSize) (ds : List Step) (ss : List Slot) (words : List ℕ) (start : ℕ) (p : Place) (k : Key) → HasSoundSlots z ds → AreSlots z ds ss → IsFirst ss z.workers words start p.slot → start ≡ start_of_key z k → p.generation ≡ (session_in ss p.slot).place.generation + 1
    → IsReady z (scans_of z.workers words ++ ds) p k
is_ready z ds ss words start p k did a f e next =
    let lt : p.slot < z.slots = subst (λ (n : ℕ). p.slot < n) a.count f.inside in
    let fit = a.fits p.slot lt in
    let free = not_true _ (both _ _ f.free).0 in
    let same : (j : ℕ) → generation_of (scans_of z.workers words ++ ds) j ≡ generation_of ds j = λ (j : ℕ). same_generation (scans_of z.workers words) ds j (scans_quiet {i = j} z.workers words) in
    record {
      inside = lt;
      next = next ∙ add-one _ ∙ ap (λ (g : ℕ). suc g) (sym (same p.slot ∙ fit.generation));
      free = number_case (session_in ss p.slot).place.generation 0
          (λ (g0 : (session_in ss p.slot).place.generation ≡ 0). inl (same p.slot ∙ fit.generation ∙ g0))
          (λ (g1 : (session_in ss p.slot).place.generation ≢ 0). let r = both _ _ (⊎_elim (λ (x : ((session_in ss p.slot).place.generation == 0) ≡ true). absurd (g1 (eqb-true _ _ x))) (λ (x : (nat_lt ((session_in ss p.slot).place.generation) greatest_generation && not (is_named z.workers words p.slot)) ≡ true). x) (either_of _ _ (both _ _ f.free).1)) in
          inr (may_reuse z ds [] words p.slot quiet_none (fit.live ∙ free_is_not_live (taken_in ss p.slot) free) (λ x. g1 (sym fit.generation ∙ x)) (subst (λ (g : ℕ). g < greatest_generation) (sym fit.generation) (ltb-true _ _ r.0)) (not_true _ r.1)));
      path = λ j l d g0. let fj = a.fits j l in
          let no : may_take ss z.workers words j ≡ false = f.before j (subst (λ (n : ℕ). j < n) (sym a.count) l) (subst (λ (n : ℕ). distance n start j < distance n start p.slot) (sym a.count) (subst (λ (s : ℕ). distance z.slots s j < distance z.slots s p.slot) (sym e) d)) in
          let gj : (session_in ss j).place.generation ≡ 0 = sym fj.generation ∙ sym (same j) ∙ g0 in
          ⊎_elim
          (λ (t : is_taken (taken_in ss j) ≡ true). used_by z ds j (taken_in ss j) did fj.live fj.reserved t (sym (same j) ∙ g0))
          (λ (t : is_taken (taken_in ss j) ≡ false). true_ne_false (sym (and_i _ _ (not_false _ t) (or_l _ _ (eq-eqb _ 0 gj))) ∙ no))
          (bool (is_taken (taken_in ss j)));
    }

-- there is room for one more reserved session where a slot is free
pub has_room_free : (ss : List Slot) (xs ys : List ℕ) (i : ℕ) → IsOrder is_live ss xs → IsOrder is_reserving ss ys → i < length ss → is_taken (taken_in ss i) ≡ false → length ys < length ss
has_room_free ss xs ys i o p lt free =
    let s : Slot = record { taken = Reserved; session = session_in ss i } in
    let a : sum_by (taken_once is_reserving) (set ss i s) + once (is_reserving (taken_in ss i)) ≡ sum_by (taken_once is_reserving) ss + 1 = sum_by-set (taken_once is_reserving) ss i s _ lt in
    let n : once (is_reserving (taken_in ss i)) ≡ 0 = ap once (free_is_not_reserving (taken_in ss i) free) in
    let f = both_fit (set ss i s) in let l = length-set ss i s in let c = p.count in omega (arith, a, n, f, l, c)

once_low : (b : Bool) → once b ≤ 1
once_low true = omega arith
once_low false = omega arith

taken_fit : (ss : List Slot) → sum_by (taken_once is_taken) ss ≤ length ss
taken_fit [] = omega arith
taken_fit (s ∷ ss) = let h = taken_fit ss in let e = sum_by-cons (taken_once is_taken) s ss in let o = once_low (is_taken s.taken) in omega (arith, h, e, o)

pub has_room_taken : (ss : List Slot) (xs : List ℕ) (i : ℕ) → IsOrder is_taken ss xs → i < length ss → is_taken (taken_in ss i) ≡ false → length xs < length ss
has_room_taken ss xs i o lt free =
    let s : Slot = record { taken = Reserved; session = session_in ss i } in
    let a : sum_by (taken_once is_taken) (set ss i s) + once (is_taken (taken_in ss i)) ≡ sum_by (taken_once is_taken) ss + 1 = sum_by-set (taken_once is_taken) ss i s _ lt in
    let n : once (is_taken (taken_in ss i)) ≡ 0 = ap once free in
    let f = taken_fit (set ss i s) in let l = length-set ss i s in let c = o.count in omega (arith, a, n, f, l, c)

-- ---- the reach

pub widened : (z : TableSize) (ss : List Slot) (far : List ℕ) (start i : ℕ) (s : Slot) → i < length ss → start < length far → start ≡ start_of_key z s.session.key → Reaches z ss far
    → Reaches z (set ss i s) (set far start (max (get_or far start 0) (distance z.slots start i + 1)))
widened z ss far start i s lt sl e r j l t = number_case j i
    (λ (ej : j ≡ i). let h : slot_in (set ss i s) j ≡ s = ap (slot_in (set ss i s)) ej ∙ here ss i s lt in
    let k = s.session.key in
    subst (λ (y : Key). distance z.slots (start_of_key z y) j < get_or (set far start (max (get_or far start 0) (distance z.slots start i + 1))) (start_of_key z y) 0) (ap (λ (x : Slot). x.session.key) (sym h))
    (subst (λ (m : ℕ). distance z.slots m j < get_or (set far start (max (get_or far start 0) (distance z.slots start i + 1))) m 0) e
    (subst (λ (m : ℕ). distance z.slots start m < get_or (set far start (max (get_or far start 0) (distance z.slots start i + 1))) start 0) (sym ej)
    (let g = get_or-set_same far start (max (get_or far start 0) (distance z.slots start i + 1)) 0 sl in omega (arith, g)))))
    (λ (nj : j ≢ i). let h = else_where ss i j s nj in
    subst (λ (x : Slot). distance z.slots (start_of_key z x.session.key) j < get_or (set far start (max (get_or far start 0) (distance z.slots start i + 1))) (start_of_key z x.session.key) 0) (sym h)
    (let old = r j l (ap (λ (x : Slot). is_taken x.taken) (sym h) ∙ t) in number_case (start_of_key z (session_in ss j).key) start
    (λ (es : start_of_key z (session_in ss j).key ≡ start). subst (λ (m : ℕ). distance z.slots m j < get_or (set far start (max (get_or far start 0) (distance z.slots start i + 1))) m 0) (sym es)
    (let o2 : distance z.slots start j < get_or far start 0 = subst (λ (m : ℕ). distance z.slots m j < get_or far m 0) es old in let g = get_or-set_same far start (max (get_or far start 0) (distance z.slots start i + 1)) 0 sl in omega (arith, g, o2)))
    (λ (ns : start_of_key z (session_in ss j).key ≢ start). let g = get_or-set_other far start (start_of_key z (session_in ss j).key) (max (get_or far start 0) (distance z.slots start i + 1)) 0 ns in omega (arith, g, old))))

pub still_in_range : (n : ℕ) (far : List ℕ) (start v : ℕ) → start < length far → v ≤ n → ((j : ℕ) → get_or far j 0 ≤ n) → (j : ℕ) → get_or (set far start v) j 0 ≤ n
still_in_range n far start v sl le r j = number_case j start
    (λ (e : j ≡ start). let g : get_or (set far start v) j 0 ≡ v = ap (λ (m : ℕ). get_or (set far start v) m 0) e ∙ get_or-set_same far start v 0 sl in omega (arith, g, le))
    (λ (m : j ≢ start). let g = get_or-set_other far start j v 0 m in let o = r j in omega (arith, g, o))
