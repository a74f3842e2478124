-- What is so of the state after every schedule that runs.
use Rattle.std.proofs.Common.{◌≡◌, ◌≢◌, ℕ, zero, suc, ◌+◌, ◌*◌, ◌<◌, ◌≤◌, ◌==◌, true, not, List, [], ◌∷◌, ◌++◌, length, get_or, replicate, sym, refl, ap, ◌∙◌, subst, arith, ne_eqb, length-append}
use Rattle.std.proofs.lemmas.List.{length-replicate}
use Rattle.slot_word.specs.Fields.{generation_in, row_in, is_open_word}
use Rattle.session_world.specs.declared.steps.TableSize.{TableSize}
use Rattle.session_world.specs.declared.steps.Step.{Step}
use Rattle.session_world.specs.declared.steps.Step.TheVariants.{Look, LoadKey, Draw, Split, LoadRow, Join, Announce, Retire}
use Rattle.session_world.specs.Sizes.{IsWithinLimits}
use Rattle.session_world.specs.Keys.{put}
use Rattle.session_world.specs.Words.{slot_at, key_at, row_at, fresh_slots, first_words, word_index, HasRead, words_after}
use Rattle.session_world.specs.Desk.{is_split}
use Rattle.session_world.specs.Allowed.{DeskDid, DeskMay, WorkerMay, IsAllowed}
use Rattle.session_world.specs.Runs.{CoreState, parts_after, state_after, first_state, own_steps, ScheduledStep, run, Runs}
use Rattle.session_world.proofs.BoolFacts.{true_ne_false, both, number_case, put_same, put_other}
use Rattle.session_world.proofs.DeskFacts.{split_inside}
use Rattle.session_world.proofs.Fits.{SlotFits, WordsFit, desk_fits, load_fits, announce_fits, draw_fits}
use Rattle.session_world.proofs.Holding.{Guard, may_hold, desk_guard, new_guard, own_guard, other_guard}

-- each step of the worker's list was allowed
abbrev pub WorkerDid : TableSize → List Step → Type 0
WorkerDid z [] = Unit {0}
WorkerDid z (s ∷ xs) = WorkerDid z xs × WorkerMay z xs s

pub record IsSound (z : TableSize) (c : CoreState) : Type 0 where
  pub desk : DeskDid z c.desk
  pub workers : (w : ℕ) → is_split c.desk (suc w) ≡ true → WorkerDid z (c.living_part (suc w))
  pub words : WordsFit z c.words c.desk
  pub guards : (w : ℕ) → is_split c.desk (suc w) ≡ true → Guard z c.words c.desk (suc w) (c.living_part (suc w))

-- ---- the first state

fresh_word : (n i : ℕ) → i < n → get_or (fresh_slots n) (5 * i) 0 ≡ 1
fresh_word zero i lt = absurd (omega arith)
fresh_word (suc n) zero lt = refl
fresh_word (suc n) (suc i) lt = let e : 5 * suc i ≡ suc (suc (suc (suc (suc (5 * i))))) = omega arith in rw e (fresh_word n i (omega arith))

fresh_key : (n i k : ℕ) → i < n → 0 < k → k < 5 → get_or (fresh_slots n) (5 * i + k) 0 ≡ 0
fresh_key zero i k lt lo hi = absurd (omega arith)
fresh_key (suc n) zero zero lt lo hi = absurd (omega arith)
fresh_key (suc n) zero (suc zero) lt lo hi = refl
fresh_key (suc n) zero (suc (suc zero)) lt lo hi = refl
fresh_key (suc n) zero (suc (suc (suc zero))) lt lo hi = refl
fresh_key (suc n) zero (suc (suc (suc (suc zero)))) lt lo hi = refl
fresh_key (suc n) zero (suc (suc (suc (suc (suc k))))) lt lo hi = absurd (omega arith)
fresh_key (suc n) (suc i) k lt lo hi = let e : 5 * suc i + k ≡ suc (suc (suc (suc (suc (5 * i + k))))) = omega arith in rw e (fresh_key n i k (omega arith) lo hi)

fresh_length : (n : ℕ) → length (fresh_slots n) ≡ 5 * n
fresh_length zero = refl
fresh_length (suc n) = let h = fresh_length n in omega (arith, h)

front : (xs ys : List ℕ) (i : ℕ) → i < length xs → get_or (xs ++ ys) i 0 ≡ get_or xs i 0
front [] ys i lt = absurd (omega arith)
front (x ∷ xs) ys zero lt = refl
front (x ∷ xs) ys (suc i) lt = front xs ys i (omega arith)

zeros : (n i : ℕ) → get_or (replicate {A = ℕ} n 0) i 0 ≡ zero
zeros zero i = refl
zeros (suc n) zero = refl
zeros (suc n) (suc i) = zeros n i

back : (xs : List ℕ) (n i : ℕ) → length xs ≤ i → get_or (xs ++ replicate n 0) i 0 ≡ zero
back [] n i le = zeros n i
back (x ∷ xs) n zero le = absurd (omega arith)
back (x ∷ xs) n (suc i) le = back xs n i (omega arith)

first_slot : SlotFits 1 [] 0
unfolding is_open_word generation_in row_in
first_slot = record { small = omega arith; opened = refl; generation = refl; row = refl; fresh = λ e. absurd (true_ne_false (sym e)) }

first_fits : (z : TableSize) → WordsFit z (first_words z) []
first_fits z = let F : List ℕ = fresh_slots z.slots in let n : ℕ = 12 * z.rows + z.workers in let R : List ℕ = replicate n 0 in let len = fresh_length z.slots in record {
  wide = omega (arith, len, length-append (fresh_slots z.slots) (replicate (12 * z.rows + z.workers) 0), length-replicate {A = ℕ} (12 * z.rows + z.workers) 0);
  slots = λ i lt. let at : get_or (first_words z) (slot_at i) 0 ≡ 1 = front F R (5 * i) (omega (arith, len, lt)) ∙ fresh_word z.slots i lt in let f = first_slot in
      subst (λ (m : ℕ). SlotFits m [] i) (sym at) (record { small = f.small; opened = f.opened; generation = f.generation; row = f.row; fresh = f.fresh });
  keys = λ i k lt lo hi. front F R (5 * i + k) (omega (arith, len, lt, hi)) ∙ fresh_key z.slots i k lt lo hi;
  rows = λ r k lo hi a b. back F n (row_at z r k) (omega (arith, len));
}

first_sound : (z : TableSize) → IsSound z (first_state z)
first_sound z = record { desk = tt; workers = λ w e. absurd (true_ne_false (sym e)); words = first_fits z; guards = λ w e. absurd (true_ne_false (sym e)) }

-- ---- the steps

same_part : (part : ℕ → List Step) (k r w : ℕ) (P : List Step → Type 0) → (suc w ≡ k → P []) → (suc w ≢ k → P (part (suc w))) → P (parts_after part (Split k r) (suc w))
same_part part k r w P new old = number_case (suc w) k
    (λ (x : suc w ≡ k). subst P (sym (ap (put part k []) x ∙ put_same part k [])) (new x))
    (λ (x : suc w ≢ k). subst P (sym (put_other part k [] (suc w) x)) (old x))

-- what the desk's step leaves of a worker that is split off after it
pub part_after : (ds : List Step) (part : ℕ → List Step) (s : Step) (w : ℕ) (P : List Step → Type 0) → is_split (s ∷ ds) (suc w) ≡ true → P [] → (is_split ds (suc w) ≡ true → P (part (suc w))) → P (parts_after part s (suc w))
part_after ds part (Split k r) w P h new old = same_part part k r w P (λ _. new) (λ x. old (sym (rw (ne_eqb (suc w) k x) refl) ∙ h))
part_after ds part (Join k r) w P h new old = old (both (not (suc w == k)) (is_split ds (suc w)) h).1
part_after ds part _ w P h new old = old h

desk_sound : (z : TableSize) (c : CoreState) (s : Step) → IsWithinLimits z → IsSound z c → DeskMay z c.desk s → HasRead s (get_or c.words (word_index z 0 s) 0) → IsSound z (state_after z c 0 s)
desk_sound z c s within t may has_read = record {
  desk = (t.desk, may);
  workers = λ w h. part_after c.desk c.living_part s w (WorkerDid z) h tt (λ g. t.workers w g);
  words = desk_fits z c.words c.desk s within t.words t.desk may has_read;
  guards = λ w h. let r = split_inside z (s ∷ c.desk) (t.desk, may) (suc w) h in
      part_after c.desk c.living_part s w (Guard z (words_after z c.words 0 s) (s ∷ c.desk) (suc w)) h (new_guard z (words_after z c.words 0 s) (s ∷ c.desk) (suc w) r.0 r.1)
      (λ g. desk_guard z c.words c.desk s (suc w) (c.living_part (suc w)) t.desk may has_read (t.guards w g));
}

worker_fits : (z : TableSize) (ws : List ℕ) (ds : List Step) (w : ℕ) (xs : List Step) (s : Step) → WordsFit z ws ds → Guard z ws ds w xs → WorkerMay z xs s → WordsFit z (words_after z ws w s) ds
worker_fits z ws ds w xs (Announce slot) f g may = announce_fits z ws ds w (slot + 1) f
worker_fits z ws ds w xs Retire f g may = announce_fits z ws ds w 0 f
worker_fits z ws ds w xs (Look slot query r) f g may = load_fits z ws (slot_at slot) ds f
worker_fits z ws ds w xs (LoadKey slot index r) f g may = load_fits z ws (key_at slot index) ds f
worker_fits z ws ds w xs (LoadRow row index r) f g may = load_fits z ws (row_at z row index) ds f
worker_fits z ws ds w xs (Draw slot r) f g may = let h = g.held slot may.0 in draw_fits z ws ds slot h.inside h.unreserved f
worker_fits z ws ds w xs _ f g may = absurd may

-- a worker's part after a worker's step
pub put_part : (part : ℕ → List Step) (w u : ℕ) (xs : List Step) (P : List Step → Type 0) → (u ≡ w → P xs) → (u ≢ w → P (part (suc u))) → P (put part (suc w) xs (suc u))
put_part part w u xs P mine other = number_case (suc u) (suc w)
    (λ (x : suc u ≡ suc w). subst P (sym (ap (put part (suc w) xs) x ∙ put_same part (suc w) xs)) (mine (omega (arith, x))))
    (λ (x : suc u ≢ suc w). subst P (sym (put_other part (suc w) xs (suc u) x)) (other (λ e. x (ap suc e))))

worker_sound : (z : TableSize) (c : CoreState) (w : ℕ) (s : Step) → IsSound z c → is_split c.desk (suc w) ≡ true → WorkerMay z (c.living_part (suc w)) s → HasRead s (get_or c.words (word_index z (suc w) s) 0) → IsSound z (state_after z c (suc w) s)
worker_sound z c w s t split may has_read = let g = t.guards w split in record {
  desk = t.desk;
  workers = λ u h. put_part c.living_part w u (s ∷ c.living_part (suc w)) (WorkerDid z) (λ _. (t.workers w split, may)) (λ _. t.workers u h);
  words = worker_fits z c.words c.desk (suc w) (c.living_part (suc w)) s t.words g may;
  guards = λ u h. put_part c.living_part w u (s ∷ c.living_part (suc w)) (Guard z (words_after z c.words (suc w) s) c.desk (suc u))
      (λ e. subst (λ (k : ℕ). Guard z (words_after z c.words (suc w) s) c.desk (suc k) (s ∷ c.living_part (suc w))) (sym e) (own_guard z c.words c.desk (suc w) (c.living_part (suc w)) s t.desk t.words g (may_hold z (c.living_part (suc w)) s may) has_read))
      (λ n. other_guard z c.words c.desk (suc w) (suc u) s (c.living_part (suc w)) (c.living_part (suc u)) g (may_hold z (c.living_part (suc w)) s may) (λ e. n (omega (arith, e))) (t.guards u h));
}

pub step_sound : (z : TableSize) (c : CoreState) (a : ℕ) (s : Step) → IsWithinLimits z → IsSound z c → IsAllowed z a c.desk (own_steps c a) s → HasRead s (get_or c.words (word_index z a s) 0) → IsSound z (state_after z c a s)
step_sound z c zero s within t may has_read = desk_sound z c s within t may has_read
step_sound z c (suc w) s within t may has_read = worker_sound z c w s t may.0 may.1 has_read

pub run_sound : (z : TableSize) (ms : List ScheduledStep) → IsWithinLimits z → Runs z ms → IsSound z (run z ms)
run_sound z [] within r = first_sound z
run_sound z (m ∷ ms) within r = step_sound z (run z ms) m.actor m.step within (run_sound z ms within r.0) r.1 r.2
