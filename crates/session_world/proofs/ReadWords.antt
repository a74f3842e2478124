-- The words that workers and the desk read are those that the desk wrote, in every schedule that runs.
use Rattle.std.proofs.Common.{◌≡◌, ◌≢◌, inr, ⊎_elim, ℕ, zero, suc, ◌<◌, ◌≤◌, ◌==◌, true, false, ◌||◌, ◌&&◌, List, [], ◌∷◌, get_or, sym, refl, ap, ◌∙◌, subst, arith, eq-eqb, ne_eqb, Some}
use Rattle.std.proofs.lemmas.Bool.{eqb-true}
use Rattle.slot_word.specs.Fields.{generation_in, row_in, is_open_word}
use Rattle.session_world.specs.declared.steps.TableSize.{TableSize}
use Rattle.session_world.specs.declared.steps.Step.{Step}
use Rattle.session_world.specs.declared.steps.Part.{Part}
use Rattle.session_world.specs.declared.steps.Step.TheVariants.{ReserveNew, Look, LoadKey, Draw, LoadRow, Reconfigure, Peek, Expire, Join, Announce, Retire, ReserveUsed}
use Rattle.session_world.specs.Sizes.{IsWithinLimits}
use Rattle.session_world.specs.Keys.{Query, IsConfigRow, is_auth, has_key}
use Rattle.session_world.specs.Words.{slot_at, word_index, HasRead}
use Rattle.session_world.specs.Desk.{is_open, generation_of, row_of, key_word_of, row_word_of, IsComplete, KeyedFor, is_split}
use Rattle.session_world.specs.Worker.{announced, holds, names_row}
use Rattle.session_world.specs.Allowed.{DeskDid, DeskMay, WorkerMay, IsAllowed}
use Rattle.session_world.specs.Runs.{CoreState, ended_after, state_after, own_steps, ScheduledStep, run, Runs}
use Rattle.session_world.specs.Loads.{KeyLoadsAre, RowLoadsAre, names_open, names_open_here, HeldKey, WorkerWords, PartWords, AllPartWords, IsWordOf, DeskWords, LoadedWords}
use Rattle.session_world.proofs.BoolFacts.{true_ne_false, bool, both, either_of, and_i, or_l, or_r, no_or, number_case, some_same, is_false}
use Rattle.session_world.proofs.KeyFacts.{key_of_same, is_key_same}
use Rattle.session_world.proofs.DeskFacts.{split_inside, open_used, open_inside, row_complete, complete_low, still_complete, row_kept, config_kept, is_config_same, complete_config}
use Rattle.session_world.proofs.SlotFacts.{use_sound, open_keyed}
use Rattle.session_world.proofs.Fits.{WordsFit}
use Rattle.session_world.proofs.Holding.{Guard, spared, spares}
use Rattle.session_world.proofs.Sound.{WorkerDid, IsSound, part_after, put_part, step_sound, run_sound}

-- ---- what a worker's list says by itself

key_loads_same : (f g : ℕ → ℕ) (xs : List Step) → ((k : ℕ) → f k ≡ g k) → KeyLoadsAre f xs → KeyLoadsAre g xs
key_loads_same f g [] e h = tt
key_loads_same f g (Announce slot ∷ xs) e h = tt
key_loads_same f g (Retire ∷ xs) e h = tt
key_loads_same f g (LoadKey slot index read ∷ xs) e h = (h.0 ∙ e index, key_loads_same f g xs e h.1)
key_loads_same f g (_ ∷ xs) e h = key_loads_same f g xs e h

row_loads_same : (f g : ℕ → ℕ) (r : ℕ) (xs : List Step) → ((k : ℕ) → f k ≡ g k) → RowLoadsAre f r xs → RowLoadsAre g r xs
row_loads_same f g r [] e h = tt
row_loads_same f g r (LoadRow row index read ∷ xs) e h = ((λ x. h.0 x ∙ e index), row_loads_same f g r xs e h.1)
row_loads_same f g r (_ ∷ xs) e h = row_loads_same f g r xs e h

-- who holds nothing has loaded no key word since it last announced or retired
no_key_loads : (z : TableSize) (f : ℕ → ℕ) (xs : List Step) → WorkerDid z xs → ((j : ℕ) → holds xs j ≡ false) → KeyLoadsAre f xs
no_key_loads z f [] did none = tt
no_key_loads z f (Announce slot ∷ xs) did none = tt
no_key_loads z f (Retire ∷ xs) did none = tt
no_key_loads z f (LoadKey slot index read ∷ xs) did none = absurd (true_ne_false (sym did.1.2 ∙ none slot))
no_key_loads z f (Look slot query read ∷ xs) did none = no_key_loads z f xs did.0 (λ j. (no_or ((j == slot) && is_open_word read) (holds xs j) (none j)).1)
no_key_loads z f (_ ∷ xs) did none = no_key_loads z f xs did.0 none

-- and names no open word
names_held : (z : TableSize) (xs : List Step) (r : ℕ) → WorkerDid z xs → names_open_here xs r ≡ true → (j : ℕ) × (holds xs j ≡ true)
names_held z [] r did h = absurd (true_ne_false (sym h))
names_held z (Announce slot ∷ xs) r did h = absurd (true_ne_false (sym h))
names_held z (Retire ∷ xs) r did h = absurd (true_ne_false (sym h))
names_held z (Look slot query read ∷ xs) r did h = ⊎_elim
    (λ (x : (is_open_word read && (r == row_in read)) ≡ true). (slot, or_l ((slot == slot) && is_open_word read) (holds xs slot) (and_i (slot == slot) (is_open_word read) (eq-eqb slot slot refl) (both (is_open_word read) (r == row_in read) x).0)))
    (λ (x : names_open_here xs r ≡ true). let y = names_held z xs r did.0 x in (y.0, or_r ((y.0 == slot) && is_open_word read) (holds xs y.0) y.1))
    (either_of (is_open_word read && (r == row_in read)) (names_open_here xs r) h)
names_held z (Draw slot read ∷ xs) r did h = (slot, did.1.0)
names_held z (_ ∷ xs) r did h = names_held z xs r did.0 h

here_is_open : (xs : List Step) (r : ℕ) → names_open_here xs r ≡ true → names_open xs r ≡ true
here_is_open [] r h = h
here_is_open (Announce slot ∷ xs) r h = absurd (true_ne_false (sym h))
here_is_open (Retire ∷ xs) r h = absurd (true_ne_false (sym h))
here_is_open (Look slot query read ∷ xs) r h = ⊎_elim
    (λ (x : (is_open_word read && (r == row_in read)) ≡ true). or_l (is_open_word read && (r == row_in read)) (names_open xs r) x)
    (λ (x : names_open_here xs r ≡ true). or_r (is_open_word read && (r == row_in read)) (names_open xs r) (here_is_open xs r x))
    (either_of (is_open_word read && (r == row_in read)) (names_open_here xs r) h)
here_is_open (Draw slot read ∷ xs) r h = ⊎_elim
    (λ (x : (is_open_word read && (r == row_in read)) ≡ true). or_l (is_open_word read && (r == row_in read)) (names_open xs r) x)
    (λ (x : names_open_here xs r ≡ true). or_r (is_open_word read && (r == row_in read)) (names_open xs r) (here_is_open xs r x))
    (either_of (is_open_word read && (r == row_in read)) (names_open_here xs r) h)
here_is_open (_ ∷ xs) r h = here_is_open xs r h

pub open_is_named : (xs : List Step) (r : ℕ) → names_open xs r ≡ true → names_row xs r ≡ true
open_is_named [] r h = h
open_is_named (Look slot query read ∷ xs) r h = ⊎_elim
    (λ (x : (is_open_word read && (r == row_in read)) ≡ true). or_l (r == row_in read) (names_row xs r) (both (is_open_word read) (r == row_in read) x).1)
    (λ (x : names_open xs r ≡ true). or_r (r == row_in read) (names_row xs r) (open_is_named xs r x))
    (either_of (is_open_word read && (r == row_in read)) (names_open xs r) h)
open_is_named (Draw slot read ∷ xs) r h = ⊎_elim
    (λ (x : (is_open_word read && (r == row_in read)) ≡ true). or_l (r == row_in read) (names_row xs r) (both (is_open_word read) (r == row_in read) x).1)
    (λ (x : names_open xs r ≡ true). or_r (r == row_in read) (names_row xs r) (open_is_named xs r x))
    (either_of (is_open_word read && (r == row_in read)) (names_open xs r) h)
open_is_named (_ ∷ xs) r h = open_is_named xs r h

-- a row that no word names wasn't loaded
no_row_loads : (z : TableSize) (f : ℕ → ℕ) (r : ℕ) (xs : List Step) → WorkerDid z xs → names_row xs r ≡ false → RowLoadsAre f r xs
no_row_loads z f r [] did none = tt
no_row_loads z f r (LoadRow row index read ∷ xs) did none = ((λ e. absurd (true_ne_false (sym did.1.4 ∙ (ap (names_row xs) (sym e) ∙ none)))), no_row_loads z f r xs did.0 none)
no_row_loads z f r (Look slot query read ∷ xs) did none = no_row_loads z f r xs did.0 (no_or (r == row_in read) (names_row xs r) none).1
no_row_loads z f r (Draw slot read ∷ xs) did none = no_row_loads z f r xs did.0 (no_or (r == row_in read) (names_row xs r) none).1
no_row_loads z f r (_ ∷ xs) did none = no_row_loads z f r xs did.0 none

-- ---- rows that slot words name

unused_row : (z : TableSize) (ds : List Step) → DeskDid z ds → (i : ℕ) → generation_of ds i ≡ 0 → row_of ds i ≡ 0
unused_row z [] did i e = refl
unused_row z (ReserveNew slot row ∷ ds) did i e = number_case i slot
    (λ (x : i ≡ slot). absurd (one_used (sym (rw (eq-eqb i slot x) refl) ∙ e)))
    (λ (x : i ≢ slot). rw (ne_eqb i slot x) (unused_row z ds did.0 i (sym (rw (ne_eqb i slot x) refl) ∙ e)))
  where
    one_used : 1 ≡ zero → ⊥
    one_used e = omega (arith, e)
unused_row z (ReserveUsed slot g row ∷ ds) did i e = number_case i slot
    (λ (x : i ≡ slot). let h : g ≡ 0 = sym (rw (eq-eqb i slot x) refl) ∙ e in let h' = did.1.0 in absurd (omega (arith, h, h')))
    (λ (x : i ≢ slot). rw (ne_eqb i slot x) (unused_row z ds did.0 i (sym (rw (ne_eqb i slot x) refl) ∙ e)))
unused_row z (Reconfigure slot old new read ∷ ds) did i e = let x : i ≢ slot = λ y. open_used z ds did.0 slot did.1.0 (ap (generation_of ds) (sym y) ∙ e) in rw (ne_eqb i slot x) (unused_row z ds did.0 i e)
unused_row z (_ ∷ ds) did i e = unused_row z ds did.0 i e

named_complete : (z : TableSize) (ds : List Step) → DeskDid z ds → (i : ℕ) → ¬ (row_of ds i ≡ 0) → IsComplete ds (row_of ds i)
named_complete z ds did i n = number_case (generation_of ds i) 0
    (λ (e : generation_of ds i ≡ 0). absurd (n (unused_row z ds did i e)))
    (λ (e : generation_of ds i ≢ 0). row_complete z ds did i e)

-- the slot word n of a slot names its row
record NamesSlot (z : TableSize) (ds : List Step) (n i : ℕ) : Type 0 where
  row : row_in n ≡ row_of ds i
  opened : is_open_word n ≡ true → is_open ds i ≡ true

names_slot : (z : TableSize) (ws : List ℕ) (ds : List Step) (n i : ℕ) → WordsFit z ws ds → i < z.slots → n ≡ get_or ws (slot_at i) 0 → NamesSlot z ds n i
names_slot z ws ds n i f lt reads = let g = f.slots i lt in record { row = ap row_in reads ∙ g.row; opened = λ e. sym g.opened ∙ (ap is_open_word (sym reads) ∙ e) }

-- ---- a worker's own step

module _ (z : TableSize) (ws : List ℕ) (ds : List Step) (w : ℕ) (xs : List Step) (within : IsWithinLimits z) (did : DeskDid z ds) (mine : WorkerDid z xs) (f : WordsFit z ws ds) (g : Guard z ws ds w xs) (t : WorkerWords z ds xs) where
  one_held : (i j : ℕ) → holds xs i ≡ true → holds xs j ≡ true → i ≡ j
  one_held i j h k = some_same (sym (g.held i h).announces ∙ (g.held j k).announces)

  open_row : (n i r : ℕ) → NamesSlot z ds n i → (is_open_word n && (r == row_in n)) ≡ true → (is_open ds i ≡ true) × (r ≡ row_of ds i)
  open_row n i r s h = let b = both (is_open_word n) (r == row_in n) h in (s.opened b.0, eqb-true r (row_in n) b.1 ∙ s.row)

  row_keyed : (n i r : ℕ) → NamesSlot z ds n i → (is_open_word n && (r == row_in n)) ≡ true → KeyedFor ds i r
  row_keyed n i r s h = let x = open_row n i r s h in subst (λ (m : ℕ). KeyedFor ds i m) (sym x.1) (open_keyed z ds did i x.0)

  row_named : (n i r : ℕ) → NamesSlot z ds n i → (is_open_word n && (r == row_in n)) ≡ true → (0 < r) × (r ≤ z.rows)
  row_named n i r s h = let x = open_row n i r s h in subst (λ (m : ℕ). (0 < m) × (m ≤ z.rows)) (sym x.1) (let c = row_complete z ds did i (open_used z ds did i x.0) in (c.0, complete_low z ds did (row_of ds i) c))

  -- what a look or a draw adds to the open rows, and to all rows that are named
  more_named : (n i : ℕ) → NamesSlot z ds n i → (r : ℕ) → ((is_open_word n && (r == row_in n)) || names_open xs r) ≡ true → (0 < r) × (r ≤ z.rows)
  more_named n i s r h = ⊎_elim (λ (x : (is_open_word n && (r == row_in n)) ≡ true). row_named n i r s x) (λ (x : names_open xs r ≡ true). t.named r x) (either_of (is_open_word n && (r == row_in n)) (names_open xs r) h)

  abbrev RowFacts : ℕ → Type 0
  RowFacts r = IsComplete ds r × IsConfigRow (row_word_of ds r) × RowLoadsAre (row_word_of ds r) r xs

  more_rows : (n i : ℕ) → NamesSlot z ds n i → (r : ℕ) → ¬ (r ≡ 0) → ((r == row_in n) || names_row xs r) ≡ true → RowFacts r
  more_rows n i s r nz h = ⊎_elim
      (λ (y : names_row xs r ≡ true). t.rows r nz y)
      (λ (y : names_row xs r ≡ false). ⊎_elim
      (λ (x : (r == row_in n) ≡ true). let e : r ≡ row_of ds i = eqb-true r (row_in n) x ∙ s.row in
      let c : IsComplete ds r = subst (IsComplete ds) (sym e) (named_complete z ds did i (λ e'. nz (e ∙ e'))) in (c, complete_config z ds did r c, no_row_loads z (row_word_of ds r) r xs mine y))
      (λ (x : names_row xs r ≡ true). absurd (true_ne_false (sym x ∙ y)))
      (either_of (r == row_in n) (names_row xs r) h))
      (bool (names_row xs r))

  look_words : (slot n : ℕ) (query : Query) → announced xs ≡ Some slot → NamesSlot z ds n slot → WorkerWords z ds (Look slot query n ∷ xs)
  look_words slot n query at s = record {
    held = λ i h. ⊎_elim
        (λ (x : holds xs slot ≡ true). let same : i ≡ slot = ⊎_elim
        (λ (y : ((i == slot) && is_open_word n) ≡ true). eqb-true i slot (both (i == slot) (is_open_word n) y).0)
        (λ (y : holds xs i ≡ true). one_held i slot y x)
        (either_of ((i == slot) && is_open_word n) (holds xs i) h) in
        subst (λ (j : ℕ). HeldKey ds (Look slot query n ∷ xs) j) (sym same) (let k = t.held slot x in record {
          sound = k.sound;
          loads = k.loads;
          keyed = λ r h'. ⊎_elim (λ (y : (is_open_word n && (r == row_in n)) ≡ true). row_keyed n slot r s y) (λ (y : names_open_here xs r ≡ true). k.keyed r y) (either_of (is_open_word n && (r == row_in n)) (names_open_here xs r) h');
        }))
        (λ (x : holds xs slot ≡ false).
        let none : (j : ℕ) → holds xs j ≡ false = λ j. is_false (holds xs j) (λ y. true_ne_false (sym (ap (holds xs) (some_same (sym at ∙ (g.held j y).announces)) ∙ y) ∙ x)) in
        let y : ((i == slot) && is_open_word n) ≡ true = ⊎_elim (λ (a : ((i == slot) && is_open_word n) ≡ true). a) (λ (a : holds xs i ≡ true). absurd (true_ne_false (sym a ∙ none i))) (either_of ((i == slot) && is_open_word n) (holds xs i) h) in
        let b = both (i == slot) (is_open_word n) y in
        subst (λ (j : ℕ). HeldKey ds (Look slot query n ∷ xs) j) (sym (eqb-true i slot b.0)) (record {
          sound = use_sound z ds did slot (inr (s.opened b.1));
          loads = no_key_loads z (key_word_of ds slot) xs mine none;
          keyed = λ r h'. ⊎_elim (λ (y : (is_open_word n && (r == row_in n)) ≡ true). row_keyed n slot r s y) (λ (y : names_open_here xs r ≡ true). let v = names_held z xs r mine y in absurd (true_ne_false (sym v.1 ∙ none v.0))) (either_of (is_open_word n && (r == row_in n)) (names_open_here xs r) h');
        }))
        (bool (holds xs slot));
    named = more_named n slot s;
    rows = more_rows n slot s;
  }

  pub own_words : (s : Step) → WorkerMay z xs s → HasRead s (get_or ws (word_index z w s) 0) → WorkerWords z ds (s ∷ xs)
  own_words (Announce slot) may has_read = record { held = λ i h. absurd (true_ne_false (sym h)); named = t.named; rows = t.rows }
  own_words Retire may has_read = record { held = λ i h. absurd (true_ne_false (sym h)); named = t.named; rows = t.rows }
  own_words (Look slot query n) may has_read = look_words slot n query may.1 (names_slot z ws ds n slot f may.0 has_read)
  own_words (LoadKey slot index n) may has_read = record {
    held = λ i h. let same = one_held i slot h may.2 in let k = t.held i h in record {
      sound = k.sound;
      loads = (has_read ∙ (f.keys slot index (g.held slot may.2).inside may.0 may.1 ∙ ap (λ (j : ℕ). key_word_of ds j index) (sym same)), k.loads);
      keyed = k.keyed;
    };
    named = t.named;
    rows = t.rows;
  }
  own_words (LoadRow row index n) may has_read = record {
    held = λ i h. let k = t.held i h in record { sound = k.sound; loads = k.loads; keyed = k.keyed };
    named = t.named;
    rows = λ r nz h. let x = t.rows r nz h in (x.0, x.1, ((λ e. has_read ∙ (f.rows row index may.0 may.1 may.2 may.3 ∙ ap (λ (j : ℕ). row_word_of ds j index) (sym e))), x.2));
  }
  own_words (Draw slot n) may has_read = let s = names_slot z ws ds n slot f (g.held slot may.0).inside has_read in record {
    held = λ i h. let same = one_held i slot h may.0 in let k = t.held i h in record {
      sound = k.sound;
      loads = k.loads;
      keyed = λ r h'. ⊎_elim (λ (y : (is_open_word n && (r == row_in n)) ≡ true). subst (λ (j : ℕ). KeyedFor ds j r) (sym same) (row_keyed n slot r s y)) (λ (y : names_open_here xs r ≡ true). k.keyed r y) (either_of (is_open_word n && (r == row_in n)) (names_open_here xs r) h');
    };
    named = more_named n slot s;
    rows = more_rows n slot s;
  }
  own_words _ may has_read = absurd may

  -- ---- a step of the desk

  pub desk_words : (s : Step) → DeskMay z ds s → WorkerWords z (s ∷ ds) xs
  desk_words s may = record {
    held = λ i h. let k = t.held i h in let y = spared s ds i (spares z ws ds w xs i s g h may) in record {
      sound = is_key_same (key_word_of ds i) (key_word_of (s ∷ ds) i) (λ n lo hi. sym (y.key n)) k.sound;
      loads = key_loads_same (key_word_of ds i) (key_word_of (s ∷ ds) i) xs (λ n. sym (y.key n)) k.loads;
      keyed = λ r h'. let o = here_is_open xs r h' in let low = (t.named r o).0 in let c = (t.rows r (λ e. omega (arith, e, low)) (open_is_named xs r o)).0 in
          λ auth. ap has_key (config_kept z ds s may r c) ∙ k.keyed r h' (ap is_auth (key_of_same (key_word_of ds i) (key_word_of (s ∷ ds) i) (λ n lo hi. sym (y.key n))) ∙ auth);
    };
    named = t.named;
    rows = λ r nz h. let x = t.rows r nz h in let same = row_kept z ds s may r x.0 in
        (still_complete ds s r x.0, is_config_same (row_word_of ds r) (row_word_of (s ∷ ds) r) (λ n. sym (same n)) x.1, row_loads_same (row_word_of ds r) (row_word_of (s ∷ ds) r) r xs (λ n. sym (same n)) x.2);
  }

-- what is so of the rows of a part stays, whatever the desk does
kept_part : (z : TableSize) (ds xs : List Step) (s : Step) → DeskMay z ds s → PartWords z ds xs → PartWords z (s ∷ ds) xs
kept_part z ds xs s may t = record {
  named = t.named;
  rows = λ r nz h. let x = t.rows r nz h in let same = row_kept z ds s may r x.0 in
      (still_complete ds s r x.0, is_config_same (row_word_of ds r) (row_word_of (s ∷ ds) r) (λ n. sym (same n)) x.1, row_loads_same (row_word_of ds r) (row_word_of (s ∷ ds) r) r xs (λ n. sym (same n)) x.2);
}

kept_parts : (z : TableSize) (ds : List Step) (s : Step) → DeskMay z ds s → (ps : List Part) → AllPartWords z ds ps → AllPartWords z (s ∷ ds) ps
kept_parts z ds s may [] t = tt
kept_parts z ds s may (p ∷ ps) t = (kept_part z ds p.steps s may t.0, kept_parts z ds s may ps t.1)

part_of_worker : (z : TableSize) (ds xs : List Step) → WorkerWords z ds xs → PartWords z ds xs
part_of_worker z ds xs t = record { named = t.named; rows = t.rows }

joined_part : (z : TableSize) (ds : List Step) (part : ℕ → List Step) (k : ℕ) → DeskDid z ds → is_split ds k ≡ true → ((w : ℕ) → is_split ds (suc w) ≡ true → WorkerWords z ds (part (suc w))) → PartWords z ds (part k)
joined_part z ds part zero did h t = let low = (split_inside z ds did 0 h).0 in absurd (omega (arith, low))
joined_part z ds part (suc w) did h t = part_of_worker z ds (part (suc w)) (t w h)

more_parts : (z : TableSize) (ds : List Step) (part : ℕ → List Step) (ps : List Part) (s : Step) → DeskDid z ds → DeskMay z ds s → ((w : ℕ) → is_split ds (suc w) ≡ true → WorkerWords z ds (part (suc w))) → AllPartWords z ds ps → AllPartWords z (s ∷ ds) (ended_after ds part ps s)
more_parts z ds part ps (Join k r) did may t u = (kept_part z ds (part k) (Join k r) may (joined_part z ds part k did may t), kept_parts z ds (Join k r) may ps u)
more_parts z ds part ps s did may t u = kept_parts z ds s may ps u

no_words : (z : TableSize) (ds : List Step) → WorkerWords z ds []
no_words z ds = record { held = λ i h. absurd (true_ne_false (sym h)); named = λ r h. absurd (true_ne_false (sym h)); rows = λ r nz h. absurd (true_ne_false (sym h)) }

-- ---- all of them

record HaveWords (z : TableSize) (c : CoreState) : Type 0 where
  sound : IsSound z c
  desk : DeskWords c.desk
  parts : AllPartWords z c.desk c.ended_parts
  workers : (w : ℕ) → is_split c.desk (suc w) ≡ true → WorkerWords z c.desk (c.living_part (suc w))

peeked : (z : TableSize) (ws : List ℕ) (ds : List Step) (slot n : ℕ) → WordsFit z ws ds → DeskDid z ds → is_open ds slot ≡ true → n ≡ get_or ws (slot_at slot) 0 → IsWordOf ds slot n
peeked z ws ds slot n f did o reads = let g = f.slots slot (open_inside z ds did slot o) in (ap is_open_word reads ∙ (g.opened ∙ o), ap generation_in reads ∙ g.generation, ap row_in reads ∙ g.row)

desk_reads : (z : TableSize) (ws : List ℕ) (ds : List Step) (s : Step) → WordsFit z ws ds → DeskDid z ds → DeskMay z ds s → HasRead s (get_or ws (word_index z 0 s) 0) → DeskWords ds → DeskWords (s ∷ ds)
desk_reads z ws ds (Peek slot read) f did may has_read t = (peeked z ws ds slot read f did may has_read, t)
desk_reads z ws ds (Expire slot expected read) f did may has_read t = (peeked z ws ds slot read f did may.0 has_read, t)
desk_reads z ws ds _ f did may has_read t = t

step_words : (z : TableSize) (c : CoreState) (a : ℕ) (s : Step) → IsWithinLimits z → HaveWords z c → IsAllowed z a c.desk (own_steps c a) s → HasRead s (get_or c.words (word_index z a s) 0) → HaveWords z (state_after z c a s)
step_words z c zero s within t may has_read = let u = t.sound in record {
  sound = step_sound z c zero s within u may has_read;
  desk = desk_reads z c.words c.desk s u.words u.desk may has_read t.desk;
  parts = more_parts z c.desk c.living_part c.ended_parts s u.desk may t.workers t.parts;
  workers = λ w h. part_after c.desk c.living_part s w (WorkerWords z (s ∷ c.desk)) h (no_words z (s ∷ c.desk))
      (λ k. desk_words z c.words c.desk (suc w) (c.living_part (suc w)) within u.desk (u.workers w k) u.words (u.guards w k) (t.workers w k) s may);
}
step_words z c (suc w) s within t may has_read = let u = t.sound in record {
  sound = step_sound z c (suc w) s within u may has_read;
  desk = t.desk;
  parts = t.parts;
  workers = λ v h. put_part c.living_part w v (s ∷ c.living_part (suc w)) (WorkerWords z c.desk)
      (λ _. own_words z c.words c.desk (suc w) (c.living_part (suc w)) within u.desk (u.workers w may.0) u.words (u.guards w may.0) (t.workers w may.0) s may.1 has_read)
      (λ _. t.workers v h);
}

run_words : (z : TableSize) (ms : List ScheduledStep) → IsWithinLimits z → Runs z ms → HaveWords z (run z ms)
run_words z [] within r = record { sound = run_sound z [] within r; desk = tt; parts = tt; workers = λ w e. absurd (true_ne_false (sym e)) }
run_words z (m ∷ ms) within r = step_words z (run z ms) m.actor m.step within (run_words z ms within r.0) r.1 r.2

pub loaded_words : LoadedWords
loaded_words z ms within r = let t = run_words z ms within r in record { desk = t.desk; parts = t.parts; workers = t.workers }
