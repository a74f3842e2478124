-- What the desk's own list of allowed steps says by itself.
use Rattle.std.proofs.Common.{◌≡◌, ◌≢◌, ⊎_elim, ℕ, zero, suc, ◌*◌, ◌<◌, ◌≤◌, ◌==◌, true, false, ◌&&◌, not, if◌then◌else◌, List, [], ◌∷◌, sym, refl, ap, ◌∙◌, subst, arith, eq-eqb, ne_eqb}
use Rattle.std.proofs.lemmas.Bool.{eqb-true}
use Rattle.slot_word.specs.Fields.{greatest_generation, greatest_row}
use Rattle.config_rows.specs.Words.{config_of_words, AreConfigWords}
use Rattle.session_world.specs.declared.steps.TableSize.{TableSize}
use Rattle.session_world.specs.declared.steps.Step.{Step}
use Rattle.session_world.specs.declared.steps.Step.TheVariants.{WriteRow, WriteKey, ReserveNew, Start, Split, Reconfigure, Close, Expire, Join, ReserveUsed}
use Rattle.session_world.specs.Sizes.{IsWithinLimits}
use Rattle.session_world.specs.Keys.{put, row_list, config_of, IsConfigRow}
use Rattle.session_world.specs.Desk.{is_open, generation_of, row_of, is_reserved, rows_written, row_word_of, config_at, IsComplete, is_split}
use Rattle.session_world.specs.Allowed.{DeskMay, DeskDid, IsAllowed}
use Rattle.session_world.specs.Runs.{CoreState, state_after, own_steps, ScheduledStep, run, Runs}
use Rattle.session_world.proofs.BoolFacts.{true_ne_false, both, either_of, not_true, number_case, is_false}

-- ---- in a schedule that runs

did_after : (z : TableSize) (c : CoreState) (a : ℕ) (s : Step) → IsAllowed z a c.desk (own_steps c a) s → DeskDid z c.desk → DeskDid z (state_after z c a s).desk
did_after z c zero s may did = (did, may)
did_after z c (suc w) s may did = did

pub run_did : (z : TableSize) (ms : List ScheduledStep) → Runs z ms → DeskDid z (run z ms).desk
run_did z [] r = tt
run_did z (m ∷ ms) r = did_after z (run z ms) m.actor m.step r.1 (run_did z ms r.0)

-- ---- generations

pub still_used : (z : TableSize) (ds : List Step) (s : Step) → DeskMay z ds s → (i : ℕ) → ¬ (generation_of ds i ≡ 0) → ¬ (generation_of (s ∷ ds) i ≡ 0)
still_used z ds (ReserveNew slot row) may i n = number_case i slot (λ (x : i ≡ slot). absurd (n (ap (generation_of ds) x ∙ may.0))) (λ (x : i ≢ slot). rw (ne_eqb i slot x) n)
still_used z ds (ReserveUsed slot g row) may i n = number_case i slot (λ (x : i ≡ slot). rw (eq-eqb i slot x) (λ (e : g ≡ 0). let h = may.0 in omega (arith, e, h))) (λ (x : i ≢ slot). rw (ne_eqb i slot x) n)
still_used z ds _ may i n = n

pub reserved_used : (z : TableSize) (ds : List Step) → DeskDid z ds → (i : ℕ) → is_reserved ds i ≡ true → ¬ (generation_of ds i ≡ 0)
reserved_used z [] did i r = absurd (true_ne_false (sym r))
reserved_used z (ReserveNew slot row ∷ ds) did i r = number_case i slot
    (λ (x : i ≡ slot). rw (eq-eqb i slot x) (λ e. omega (arith, e)))
    (λ (x : i ≢ slot). let r' : is_reserved ds i ≡ true = sym (rw (ne_eqb i slot x) refl) ∙ r in still_used z ds (ReserveNew slot row) did.1 i (reserved_used z ds did.0 i r'))
reserved_used z (ReserveUsed slot g row ∷ ds) did i r = number_case i slot
    (λ (x : i ≡ slot). rw (eq-eqb i slot x) (λ (e : g ≡ 0). let h = did.1.0 in omega (arith, e, h)))
    (λ (x : i ≢ slot). let r' : is_reserved ds i ≡ true = sym (rw (ne_eqb i slot x) refl) ∙ r in still_used z ds (ReserveUsed slot g row) did.1 i (reserved_used z ds did.0 i r'))
reserved_used z (WriteKey slot index word ∷ ds) did i r = reserved_used z ds did.0 i (both (not (i == slot)) (is_reserved ds i) r).1
reserved_used z (Start slot read ∷ ds) did i r = reserved_used z ds did.0 i (both (not (i == slot)) (is_reserved ds i) r).1
reserved_used z (_ ∷ ds) did i r = reserved_used z ds did.0 i r

pub open_used : (z : TableSize) (ds : List Step) → DeskDid z ds → (i : ℕ) → is_open ds i ≡ true → ¬ (generation_of ds i ≡ 0)
open_used z [] did i o = absurd (true_ne_false (sym o))
open_used z (Start slot read ∷ ds) did i o = ⊎_elim
    (λ (x : (i == slot) ≡ true). λ e. reserved_used z ds did.0 slot did.1.1 (ap (generation_of ds) (sym (eqb-true i slot x)) ∙ e))
    (λ (x : is_open ds i ≡ true). open_used z ds did.0 i x)
    (either_of (i == slot) (is_open ds i) o)
open_used z (Close slot read ∷ ds) did i o = open_used z ds did.0 i (both (not (i == slot)) (is_open ds i) o).1
open_used z (Expire slot expected read ∷ ds) did i o = open_used z ds did.0 i (both (not ((i == slot) && (read == expected))) (is_open ds i) o).1
open_used z (ReserveNew slot row ∷ ds) did i o = still_used z ds (ReserveNew slot row) did.1 i (open_used z ds did.0 i o)
open_used z (ReserveUsed slot g row ∷ ds) did i o = still_used z ds (ReserveUsed slot g row) did.1 i (open_used z ds did.0 i o)
open_used z (_ ∷ ds) did i o = open_used z ds did.0 i o

pub generation_low : (z : TableSize) (ds : List Step) → DeskDid z ds → (i : ℕ) → generation_of ds i ≤ greatest_generation
generation_low z [] did i = omega arith
generation_low z (ReserveNew slot row ∷ ds) did i = number_case i slot (λ (x : i ≡ slot). rw (eq-eqb i slot x) (omega arith)) (λ (x : i ≢ slot). rw (ne_eqb i slot x) (generation_low z ds did.0 i))
generation_low z (ReserveUsed slot g row ∷ ds) did i = number_case i slot (λ (x : i ≡ slot). rw (eq-eqb i slot x) (let e = did.1.0 in let l = did.1.1.left in omega (arith, e, l))) (λ (x : i ≢ slot). rw (ne_eqb i slot x) (generation_low z ds did.0 i))
generation_low z (_ ∷ ds) did i = generation_low z ds did.0 i

-- ---- a slot is reserved or open, and not both

pub reserved_closed : (z : TableSize) (ds : List Step) → DeskDid z ds → (i : ℕ) → is_reserved ds i ≡ true → is_open ds i ≡ false
reserved_closed z [] did i r = refl
reserved_closed z (ReserveNew slot row ∷ ds) did i r = number_case i slot
    (λ (x : i ≡ slot). is_false (is_open ds i) (λ o. open_used z ds did.0 i o (ap (generation_of ds) x ∙ did.1.0)))
    (λ (x : i ≢ slot). reserved_closed z ds did.0 i (sym (rw (ne_eqb i slot x) refl) ∙ r))
reserved_closed z (ReserveUsed slot g row ∷ ds) did i r = number_case i slot
    (λ (x : i ≡ slot). ap (is_open ds) x ∙ did.1.1.closed)
    (λ (x : i ≢ slot). reserved_closed z ds did.0 i (sym (rw (ne_eqb i slot x) refl) ∙ r))
reserved_closed z (WriteKey slot index word ∷ ds) did i r = reserved_closed z ds did.0 i (both (not (i == slot)) (is_reserved ds i) r).1
reserved_closed z (Start slot read ∷ ds) did i r = let b = both (not (i == slot)) (is_reserved ds i) r in rw (not_true (i == slot) b.0) (reserved_closed z ds did.0 i b.1)
reserved_closed z (Close slot read ∷ ds) did i r = let e = reserved_closed z ds did.0 i r in is_false (not (i == slot) && is_open ds i) (λ o. true_ne_false (sym (both (not (i == slot)) (is_open ds i) o).1 ∙ e))
reserved_closed z (Expire slot expected read ∷ ds) did i r = let e = reserved_closed z ds did.0 i r in is_false (not ((i == slot) && (read == expected)) && is_open ds i) (λ o. true_ne_false (sym (both (not ((i == slot) && (read == expected))) (is_open ds i) o).1 ∙ e))
reserved_closed z (_ ∷ ds) did i r = reserved_closed z ds did.0 i r

pub reserved_inside : (z : TableSize) (ds : List Step) → DeskDid z ds → (i : ℕ) → is_reserved ds i ≡ true → i < z.slots
reserved_inside z [] did i r = absurd (true_ne_false (sym r))
reserved_inside z (ReserveNew slot row ∷ ds) did i r = number_case i slot
    (λ (x : i ≡ slot). let l = did.1.1.inside in omega (arith, x, l))
    (λ (x : i ≢ slot). reserved_inside z ds did.0 i (sym (rw (ne_eqb i slot x) refl) ∙ r))
reserved_inside z (ReserveUsed slot g row ∷ ds) did i r = number_case i slot
    (λ (x : i ≡ slot). let l = did.1.2.inside in omega (arith, x, l))
    (λ (x : i ≢ slot). reserved_inside z ds did.0 i (sym (rw (ne_eqb i slot x) refl) ∙ r))
reserved_inside z (WriteKey slot index word ∷ ds) did i r = reserved_inside z ds did.0 i (both (not (i == slot)) (is_reserved ds i) r).1
reserved_inside z (Start slot read ∷ ds) did i r = reserved_inside z ds did.0 i (both (not (i == slot)) (is_reserved ds i) r).1
reserved_inside z (_ ∷ ds) did i r = reserved_inside z ds did.0 i r

pub open_inside : (z : TableSize) (ds : List Step) → DeskDid z ds → (i : ℕ) → is_open ds i ≡ true → i < z.slots
open_inside z [] did i o = absurd (true_ne_false (sym o))
open_inside z (Start slot read ∷ ds) did i o = ⊎_elim
    (λ (x : (i == slot) ≡ true). let l = did.1.0 in let e = eqb-true i slot x in omega (arith, e, l))
    (λ (x : is_open ds i ≡ true). open_inside z ds did.0 i x)
    (either_of (i == slot) (is_open ds i) o)
open_inside z (Close slot read ∷ ds) did i o = open_inside z ds did.0 i (both (not (i == slot)) (is_open ds i) o).1
open_inside z (Expire slot expected read ∷ ds) did i o = open_inside z ds did.0 i (both (not ((i == slot) && (read == expected))) (is_open ds i) o).1
open_inside z (_ ∷ ds) did i o = open_inside z ds did.0 i o

pub split_inside : (z : TableSize) (ds : List Step) → DeskDid z ds → (w : ℕ) → is_split ds w ≡ true → (0 < w) × (w ≤ z.workers)
split_inside z [] did w h = absurd (true_ne_false (sym h))
split_inside z (Split k r ∷ ds) did w h = ⊎_elim
    (λ (x : (w == k) ≡ true). let e = eqb-true w k x in let a = did.1.0 in let b = did.1.1 in (omega (arith, e, a), omega (arith, e, b)))
    (λ (x : is_split ds w ≡ true). split_inside z ds did.0 w x)
    (either_of (w == k) (is_split ds w) h)
split_inside z (Join k r ∷ ds) did w h = split_inside z ds did.0 w (both (not (w == k)) (is_split ds w) h).1
split_inside z (_ ∷ ds) did w h = split_inside z ds did.0 w h

-- ---- rows

pub rows_low : (z : TableSize) (ds : List Step) → DeskDid z ds → rows_written ds ≤ 12 * z.rows
rows_low z [] did = omega arith
rows_low z (WriteRow row index word ∷ ds) did = let m = did.1 in let a = m.0 in let b = m.1 in let c = m.2 in let d = m.3 in let e = m.4 in omega (arith, a, b, c, d, e)
rows_low z (_ ∷ ds) did = rows_low z ds did.0

pub complete_low : (z : TableSize) (ds : List Step) → DeskDid z ds → (r : ℕ) → IsComplete ds r → r ≤ z.rows
complete_low z ds did r c = let a = rows_low z ds did in let b = c.1 in omega (arith, a, b)

pub row_fits : (z : TableSize) (ds : List Step) → IsWithinLimits z → DeskDid z ds → (r : ℕ) → IsComplete ds r → r ≤ greatest_row
row_fits z ds within did r c = let a = complete_low z ds did r c in let b = within.rows in omega (arith, a, b)

pub still_complete : (ds : List Step) (s : Step) (r : ℕ) → IsComplete ds r → IsComplete (s ∷ ds) r
still_complete ds (WriteRow row index word) r c = let b = c.1 in (c.0, omega (arith, b))
still_complete ds _ r c = c

-- the row of a slot that was used is complete
pub row_complete : (z : TableSize) (ds : List Step) → DeskDid z ds → (i : ℕ) → ¬ (generation_of ds i ≡ 0) → IsComplete ds (row_of ds i)
row_complete z [] did i n = absurd (n refl)
row_complete z (ReserveNew slot row ∷ ds) did i n = number_case i slot
    (λ (x : i ≡ slot). rw (eq-eqb i slot x) did.1.1.complete)
    (λ (x : i ≢ slot). rw (ne_eqb i slot x) (row_complete z ds did.0 i (λ e. n (rw (ne_eqb i slot x) e))))
row_complete z (ReserveUsed slot g row ∷ ds) did i n = number_case i slot
    (λ (x : i ≡ slot). rw (eq-eqb i slot x) did.1.2.complete)
    (λ (x : i ≢ slot). rw (ne_eqb i slot x) (row_complete z ds did.0 i (λ e. n (rw (ne_eqb i slot x) e))))
row_complete z (Reconfigure slot old new read ∷ ds) did i n = number_case i slot
    (λ (x : i ≡ slot). rw (eq-eqb i slot x) did.1.2)
    (λ (x : i ≢ slot). rw (ne_eqb i slot x) (row_complete z ds did.0 i n))
row_complete z (WriteRow row index word ∷ ds) did i n = still_complete ds (WriteRow row index word) (row_of ds i) (row_complete z ds did.0 i n)
row_complete z (_ ∷ ds) did i n = row_complete z ds did.0 i n

-- a complete row stays as it is
pub row_kept : (z : TableSize) (ds : List Step) (s : Step) → DeskMay z ds s → (r : ℕ) → IsComplete ds r → (k : ℕ) → row_word_of (s ∷ ds) r k ≡ row_word_of ds r k
row_kept z ds (WriteRow row index word) may r c k = let x : r ≢ row = λ e. (let a = may.0 in let b = may.4 in let d = c.1 in let f = may.3 in omega (arith, a, b, d, e, f)) in rw (ne_eqb r row x) refl
row_kept z ds _ may r c k = refl

row_list_same : (f g : ℕ → ℕ) → ((k : ℕ) → f k ≡ g k) → row_list f ≡ row_list g
row_list_same f g e = λ i. e 1 i ∷ e 2 i ∷ e 3 i ∷ e 4 i ∷ e 5 i ∷ e 6 i ∷ e 7 i ∷ e 8 i ∷ e 9 i ∷ e 10 i ∷ e 11 i ∷ e 12 i ∷ []

pub config_same : (f g : ℕ → ℕ) → ((k : ℕ) → f k ≡ g k) → config_of f ≡ config_of g
unfolding config_of
config_same f g e = ap config_of_words (row_list_same f g e)

pub is_config_same : (f g : ℕ → ℕ) → ((k : ℕ) → f k ≡ g k) → IsConfigRow f → IsConfigRow g
unfolding IsConfigRow
is_config_same f g e h = subst AreConfigWords (row_list_same f g e) h

pub config_kept : (z : TableSize) (ds : List Step) (s : Step) → DeskMay z ds s → (r : ℕ) → IsComplete ds r → config_at (s ∷ ds) r ≡ config_at ds r
config_kept z ds s may r c = config_same (row_word_of (s ∷ ds) r) (row_word_of ds r) (row_kept z ds s may r c)

-- the words of a complete row are those of a configuration
pub complete_config : (z : TableSize) (ds : List Step) → DeskDid z ds → (r : ℕ) → IsComplete ds r → IsConfigRow (row_word_of ds r)
complete_config z [] did r c = let a = c.0 in let b = c.1 in absurd (omega (arith, a, b))
complete_config z (WriteRow row index word ∷ ds) did r c = number_case (12 * r) (suc (rows_written ds))
    (λ (x : 12 * r ≡ suc (rows_written ds)).
    let m = did.1 in let a = m.0 in let b = m.2 in let d = m.3 in let e = m.4 in let r0 = c.0 in
    let same : r ≡ row = omega (arith, x, a, b, d, e, r0) in let last : index ≡ 12 = omega (arith, x, a, b, d, e, r0) in
    is_config_same (put (row_word_of ds row) 12 word) (row_word_of (WriteRow row index word ∷ ds) r) (λ k. written same last k) (m.5 last).0)
    (λ (x : 12 * r ≢ suc (rows_written ds)).
    let d : IsComplete ds r = let b = c.1 in (c.0, omega (arith, b, x)) in
    is_config_same (row_word_of ds r) (row_word_of (WriteRow row index word ∷ ds) r) (λ k. sym (row_kept z ds (WriteRow row index word) did.1 r d k)) (complete_config z ds did.0 r d))
  where
    written : r ≡ row → index ≡ 12 → (k : ℕ) → put (row_word_of ds row) 12 word k ≡ row_word_of (WriteRow row index word ∷ ds) r k
    written same last k = rw (eq-eqb r row same, last) (ap (λ (j : ℕ). if k == 12 then word else row_word_of ds j k) (sym same))
complete_config z (_ ∷ ds) did r c = complete_config z ds did.0 r c
