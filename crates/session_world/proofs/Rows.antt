-- Complete rows stay, and workers read them as they were written.
use Rattle.std.proofs.Common.{◌≡◌, ◌≢◌, ℕ, zero, suc, ◌<◌, true, List, [], ◌∷◌, ◌++◌, sym, refl, ap, ◌∙◌, subst, arith, ne_eqb, Bool, ◌&&◌, ◌==◌, if◌then◌else◌}
use Rattle.session_world.specs.declared.steps.TableSize.{TableSize}
use Rattle.session_world.specs.declared.steps.Step.{Step}
use Rattle.session_world.specs.declared.steps.Step.TheVariants.{WriteRow}
use Rattle.session_world.specs.Sizes.{IsWithinLimits}
use Rattle.session_world.specs.Desk.{is_split, row_word_of, config_at, IsComplete}
use Rattle.session_world.specs.Allowed.{DeskMay, DeskDid}
use Rattle.session_world.specs.Loads.{WorkerWords, PartWords}
use Rattle.session_world.specs.Runs.{ScheduledStep, run, Runs}
use Rattle.session_world.specs.Rows.{RowsStay, ReadsRows, WorkersReadRows, LoadsFixRows}
use Rattle.session_world.proofs.DeskFacts.{run_did, split_inside, still_complete}
use Rattle.session_world.proofs.ReadWords.{loaded_words}
use Rattle.session_world.proofs.RowsRead.{loads_config}

-- ---- complete rows stay

-- a step of the desk leaves the words of a complete row as they are
pub words_stay : (z : TableSize) (ds : List Step) (s : Step) (r : ℕ) → DeskMay z ds s → IsComplete ds r → row_word_of (s ∷ ds) r ≡ row_word_of ds r
words_stay z ds (WriteRow row index word) r may full =
    let x : r ≢ row = λ e. (let a = may.0 in let b = may.4 in let d = full.1 in let f = may.3 in omega (arith, a, b, d, e, f)) in
    let f : Bool → ℕ → ℕ = (λ (b : Bool) (k : ℕ). if b && (k == index) then word else row_word_of ds r k) in
    ap f (ne_eqb r row x)
words_stay z ds _ r may full = refl

stay : (z : TableSize) (more ds : List Step) (r : ℕ) → DeskDid z (more ++ ds) → IsComplete ds r → IsComplete (more ++ ds) r × (row_word_of (more ++ ds) r ≡ row_word_of ds r)
stay z [] ds r did full = (full, refl)
stay z (s ∷ more) ds r did full =
    let before = stay z more ds r did.0 full in
    (still_complete (more ++ ds) s r before.0, words_stay z (more ++ ds) s r did.1 before.0 ∙ before.1)

pub rows_stay : RowsStay
rows_stay z now more ds ps r schedule grew full =
    let did : DeskDid z now = subst (DeskDid z) schedule.2 (run_did z schedule.0 schedule.1) in
    subst (λ (xs : List Step). IsComplete xs r × (row_word_of xs r ≡ row_word_of ds r)) (sym grew) (stay z more ds r (subst (DeskDid z) grew did) full)

-- ---- what a worker read of them

reads_rows : (z : TableSize) (ds xs : List Step) → WorkerWords z ds xs → ReadsRows (config_at ds) xs
reads_rows z ds xs t r out named = let a = t.rows r out named in (row_word_of ds r, a.2, refl)

reads_at : (z : TableSize) (w : ℕ) (ms : List ScheduledStep) → IsWithinLimits z → Runs z ms → 0 < w → is_split (run z ms).desk w ≡ true → ReadsRows (config_at (run z ms).desk) ((run z ms).living_part w)
reads_at z zero ms within runs lo split = absurd (omega (arith, lo))
reads_at z (suc w) ms within runs lo split = reads_rows z (run z ms).desk ((run z ms).living_part (suc w)) ((loaded_words z ms within runs).workers w split)

pub workers_read_rows : WorkersReadRows
workers_read_rows z w xs within h =
    let c = run z h.0 in
    record {
      desk = c.desk;
      parts = c.ended_parts;
      schedule = (h.0, h.1, refl, refl);
      split = h.2;
      rows = subst (ReadsRows (config_at c.desk)) h.3 (reads_at z w h.0 within h.1 (split_inside z c.desk (run_did z h.0 h.1) w h.2).0 h.2);
    }

-- the same of a part that has ended
pub part_reads_rows : (z : TableSize) (ds xs : List Step) → PartWords z ds xs → ReadsRows (config_at ds) xs
part_reads_rows z ds xs p r out named = let a = p.rows r out named in (row_word_of ds r, a.2, refl)

pub loads_fix_rows : LoadsFixRows
loads_fix_rows config xs r word reads out named loads = let a = reads r out named in a.2 ∙ loads_config a.0 r word xs a.1 loads
