-- A worker's looks fit the table, in every schedule that runs.
use Rattle.std.proofs.Common.{◌≡◌, ℕ, zero, suc, true, List, [], ◌∷◌, get_or, sym, ap, ◌∙◌}
use Rattle.slot_word.specs.Fields.{generation_in, is_open_word}
use Rattle.session_world.specs.declared.steps.TableSize.{TableSize}
use Rattle.session_world.specs.declared.steps.Step.{Step}
use Rattle.session_world.specs.declared.steps.Step.TheVariants.{Look}
use Rattle.session_world.specs.Sizes.{IsWithinLimits}
use Rattle.session_world.specs.Words.{word_index, HasRead}
use Rattle.session_world.specs.Desk.{is_split}
use Rattle.session_world.specs.Allowed.{DeskDid, WorkerMay, IsAllowed}
use Rattle.session_world.specs.Runs.{CoreState, state_after, own_steps, ScheduledStep, run, Runs}
use Rattle.session_world.specs.Looks.{OpenAreUsed, WorkerLooks}
use Rattle.session_world.proofs.BoolFacts.{true_ne_false}
use Rattle.session_world.proofs.DeskFacts.{open_used}
use Rattle.session_world.proofs.Fits.{WordsFit}
use Rattle.session_world.proofs.Sound.{IsSound, part_after, put_part, run_sound}
use Rattle.session_world.proofs.Schedules.{run_tied}

own_used : (z : TableSize) (ws : List ℕ) (ds : List Step) (w : ℕ) (xs : List Step) (s : Step) → DeskDid z ds → WordsFit z ws ds → WorkerMay z xs s → HasRead s (get_or ws (word_index z w s) 0) → OpenAreUsed xs → OpenAreUsed (s ∷ xs)
own_used z ws ds w xs (Look slot query n) did f may has_read h = ((λ o e. let g = f.slots slot may.0 in open_used z ds did slot (sym g.opened ∙ (ap is_open_word (sym has_read) ∙ o)) (sym g.generation ∙ (ap generation_in (sym has_read) ∙ e))), h)
own_used z ws ds w xs _ did f may has_read h = h

abbrev AllUsed : CoreState → Type 0
AllUsed c = (w : ℕ) → is_split c.desk (suc w) ≡ true → OpenAreUsed (c.living_part (suc w))

step_used : (z : TableSize) (c : CoreState) (a : ℕ) (s : Step) → IsSound z c → IsAllowed z a c.desk (own_steps c a) s → HasRead s (get_or c.words (word_index z a s) 0) → AllUsed c → AllUsed (state_after z c a s)
step_used z c zero s t may has_read old w h = part_after c.desk c.living_part s w OpenAreUsed h tt (λ k. old w k)
step_used z c (suc v) s t may has_read old w h = put_part c.living_part v w (s ∷ c.living_part (suc v)) OpenAreUsed
    (λ _. own_used z c.words c.desk (suc v) (c.living_part (suc v)) s t.desk t.words may.1 has_read (old v may.0))
    (λ _. old w h)

run_used : (z : TableSize) (ms : List ScheduledStep) → IsWithinLimits z → Runs z ms → AllUsed (run z ms)
run_used z [] within r w h = absurd (true_ne_false (sym h))
run_used z (m ∷ ms) within r w h = step_used z (run z ms) m.actor m.step (run_sound z ms within r.0) r.1 r.2 (run_used z ms within r.0) w h

pub worker_looks : WorkerLooks
worker_looks z ms w within r split = record {
  used = run_used z ms within r w split;
  last = λ s is. let fit = (run_tied z ms within r).1.looks w split s is in record { inside = fit.inside; numbered = fit.numbered };
}
