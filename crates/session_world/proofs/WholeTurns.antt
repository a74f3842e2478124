-- A whole run that ends with the join of its worker is one turn.
use Rattle.std.proofs.Common.{ℕ, List, [], ◌∷◌, ◌++◌, get_or, refl, ◌∙◌}
use Rattle.session_world.specs.declared.steps.Part.{Part}
use Rattle.session_world.specs.declared.steps.Step.TheVariants.{Join}
use Rattle.session_world.specs.Keys.{key_of, extra_of, start_of, ConfigParts}
use Rattle.session_world.specs.Desk.{config_at}
use Rattle.session_world.specs.Answers.{opened, seen, drew}
use Rattle.session_world.specs.Runs.{CoreState, ended_part, ScheduledStep, run}
use Rattle.session_world.specs.OneOrder.{events_by}
use Rattle.session_world.specs.OneThread.{WholeTurn}
use Rattle.session_world.specs.WholeRun.{WholeRun, by_desk, whole_run}

pub whole_turn : WholeRun → WholeTurn
whole_turn law z row key q within one config sound fits keyed =
    let x = law z row key q within config sound fits keyed in
    let ms : List ScheduledStep = whole_run row key (start_of z.slots q.local q.peer) q x.0 in
    let c : CoreState = run z ms in let word : ℕ = get_or c.words 0 0 in
    let p : Part = ended_part 1 (c.living_part 1) c.desk in
    let f : ℕ → ConfigParts = config_at c.desk in (
      Join 1 word ∷ c.desk,
      p,
      record { within = within; one = one; turns = ((((((((((((((((((((tt, tt), tt), tt), tt), tt), tt), tt), tt), tt), tt), tt), tt), tt), tt), tt), tt), tt), refl), tt), tt); free = refl; schedule = (by_desk (Join 1 word) ∷ ms, (x.1.runs, refl, refl), refl, refl) },
      (λ i. events_by 1 f (x.1.worker i) ++ events_by 0 f (x.1.desk i))
          ∙ (λ i. record { by = 1; answer = drew (key_of key) 0 (x.1.config i) } ∷ record { by = 1; answer = seen q (key_of key) (extra_of key) (x.1.config i) } ∷ record { by = 0; answer = opened (key_of key) (extra_of key) (x.1.config i) } ∷ []),
    )
