-- The one order of all answers, where there is one worker, which is split off and joined around each of its turns, and the desk
-- answers nothing in a turn (this project's own). The latest event comes first.
use Rattle.std.specs.Prelude.{◌≡◌, ℕ, ◌%◌, ◌^◌, Bool, true, false, List, [], ◌∷◌, ◌++◌, Some}
use Rattle.session_key.specs.Matching.{matches}
use Rattle.session_world.specs.declared.steps.TableSize.{TableSize}
use Rattle.session_world.specs.declared.steps.Step.{Step}
use Rattle.session_world.specs.declared.steps.Part.{Part}
use Rattle.session_world.specs.declared.steps.Step.TheVariants.{Start, Reconfigure, Close, Peek, Expire, Join}
use Rattle.session_world.specs.Sizes.{IsWithinLimits}
use Rattle.session_world.specs.Keys.{Query, Key, ConfigParts, has_key}
use Rattle.session_world.specs.Desk.{config_at, is_split}
use Rattle.session_world.specs.Answers.{Answer, counted, closed, drew, with_configs, desk_gives, worker_answers}
use Rattle.session_world.specs.Runs.{ScheduledStep, run, Runs}
use Rattle.session_world.specs.History.{Session, SessionMap, Event, map_after, Has, IsLegalAt, IsBy, IsLegal}
use Rattle.session_world.specs.Explains.{with_wrapped_counts, Explains}

-- ---- turns

-- the desk answers only while the worker isn't split off
abbrev pub IsBetweenTurns : List Step → Step → Type 0
IsBetweenTurns ds (Start slot read) = is_split ds 1 ≡ false
IsBetweenTurns ds (Reconfigure slot old new read) = is_split ds 1 ≡ false
IsBetweenTurns ds (Close slot read) = is_split ds 1 ≡ false
IsBetweenTurns ds (Peek slot read) = is_split ds 1 ≡ false
IsBetweenTurns ds (Expire slot expected read) = is_split ds 1 ≡ false
IsBetweenTurns ds _ = Unit {0}

abbrev pub InTurns : List Step → Type 0
InTurns [] = Unit {0}
InTurns (s ∷ ds) = InTurns ds × IsBetweenTurns ds s

-- ---- the order

-- answers of the actor w as events, with f for the configuration that a row names
abbrev pub events_by : {C : Type 0} → ℕ → (ℕ → C) → List (Answer ℕ) → List (Event C)
events_by w f [] = []
events_by w f (d ∷ xs) = record { by = w; answer = with_configs f d } ∷ events_by w f xs

-- The desk's answers at their steps, and those of each part at the join that ended it. `name` says which configuration a row
-- names where the desk's list is so far
abbrev pub in_order : {C : Type 0} → (List Step → ℕ → C) → ℕ → List Step → List Part → List (Event C)
in_order name slots [] ps = []
in_order name slots (Join worker read ∷ ds) (p ∷ ps) = events_by 1 (name ds) (worker_answers slots p.steps) ++ in_order name slots ds ps
in_order name slots (Join worker read ∷ ds) [] = in_order name slots ds []
in_order name slots (s ∷ ds) ps = events_by 0 (name ds) (desk_gives ds s) ++ in_order name slots ds ps

-- by the words of the row at that step
abbrev pub one_order : ℕ → List Step → List Part → List (Event ConfigParts)
one_order slots ds ps = in_order config_at slots ds ps

-- the table that it leaves
abbrev pub table_of : ℕ → List Step → List Part → SessionMap ConfigParts
table_of slots ds ps = map_after (one_order slots ds ps)

-- ---- legal, where answers tell counts modulo 2 ^ 32

abbrev pub IsLegalModulo : {C : Type 0} → (C → Bool) → SessionMap C → Answer C → Type 0
IsLegalModulo keyed t (counted k n c) = Has t k (λ b. (b.count % 2 ^ 32 ≡ n) × (b.config ≡ c))
IsLegalModulo keyed t (closed k n) = Has t k (λ b. b.count % 2 ^ 32 ≡ n)
IsLegalModulo keyed t (drew k n c) = Has t k (λ b. (b.count % 2 ^ 32 ≡ n) × (b.config ≡ c))
IsLegalModulo keyed t d = IsLegalAt keyed t d

abbrev pub AreLegal : {C : Type 0} → (C → Bool) → List (Event C) → Type 0
AreLegal keyed [] = Unit {0}
AreLegal keyed (e ∷ h) = AreLegal keyed h × IsLegalModulo keyed (map_after h) e.answer × IsBy e.by e.answer

abbrev pub with_wrapped_events : {C : Type 0} → List (Event C) → List (Event C)
with_wrapped_events [] = []
with_wrapped_events (e ∷ h) = record { by = e.by; answer = with_wrapped_counts e.answer } ∷ with_wrapped_events h

-- ---- the laws

-- Where the worker isn't split off now, every history that explains the schedule is, as a list, this order, counts modulo 2 ^ 32
abbrev pub IsTheOrder : Type 0
IsTheOrder = (z : TableSize) (schedule : List ScheduledStep) (h : List (Event ConfigParts)) → IsWithinLimits z → z.workers ≡ 1 → Runs z schedule
    → InTurns (run z schedule).desk → is_split (run z schedule).desk 1 ≡ false → Explains z schedule h
    → with_wrapped_events h ≡ in_order (λ ds. config_at (run z schedule).desk) z.slots (run z schedule).desk (run z schedule).ended_parts

-- The order is that of a legal history of the one-thread table, in which no query matches two bound keys
pub record IsLegalOrder (g : List (Event ConfigParts)) : Type 0 where
  pub legal : AreLegal has_key g
  pub history : (h : List (Event ConfigParts)) × IsLegal has_key h × (with_wrapped_events h ≡ g)
  pub one : (q : Query) (j k : Key) (b d : Session ConfigParts) → map_after g j ≡ Some b → map_after g k ≡ Some d → matches q j ≡ true → matches q k ≡ true → j ≡ k

abbrev pub OneOrder : Type 0
OneOrder = (z : TableSize) (schedule : List ScheduledStep) → IsWithinLimits z → z.workers ≡ 1 → Runs z schedule → InTurns (run z schedule).desk
    → IsLegalOrder (one_order z.slots (run z schedule).desk (run z schedule).ended_parts)
