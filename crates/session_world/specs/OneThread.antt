-- What one thread that plays the desk and, in turns, its only worker is told of the one-thread table (this project's own).
use Rattle.std.specs.Prelude.{◌≡◌, ℕ, ◌%◌, ◌^◌, true, false, List, [], ◌∷◌, ◌++◌, Some}
use Rattle.session_key.specs.Matching.{matches}
use Rattle.session_world.specs.declared.steps.TableSize.{TableSize}
use Rattle.session_world.specs.declared.steps.Step.{Step}
use Rattle.session_world.specs.declared.steps.Part.{Part}
use Rattle.session_world.specs.declared.steps.Step.TheVariants.{Split, Join}
use Rattle.session_world.specs.Sizes.{IsWithinLimits}
use Rattle.session_world.specs.Keys.{Query, Key, Extra, ConfigParts, IsKey, IsConfigRow, key_of, extra_of, config_of, is_auth, has_key}
use Rattle.session_world.specs.Desk.{config_at, is_split}
use Rattle.session_world.specs.Answers.{Answer, opened, configured, seen, drew, missed, late, with_configs, desk_answers, worker_answers}
use Rattle.session_world.specs.Runs.{ended_part, IsDeskOfOneSchedule}
use Rattle.session_world.specs.History.{Session, SessionMap, entry_after, NoMatch}
use Rattle.session_world.specs.OneOrder.{InTurns, table_of, IsLegalModulo, IsLegalOrder, one_order}

-- the only worker was split off in turns, and isn't split off now
pub record IsBetween (z : TableSize) (ds : List Step) (ps : List Part) : Type 0 where
  pub within : IsWithinLimits z
  pub one : z.workers ≡ 1
  pub turns : InTurns ds
  pub free : is_split ds 1 ≡ false
  pub schedule : IsDeskOfOneSchedule z ds ps

-- it is so at first
abbrev pub Begins : Type 0
Begins = (z : TableSize) → IsWithinLimits z → z.workers ≡ 1 → IsBetween z [] []

-- and no query matches two keys that are bound
abbrev pub OneBound : Type 0
OneBound = (z : TableSize) (ds : List Step) (ps : List Part) → IsBetween z ds ps → IsLegalOrder (one_order z.slots ds ps)

-- ---- calls of the desk

-- steps that split and join nobody
abbrev pub NoTurns : List Step → Type 0
NoTurns [] = Unit {0}
NoTurns (Split worker read ∷ more) = ⊥
NoTurns (Join worker read ∷ more) = ⊥
NoTurns (s ∷ more) = NoTurns more

abbrev pub SameTable : SessionMap ConfigParts → SessionMap ConfigParts → Type 0
SameTable t u = (k : Key) → u k ≡ t k

-- the row's configuration counts only where it goes into the table
abbrev pub SetsSame : {C : Type 0} → (ℕ → C) → (ℕ → C) → Answer ℕ → Type 0
SetsSame f g (opened k x r) = f r ≡ g r
SetsSame f g (configured k r) = f r ≡ g r
SetsSame f g _ = Unit {0}

-- The answer d was legal in the table t, and u is the table after it, with f for the configurations of rows
pub record HasAnswered (f : ℕ → ConfigParts) (t u : SessionMap ConfigParts) (d : Answer ℕ) : Type 0 where
  pub named : ℕ → ConfigParts
  pub sets : SetsSame f named d
  pub legal : IsLegalModulo has_key t (with_configs named d)
  pub after : (k : Key) → u k ≡ entry_after (with_configs f d) k (t k)

-- What a call of the desk that gives no answer, or one, leaves of the table
pub record HasCalled (z : TableSize) (ds : List Step) (ps : List Part) (now : List Step) : Type 0 where
  pub between : IsBetween z now ps
  pub nothing : desk_answers now ≡ desk_answers ds → SameTable (table_of z.slots ds ps) (table_of z.slots now ps)
  pub answered : (d : Answer ℕ) → desk_answers now ≡ d ∷ desk_answers ds → HasAnswered (config_at now) (table_of z.slots ds ps) (table_of z.slots now ps) d

abbrev pub CallsTell : Type 0
CallsTell = (z : TableSize) (ds : List Step) (ps : List Part) (more : List Step) → IsBetween z ds ps → NoTurns more → IsDeskOfOneSchedule z (more ++ ds) ps → HasCalled z ds ps (more ++ ds)

-- ---- turns of the worker

-- the key is bound with this extra and configuration, and the query matches it
abbrev pub IsSight : SessionMap ConfigParts → Query → Key → Extra → ConfigParts → Session ConfigParts → Type 0
IsSight t q k x c b = (t k ≡ Some b) × (b.extra ≡ x) × (b.config ≡ c) × (matches q k ≡ true)

-- What the answers of a turn tell of the table t before it, and of the table u after it
pub record HasTurned (f : ℕ → ConfigParts) (t u : SessionMap ConfigParts) (xs : List (Answer ℕ)) : Type 0 where
  pub nothing : xs ≡ [] → SameTable t u
  pub missed_it : (q : Query) → xs ≡ missed q ∷ [] → NoMatch t q × SameTable t u
  pub saw : (q : Query) (k : Key) (x : Extra) (r : ℕ) → xs ≡ seen q k x r ∷ [] → ((b : Session ConfigParts) × IsSight t q k x (f r) b) × SameTable t u
  pub drew_it : (q : Query) (k : Key) (x : Extra) (r n s : ℕ) → xs ≡ drew k n s ∷ seen q k x r ∷ []
      → ((b : Session ConfigParts) × IsSight t q k x (f r) b × (b.config ≡ f s) × (b.count % 2 ^ 32 ≡ n)) × ((j : Key) → u j ≡ entry_after (drew k n (f s)) j (t j))
  pub never_late : (q : Query) (k : Key) (x : Extra) (r : ℕ) → xs ≡ late q ∷ seen q k x r ∷ [] → ⊥

-- the desk's list after the turn of the worker that was split off from ds, and the part that the turn added
abbrev pub after_turn : List Step → ℕ → ℕ → ℕ → List Step
after_turn ds w n m = Join w m ∷ Split w n ∷ ds

abbrev pub turn_part : List Step → ℕ → ℕ → List Step → Part
turn_part ds w n xs = ended_part w xs (Split w n ∷ ds)

abbrev pub TurnsTell : Type 0
TurnsTell = (z : TableSize) (ds : List Step) (ps : List Part) (w n m : ℕ) (xs : List Step) → IsBetween z ds ps → IsDeskOfOneSchedule z (after_turn ds w n m) (turn_part ds w n xs ∷ ps)
    → IsBetween z (after_turn ds w n m) (turn_part ds w n xs ∷ ps)
    × HasTurned (config_at ds) (table_of z.slots ds ps) (table_of z.slots (after_turn ds w n m) (turn_part ds w n xs ∷ ps)) (worker_answers z.slots xs)

-- ---- turns are possible

-- For each size with one worker, and each key, extra, configuration and query that matches, there is a run of one turn in
-- which the session is opened, seen and drawn from
abbrev pub WholeTurn : Type 0
WholeTurn = (z : TableSize) (row key : ℕ → ℕ) (q : Query)
    → IsWithinLimits z → z.workers ≡ 1 → IsConfigRow row → IsKey key → matches q (key_of key) ≡ true
    → (is_auth (key_of key) ≡ true → has_key (config_of row) ≡ true)
    → (ds : List Step) × (p : Part) × IsBetween z ds (p ∷ [])
    × (one_order z.slots ds (p ∷ []) ≡ record { by = 1; answer = drew (key_of key) 0 (config_of row) } ∷ record { by = 1; answer = seen q (key_of key) (extra_of key) (config_of row) } ∷ record { by = 0; answer = opened (key_of key) (extra_of key) (config_of row) } ∷ [])
