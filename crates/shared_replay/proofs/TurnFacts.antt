-- A turn of the worker for one datagram: what it leaves of the shared table, and what the datagram is answered.
use Rattle.std.proofs.Common.{◌≡◌, ℕ, suc, ◌+◌, ◌%◌, ◌^◌, if◌then◌else◌, List, [], ◌∷◌, sym, refl, ap, ◌∙◌, subst, arith, Option, Some, None}
use Rattle.refl_types.specs.declared.types.Key.{Key}
use Rattle.refl_types.specs.declared.types.Extra.{Extra}
use Rattle.refl_types.specs.declared.config.ConfigParts.{ConfigParts}
use Rattle.refl_types.specs.Same.{same_key}
use Rattle.session_key.specs.declared.matching.Query.{Query}
use Rattle.session_world.specs.declared.steps.TableSize.{TableSize}
use Rattle.session_world.specs.declared.steps.Step.{Step}
use Rattle.session_world.specs.declared.steps.Step.TheVariants.{Join}
use Rattle.session_world.specs.declared.steps.Part.{Part}
use Rattle.session_world.specs.Sizes.{IsWithinLimits}
use Rattle.session_world.specs.Desk.{config_at, row_word_of, IsComplete}
use Rattle.session_world.specs.Answers.{Answer, seen, drew, missed, worker_answers}
use Rattle.session_world.specs.History.{Session, SessionMap, drawn}
use Rattle.session_world.specs.Loads.{PartWords, AllPartWords, LoadedWords}
use Rattle.session_world.specs.Rows.{ReadsRows}
use Rattle.session_world.specs.Runs.{ended_part, IsDeskOfOneSchedule}
use Rattle.session_world.specs.OneOrder.{table_of}
use Rattle.session_world.specs.OneThread.{IsBetween, OneBound, IsSight, HasTurned, after_turn, turn_part, TurnsTell}
use Rattle.session_rule.specs.declared.seats.Table as rule
use Rattle.session_rule.specs.declared.seats.Seat.{Seat}
use Rattle.session_rule.specs.declared.seats.WorkerSeat.{WorkerSeat}
use Rattle.session_rule.specs.Seats.{size_of, HasSplitOff, HasJoined, desk_steps, joined_parts, worker_number, worker_steps}
use Rattle.session_table.specs.Knowing.{Places, KeptAs}
use Rattle.replay_table.specs.Table.{Entry, update, raised, session_for}
use Rattle.shared_replay.specs.Tracks.{session_of_entry, entry_for, Tracks}
use Rattle.shared_replay.specs.Following.{Follows}
use Rattle.shared_replay.specs.Stands.{AreKept}
use Rattle.shared_replay.proofs.EntryFacts.{find_none, Found, find_some, map_entry, update_entry}

-- ---- a turn that was made

-- the worker was split off, made the steps xs, and was joined
pub record IsMade (z : TableSize) (ds : List Step) (ps : List Part) (now : List Step) (qs : List Part) (xs : List Step) : Type 0 where
  pub worker : ℕ
  pub at_split : ℕ
  pub at_join : ℕ
  pub desk : now ≡ after_turn ds worker at_split at_join
  pub parts : qs ≡ turn_part ds worker at_split xs ∷ ps
  pub schedule : IsDeskOfOneSchedule z now qs

pub turn_made : (t : rule.Table) (a b c : Seat) (v w : WorkerSeat) → HasSplitOff t a b v → worker_number w ≡ worker_number v → HasJoined t b w c
    → IsMade (size_of t) (desk_steps a) (joined_parts a) (desk_steps c) (joined_parts c) (worker_steps w)
turn_made t a b c v w split same joined =
    let n = split.step.0 in
    let m = joined.step.0 in
    record {
      worker = worker_number v;
      at_split = n;
      at_join = m;
      desk = joined.step.1 ∙ (λ i. Join (same i) m ∷ split.step.1 i);
      parts = joined.joined ∙ (λ i. ended_part (same i) (worker_steps w) (split.step.1 i) ∷ split.joined i);
      schedule = joined.schedule;
    }

module _ {z : TableSize} {ds : List Step} {ps : List Part} {now : List Step} {qs : List Part} {xs : List Step} (made : IsMade z ds ps now qs xs) where
  pub turn_tells : TurnsTell → IsBetween z ds ps → IsBetween z now qs × HasTurned (config_at ds) (table_of z.slots ds ps) (table_of z.slots now qs) (worker_answers z.slots xs)
  turn_tells law between =
      let w = made.worker in
      let n = made.at_split in
      let m = made.at_join in
      let x = law z ds ps w n m xs between (subst (λ (y : List Step × List Part). IsDeskOfOneSchedule z y.0 y.1) (λ i. (made.desk i, made.parts i)) made.schedule) in
      subst (λ (y : List Step × List Part). IsBetween z y.0 y.1 × HasTurned (config_at ds) (table_of z.slots ds ps) (table_of z.slots y.0 y.1) (worker_answers z.slots xs)) (λ i. (sym made.desk i, sym made.parts i)) x

  -- rows stand as they did
  pub same_rows : (r : ℕ) → config_at now r ≡ config_at ds r
  same_rows r = ap (λ (l : List Step). config_at l r) made.desk

  still_whole : (r : ℕ) → IsComplete ds r → IsComplete now r
  still_whole r whole = subst (λ (l : List Step). IsComplete l r) (sym made.desk) whole

  part_words : LoadedWords → IsWithinLimits z → PartWords z now xs
  part_words law within =
      let s = made.schedule in
      let parts = (law z s.0 within s.1).parts in
      (subst (λ (y : List Step × List Part). AllPartWords z y.0 y.1) (λ i. (s.2 i, (s.3 ∙ made.parts) i)) parts).0

  part_reads : LoadedWords → IsWithinLimits z → (config : ℕ → ConfigParts) → ((r : ℕ) → IsComplete now r → config r ≡ config_at now r) → ReadsRows config xs
  part_reads law within config same = λ r some named. let w = (part_words law within).rows r some named in (row_word_of now r, w.2, same r w.0)

  pub turn_reads : LoadedWords → IsWithinLimits z → ReadsRows (config_at ds) xs
  turn_reads law within = part_reads law within (config_at ds) (λ r whole. sym (same_rows r))

  pub turn_keeps : LoadedWords → IsWithinLimits z → (old new : Places) → AreKept ds old
      → ((config : ℕ → ConfigParts) → KeptAs config old → ReadsRows config xs → KeptAs config new) → AreKept now new
  turn_keeps law within old new kept stays =
      λ config same. stays config (kept config (λ r whole. same r (still_whole r whole) ∙ same_rows r)) (part_reads law within config same)

-- ---- what its answers tell of the entries

drawn_is : (o : Option (Session ConfigParts)) → drawn o ≡ map_entry (λ b. record b { count = suc b.count }) o
drawn_is None = refl
drawn_is (Some b) = refl

raised_is : (e : Entry) → session_of_entry (raised e) ≡ record { extra = e.extra; config = e.config; count = suc e.count }
raised_is e = let more : e.count + 1 ≡ suc e.count = omega arith in λ i. record { extra = e.extra; config = e.config; count = more i }

module _ {z : TableSize} {ds : List Step} {ps : List Part} {es : List Entry} (h : Follows z ds ps es) {u : SessionMap ConfigParts} {ys : List (Answer ℕ)} (turned : HasTurned (config_at ds) (table_of z.slots ds ps) u ys) where
  pub missed_here : (q : Query) → ys ≡ missed q ∷ [] → (session_for q es ≡ None) × Tracks u es
  missed_here q e = let x = turned.missed_it q e in (find_none q es (λ k b at. x.0 k b (h.tracks k ∙ at)), λ k. x.1 k ∙ h.tracks k)

  -- the entry that a turn saw
  sight : OneBound → (q : Query) (k : Key) (x : Extra) (c : ConfigParts) (b : Session ConfigParts) → IsSight (table_of z.slots ds ps) q k x c b → Found q es k b
  sight bound q k x c b s = find_some q es k b (sym (h.tracks k) ∙ s.0) s.3
      (λ j d at mj. (bound z ds ps h.between).one q j k d b (h.tracks j ∙ at) s.0 mj s.3)

  pub record Saw (q : Query) (k : Key) (x : Extra) (c : ConfigParts) : Type 0 where
    pub entry : Entry
    pub found : session_for q es ≡ Some entry
    pub key : entry.key ≡ k
    pub extra : entry.extra ≡ x
    pub config : entry.config ≡ c
    pub bound : entry_for k es ≡ Some (session_of_entry entry)

  saw_by : OneBound → (q : Query) (k : Key) (x : Extra) (c : ConfigParts) (b : Session ConfigParts) → IsSight (table_of z.slots ds ps) q k x c b → Saw q k x c
  saw_by bound q k x c b s = let f = sight bound q k x c b s in record {
    entry = f.entry;
    found = f.found;
    key = f.key;
    extra = ap (λ (v : Session ConfigParts). v.extra) f.session ∙ s.1;
    config = ap (λ (v : Session ConfigParts). v.config) f.session ∙ s.2;
    bound = sym (h.tracks k) ∙ s.0 ∙ ap (λ (v : Session ConfigParts). Some v) (sym f.session);
  }

  pub saw_here : OneBound → (q : Query) (k : Key) (x : Extra) (r : ℕ) → ys ≡ seen q k x r ∷ [] → Saw q k x (config_at ds r) × Tracks u es
  saw_here bound q k x r e = let s = turned.saw q k x r e in (saw_by bound q k x (config_at ds r) s.0.0 s.0.1, λ j. s.1 j ∙ h.tracks j)

  pub record Drew (q : Query) (k : Key) (x : Extra) (c d : ConfigParts) (number : ℕ) : Type 0 where
    pub saw : Saw q k x c
    pub drawn_config : saw.entry.config ≡ d
    pub count : saw.entry.count % 2 ^ 32 ≡ number
    pub tracks : Tracks u (update saw.entry.key raised es)

  pub drew_here : OneBound → (q : Query) (k : Key) (x : Extra) (r number s : ℕ) → ys ≡ drew k number s ∷ seen q k x r ∷ [] → Drew q k x (config_at ds r) (config_at ds s) number
  unfolding saw_by sight
  drew_here bound q k x r number s e =
      let y = turned.drew_it q k x r number s e in
      let b = y.0.0 in
      let f = sight bound q k x (config_at ds r) b y.0.1 in
      record {
        saw = saw_by bound q k x (config_at ds r) b y.0.1;
        drawn_config = ap (λ (v : Session ConfigParts). v.config) f.session ∙ y.0.2;
        count = ap (λ (v : Session ConfigParts). v.count % 2 ^ 32) f.session ∙ y.0.3;
        tracks = λ i. y.1 i
            ∙ (ap (λ (o : Option (Session ConfigParts)). if same_key k i then drawn o else o) (h.tracks i)
            ∙ (ap (λ (o : Option (Session ConfigParts)). if same_key k i then o else entry_for i es) (drawn_is (entry_for i es))
            ∙ (sym (update_entry k raised (λ v. record v { count = suc v.count }) (λ v. refl) raised_is es i)
            ∙ ap (λ (j : Key). entry_for i (update j raised es)) (sym f.key))));
      }
