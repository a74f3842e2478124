-- A turn, by how far it goes: no session was found, or one that stays silent, or a draw came too late, or a number was drawn, under
-- the row seen or another.
use Rattle.std.proofs.Common.{◌≡◌, inl, inr, ℕ, true, List, [], ◌∷◌, ◌++◌, Option, Some, None, Result, Ok, Err, refl, sym, ap, subst, ◌∙◌, append_assoc}
use Rattle.std.specs.Prelude.{IsSome}
use Rattle.refl_types.specs.declared.types.Mode.{Mode}
use Rattle.refl_types.specs.HmacKey.{HasHmacKey}
use Rattle.refl_types.specs.declared.outcome.Unanswered.{Unanswered}
use Rattle.refl_types.specs.declared.outcome.Silent.TheVariants as silent
use Rattle.refl_types.specs.declared.outcome.Unanswered.TheVariants.{NoSession, Short, BadHmac, NoReply, Changed}
use Rattle.reflect_core.specs.declared.judging.Judged.TheVariants as judged
use Rattle.session_world.specs.declared.steps.TableSize.{TableSize}
use Rattle.session_world.specs.declared.steps.Step.{Step}
use Rattle.session_world.specs.declared.steps.Step.TheVariants.{Draw, Retire}
use Rattle.session_world.specs.Keys.{Query, Key, ConfigParts, is_auth, is_auth_mode, is_some, has_key}
use Rattle.session_world.specs.Worker.{announced}
use Rattle.session_world.specs.Answers.{Answer, seen, drew, late, worker_answers}
use Rattle.session_world.specs.Loads.{row_loads}
use Rattle.session_world.specs.Rows.{ReadsRows}
use Rattle.session_rule.specs.declared.seats.Table.{Table}
use Rattle.session_rule.specs.declared.seats.WorkerSeat.{WorkerSeat}
use Rattle.session_rule.specs.Seats.{size_of, worker_steps}
use Rattle.session_table.specs.declared.found.Sight.{Sight}
use Rattle.session_table.specs.Steps.{HasCome}
use Rattle.session_table.specs.Holding.{HoldsNothing}
use Rattle.session_table.specs.Finding.{FoundNone}
use Rattle.session_table.specs.Drawing.{DrewRow, DrewLate}
use Rattle.session_table.specs.Knowing.{Places, Keeps, KeptAs, AreRead, MaybeLoads, SawKnown, DrewKnown, StaysKnown, ReadsMore}
use Rattle.session_turn.specs.declared.turning.Drawn.{Drawn}
use Rattle.session_turn.specs.declared.judging.Verdict.{Verdict}
use Rattle.session_turn.specs.declared.judging.Verdict.TheVariants as verdict
use Rattle.session_turn.specs.Turn.{outcome_of, no_match, only_seen, seen_late, seen_drew, Reflects, IsJudged, IsDrawnFor, IsDrawn, TookTurn}

-- ---- steps

pub come_then : {t : Table} {a b c : WorkerSeat} {xs : List Step} → HasCome t a b (worker_steps b) → HasCome t b c xs → HasCome t a c (worker_steps c)
come_then p q = record { steps = refl; number = q.number ∙ p.number; seat = q.seat; schedule = q.schedule }

-- the steps that a look-up or a draw added, with the loads of a row or without
gained_by : (r : ℕ) (walk before after : List Step) → MaybeLoads r (walk ++ before) after → (gained : List Step) × (after ≡ gained ++ before)
gained_by r walk before after (inl e) = (walk, e)
gained_by r walk before after (inr (word, e)) = (row_loads r word walk, e)

gained_then : (a b c g h : List Step) → b ≡ g ++ a → c ≡ h ++ b → c ≡ (h ++ g) ++ a
gained_then a b c g h p q = q ∙ ap (λ (l : List Step). h ++ l) p ∙ sym (append_assoc h g a)

-- ---- rows that are kept

-- further steps leave the rows that are kept
pub stays_on : (law : ReadsMore) (old new : Places) (before mid after added : List Step) → StaysKnown old new before mid → after ≡ added ++ mid → StaysKnown old new before after
stays_on law old new before mid after added h e = record {
  kept = λ config was reads. h.kept config was (law.rows config added mid (subst (ReadsRows config) e reads));
  read = λ r. subst (AreRead new) (sym e) (law.kept new added mid (h.read r));
}

pub stays_then : (law : ReadsMore) (a b c : Places) (x y z added : List Step) → StaysKnown a b x y → StaysKnown b c y z → z ≡ added ++ y → StaysKnown a c x z
stays_then law a b c x y z added p q e = record {
  kept = λ config was reads. q.kept config (p.kept config was (law.rows config added y (subst (ReadsRows config) e reads))) reads;
  read = λ r. q.read (p.read r);
}

config_in : ConfigParts → Option (Option (ℕ × ConfigParts)) → ConfigParts
config_in d None = d
config_in d (Some None) = d
config_in d (Some (Some (r, c))) = c

pub same_kept : (rows : Places) (r : ℕ) (a b : ConfigParts) → Keeps rows r a → Keeps rows r b → a ≡ b
unfolding config_in
same_kept rows r a b p q = ap (config_in a) (sym p ∙ q)

-- ---- HMAC keys

some_key : (o : Option (List ℕ)) → is_some o ≡ true → IsSome o
some_key None e = absurd cc
some_key (Some x) e = refl

-- a configuration that is kept for a row serves a session of its key, where the one that is known of the row does
keyed_by : (rows : Places) (k : Key) (r : ℕ) (known c : ConfigParts) → Keeps rows r known → Keeps rows r c → (is_auth k ≡ true → has_key known ≡ true) → HasHmacKey k.mode c
keyed_by rows k r known c a b keyed e = some_key c.key (subst (λ (x : ConfigParts). is_auth k ≡ true → has_key x ≡ true) (same_kept rows r known c a b) keyed (ap is_auth_mode e))

-- ---- what is known on the way

-- a session was seen, whose row is kept with this configuration
pub record Sighted (z : TableSize) (q : Query) (old known : Places) (before at : List Step) (s : Sight) (c : ConfigParts) : Type 0 where
  pub gained : List Step
  pub steps : at ≡ gained ++ before
  pub answer : worker_answers z.slots at ≡ seen q s.key s.extra s.row ∷ worker_answers z.slots before
  pub stays : StaysKnown old known before at
  pub kept : Keeps known s.row c
  pub keyed : AreRead old before → HasHmacKey s.key.mode c

pub sighted : (z : TableSize) (q : Query) (old known : Places) (before at : List Step) (s : Sight) (c : ConfigParts) → SawKnown z old known before at q s → StaysKnown old known before at → Keeps known s.row c → Sighted z q old known before at s c
sighted z q old known before at s c saw stays kept =
    let g = gained_by s.row saw.walk before at saw.steps in
    record {
      gained = g.0;
      steps = g.1;
      answer = saw.saw.answer;
      stays = stays;
      kept = kept;
      keyed = λ read. keyed_by known s.key s.row saw.knows.config c saw.knows.kept kept (saw.keyed (stays.read read));
    }

-- a number was drawn, under a row that is kept with this configuration
pub record Numbered (z : TableSize) (known new : Places) (at on : List Step) (s : Sight) (n r : ℕ) (c : ConfigParts) : Type 0 where
  pub gained : List Step
  pub steps : on ≡ gained ++ at
  pub answer : worker_answers z.slots on ≡ drew s.key n r ∷ worker_answers z.slots at
  pub stays : StaysKnown known new at on
  pub kept : Keeps new r c
  pub keyed : AreRead known at → HasHmacKey s.key.mode c

-- under the row seen
pub numbered_same : (law : ReadsMore) (z : TableSize) (known : Places) (at on : List Step) (s : Sight) (n r : ℕ) (c : ConfigParts) → DrewRow z at on s n r → Keeps known s.row c → HasHmacKey s.key.mode c → r ≡ s.row → Numbered z known known at on s n r c
numbered_same law z known at on s n r c took kept keyed same =
    let added : List Step = Draw s.slot took.read ∷ [] in
    record {
      gained = added;
      steps = took.steps;
      answer = took.took.answer;
      stays = stays_on law known known at at on added (record { kept = λ config was reads. was; read = λ r. r }) took.steps;
      kept = subst (λ (x : ℕ). Keeps known x c) (sym same) kept;
      keyed = λ read. keyed;
    }

-- under a row that is kept now
pub numbered : (z : TableSize) (known new : Places) (at on : List Step) (s : Sight) (n r : ℕ) (c : ConfigParts) → DrewKnown z known new at on s n r → StaysKnown known new at on → Keeps new r c → Numbered z known new at on s n r c
numbered z known new at on s n r c took stays kept =
    let g = gained_by r (Draw s.slot took.read ∷ []) at on took.steps in
    record {
      gained = g.0;
      steps = g.1;
      answer = took.took.answer;
      stays = stays;
      kept = kept;
      keyed = λ read. keyed_by new s.key r took.knows.config c took.knows.kept kept (took.keyed (stays.read read));
    }

-- first a draw, and then what is kept as well
pub drawn_stays : (law : ReadsMore) (old new : Places) (before at mid : List Step) (s : Sight) (n r : ℕ) (z : TableSize) → DrewRow z before at s n r → StaysKnown old new at mid → StaysKnown old new before mid
drawn_stays law old new before at mid s n r z took stays = record {
  kept = stays.kept;
  read = λ read. stays.read (subst (AreRead old) (sym took.steps) (law.kept old (Draw s.slot took.read ∷ []) before read));
}

-- ---- the turns

module _ (law : ReadsMore) (t : Table) (q : Query) (octets : List ℕ) (old : Places) (before after : WorkerSeat) (come : HasCome t before after (worker_steps after)) (nothing : HoldsNothing (worker_steps after))
    (retired : announced (worker_steps after) ≡ None) where
  abbrev slots : ℕ
  slots = (size_of t).slots

  abbrev xs : List Step
  xs = worker_steps before

  abbrev zs : List Step
  zs = worker_steps after

  pub missed_turn : (new : Places) (passed : ℕ) → FoundNone (size_of t) xs zs q passed → StaysKnown old new xs zs → TookTurn t old new before after q octets (Err NoSession)
  missed_turn new passed found stays = record {
    come = come;
    nothing = nothing;
    retired = retired;
    known = stays;
    gained = found.added;
    steps = found.steps;
    group = no_match;
    answers = found.answer;
    turn = λ config was reads. refl;
    keyed = λ read config reads. tt;
  }

  -- what a session that was seen comes to in the end
  module _ (known : Places) (at : List Step) (s : Sight) (c : ConfigParts) (saw : Sighted (size_of t) q old known xs at s c) where
    -- the row stands for the configuration
    stands : (config : ℕ → ConfigParts) (added : List Step) → zs ≡ added ++ at → KeptAs config old → ReadsRows config zs → KeptAs config known × (c ≡ config s.row)
    stands config added more was reads =
        let k = saw.stays.kept config was (law.rows config added at (subst (ReadsRows config) more reads)) in
        (k, k s.row c saw.kept)

    -- so it does where rows were kept as they were read
    stands_read : (config : ℕ → ConfigParts) (added : List Step) → zs ≡ added ++ at → AreRead old xs → ReadsRows config zs → c ≡ config s.row
    stands_read config added more read reads = saw.stays.read read config (law.rows config added at (subst (ReadsRows config) more reads)) s.row c saw.kept

    pub silent_turn : (why : Unanswered) → zs ≡ Retire ∷ at → worker_answers slots zs ≡ worker_answers slots at → IsJudged s.key.mode c octets (Err why) → TookTurn t old known before after q octets (Err why)
    silent_turn why gone same judged = record {
      come = come;
      nothing = nothing;
      retired = retired;
      known = stays_on law old known xs at zs (Retire ∷ []) saw.stays gone;
      gained = (Retire ∷ []) ++ saw.gained;
      steps = gained_then xs at zs saw.gained (Retire ∷ []) saw.steps gone;
      group = only_seen s.key s.extra s.row;
      answers = same ∙ saw.answer;
      turn = λ config was reads. (why, subst (λ (x : ConfigParts). IsJudged s.key.mode x octets (Err why)) (stands config (Retire ∷ []) gone was reads).1 judged, refl);
      keyed = λ read config reads. subst (HasHmacKey s.key.mode) (stands_read config (Retire ∷ []) gone read reads) (saw.keyed read);
    }

    pub late_turn : (on : List Step) → DrewLate (size_of t) at on q s.slot → zs ≡ Retire ∷ on → worker_answers slots zs ≡ worker_answers slots on → Reflects s.key.mode c octets → TookTurn t old known before after q octets (Err NoSession)
    late_turn on took gone same reflects =
        let added : List Step = Draw s.slot took.read ∷ [] in
        let both : zs ≡ ((Retire ∷ []) ++ added) ++ at = gained_then at on zs added (Retire ∷ []) took.steps gone in
        record {
          come = come;
          nothing = nothing;
          retired = retired;
          known = stays_on law old known xs at zs ((Retire ∷ []) ++ added) saw.stays both;
          gained = ((Retire ∷ []) ++ added) ++ saw.gained;
          steps = gained_then xs at zs saw.gained ((Retire ∷ []) ++ added) saw.steps both;
          group = seen_late s.key s.extra s.row;
          answers = same ∙ took.answer ∙ ap (λ (l : List (Answer ℕ)). late q ∷ l) saw.answer;
          turn = λ config was reads. (subst (λ (x : ConfigParts). Reflects s.key.mode x octets) (stands config ((Retire ∷ []) ++ added) both was reads).1 reflects, refl);
          keyed = λ read config reads. subst (HasHmacKey s.key.mode) (stands_read config ((Retire ∷ []) ++ added) both read reads) (saw.keyed read);
        }

    -- a number was drawn, and this came of the row drawn
    pub drawn_turn : (new : Places) (on : List Step) (n r : ℕ) (e : ConfigParts) (result : Result Drawn Unanswered) → Numbered (size_of t) known new at on s n r e → zs ≡ Retire ∷ on → worker_answers slots zs ≡ worker_answers slots on → Reflects s.key.mode c octets
        → ((config : ℕ → ConfigParts) → e ≡ config r → IsDrawn config octets s.key s.extra s.row n r result) → TookTurn t old new before after q octets result
    drawn_turn new on n r e result number gone same reflects outcome =
        let both : zs ≡ ((Retire ∷ []) ++ number.gained) ++ at = gained_then at on zs number.gained (Retire ∷ []) number.steps gone in
        record {
          come = come;
          nothing = nothing;
          retired = retired;
          known = stays_on law old new xs on zs (Retire ∷ []) (stays_then law old known new xs at on number.gained saw.stays number.stays number.steps) gone;
          gained = ((Retire ∷ []) ++ number.gained) ++ saw.gained;
          steps = gained_then xs at zs saw.gained ((Retire ∷ []) ++ number.gained) saw.steps both;
          group = seen_drew s.key s.extra s.row n r;
          answers = same ∙ number.answer ∙ ap (λ (l : List (Answer ℕ)). drew s.key n r ∷ l) saw.answer;
          turn = λ config was reads.
              let first = stands config ((Retire ∷ []) ++ number.gained) both was reads in
              let then_ = number.stays.kept config first.0 (law.rows config (Retire ∷ []) on (subst (ReadsRows config) gone reads)) r e number.kept in
              (subst (λ (x : ConfigParts). Reflects s.key.mode x octets) first.1 reflects, outcome config then_);
          keyed = λ read config reads.
              let read_at = saw.stays.read read in
              let then_ = number.stays.read read_at config (law.rows config (Retire ∷ []) on (subst (ReadsRows config) gone reads)) r e number.kept in
              (subst (HasHmacKey s.key.mode) (stands_read config ((Retire ∷ []) ++ number.gained) both read reads) (saw.keyed read), subst (HasHmacKey s.key.mode) then_ (number.keyed read_at));
        }

-- ---- judgements

-- what isn't judged as reflected isn't reflected
pub refused : (mode : Mode) (c : ConfigParts) (octets : List ℕ) (v : Verdict) → IsJudged mode c octets (outcome_of v) → (v ≡ verdict.Reflect → ⊥) → ¬ Reflects mode c octets
refused mode c octets verdict.Reflect j not r = not refl
refused mode c octets verdict.NoKey j not r = j r.1
refused mode c octets verdict.Short j not r = absurd (let no_ : judged.Silent silent.Short ≡ judged.Reflect = sym j ∙ r.0 in cc)
refused mode c octets verdict.BadHmac j not r = absurd (let no_ : judged.Silent silent.BadHmac ≡ judged.Reflect = sym j ∙ r.0 in cc)
refused mode c octets verdict.NoReply j not r = absurd (let no_ : judged.Silent silent.NoReply ≡ judged.Reflect = sym j ∙ r.0 in cc)

-- ---- the outcome of a draw

pub same_drawn : (s : Sight) (octets : List ℕ) (n r : ℕ) (c : ConfigParts) (d : Drawn) (config : ℕ → ConfigParts) → Reflects s.key.mode c octets → IsDrawnFor d s.key s.extra n r → c ≡ config r → IsDrawn config octets s.key s.extra s.row n r (Ok d)
same_drawn s octets n r c d config reflects is stands = (subst (λ (x : ConfigParts). Reflects s.key.mode x octets) stands reflects, is)

pub again_drawn : (s : Sight) (octets : List ℕ) (n r : ℕ) (c : ConfigParts) (v : Verdict) (config : ℕ → ConfigParts) → IsJudged s.key.mode c octets (outcome_of v) → (v ≡ verdict.Reflect → ⊥) → (¬ (s.row ≡ r)) → c ≡ config r
    → IsDrawn config octets s.key s.extra s.row n r (Err (Changed s.row r))
again_drawn s octets n r c v config judged not other stands = (subst (λ (x : ConfigParts). ¬ Reflects s.key.mode x octets) stands (refused s.key.mode c octets v judged not), other, refl)
