-- What a datagram is answered, and the table after it, by the turn that was made for it.
use Rattle.std.proofs.Common.{◌≡◌, ⊎_elim, ℕ, List, [], ◌∷◌, ◌++◌, length, drop, map, true, false, sym, refl, ap, ◌∙◌, subst, Some}
use Rattle.std.proofs.lemmas.Option.{none-some}
use Rattle.refl_types.specs.declared.types.Key.{Key}
use Rattle.refl_types.specs.declared.config.ConfigParts.{ConfigParts}
use Rattle.refl_types.specs.declared.outcome.Silent.{Silent}
use Rattle.refl_types.specs.Same.{same_key}
use Rattle.refl_types.specs.HmacKey.{HasHmacKey}
use Rattle.refl_types.proofs.SameFacts.{key_same}
use Rattle.reflect_core.specs.declared.judging.Judged.{Judged}
use Rattle.reflect_core.specs.declared.judging.Judged.TheVariants as judged
use Rattle.reflect_core.specs.Judgement.{judgement}
use Rattle.session_world.specs.Answers.{Answer, missed}
use Rattle.session_world.specs.History.{Session}
use Rattle.session_world.specs.Desk.{config_at}
use Rattle.session_world.specs.OneOrder.{table_of}
use Rattle.session_world.specs.OneThread.{IsBetween, OneBound, HasTurned}
use Rattle.session_rule.specs.Seats.{joined_parts}
use Rattle.session_desk.specs.Book.{Book, steps_of}
use Rattle.session_desk.proofs.BoolFacts.{bool, some_same}
use Rattle.replay_format.specs.declared.code.UnsentCause.{UnsentCause}
use Rattle.replay_format.specs.declared.code.UnsentCause.TheVariants.{NoSession}
use Rattle.replay_format.specs.Records.{Datagram, Arrives}
use Rattle.replay_format.specs.Answers as answers
use Rattle.replay_format.specs.Answers.{Sent, Unsent, answer_octets}
use Rattle.replay_table.specs.Table.{Entry, Table, update, raised}
use Rattle.replay_table.specs.Reflection.{sending}
use Rattle.replay_table.specs.Outcomes.{answer, after, cause_of}
use Rattle.replay_table.proofs.AnswerFacts.{no_session, not_reflected, reflected, with_sessions}
use Rattle.shared_replay.specs.Tracks.{session_of_entry, entry_for, Tracks}
use Rattle.shared_replay.specs.Following.{Follows, query_for}
use Rattle.session_turn.specs.Turn.{Reflects}
use Rattle.shared_replay.specs.Turn.{IsEntryOf, NeverComes, StaysSilent, HasDrawn}
use Rattle.shared_replay.specs.Stands.{AreKeyed, HoldsTable, keys_of, IsArrived}
use Rattle.shared_replay.proofs.EntryFacts.{entry_here, entry_there}
use Rattle.shared_replay.proofs.KeyFacts.{keys_updated}
use Rattle.shared_replay.proofs.TurnFacts.{missed_here, Saw, saw_here, drew_here}

-- a session of mode Auth that is bound has an HMAC key
pub keyed_entry : (es : List Entry) (k : Key) (b : Session ConfigParts) → AreKeyed es → entry_for k es ≡ Some b → HasHmacKey k.mode b.config
keyed_entry [] k b keyed at = absurd (none-some b at)
keyed_entry (e ∷ es) k b keyed at = ⊎_elim
    (λ (y : same_key e.key k ≡ true). let s : session_of_entry e ≡ b = some_same (sym (entry_here e es k y) ∙ at) in
    subst (λ (x : Key × ConfigParts). HasHmacKey x.0.mode x.1) (λ i. (key_same e.key k y i, (s i).config)) keyed.0)
    (λ (y : same_key e.key k ≡ false). keyed_entry es k b keyed.1 (sym (entry_there e es k y) ∙ at))
    (bool (same_key e.key k))

-- the book after a turn
pub record IsSameBook (b c : Book) : Type 0 where
  pub size : c.size ≡ b.size
  pub live : c.live ≡ b.live
  pub reserved : c.reserved ≡ b.reserved
  pub rows : c.rows ≡ b.rows

-- an answer, and the book holds the table that the datagram leaves
pub record Leaves (t : Table) (d : Datagram) (a : answers.Answer) (c : Book) : Type 0 where
  pub answer_is : answer t (Arrives d) ≡ a
  pub holds : HoldsTable c (after t (Arrives d))

module _ (bound : OneBound) (t : Table) (d : Datagram) (b c : Book) (same : IsSameBook b c) (h : HoldsTable b t) (keyed : AreKeyed t.sessions)
    (between : IsBetween b.size (steps_of c) (joined_parts c.seat)) (xs : List (Answer ℕ))
    (turned : HasTurned (config_at (steps_of b)) (table_of b.size.slots (steps_of b) (joined_parts b.seat)) (table_of b.size.slots (steps_of c) (joined_parts c.seat)) xs) where
  holds : (es : List Entry) → Tracks (table_of b.size.slots (steps_of c) (joined_parts c.seat)) es → keys_of es ≡ keys_of t.sessions → HoldsTable c (with_sessions t es)
  holds es tracks keys = record {
    follows = subst (λ z. Follows z (steps_of c) (joined_parts c.seat) es) (sym same.size) (record { between = between; tracks = tracks });
    keys = ap (λ live. map (λ s. s.key) live) same.live ∙ h.keys ∙ sym keys;
    configs = ap (λ rows. rows.configs) same.rows ∙ h.configs;
  }

  leaves_by : (a : answers.Answer) (u : Table) → (answer t (Arrives d) ≡ a) × (after t (Arrives d) ≡ u) → HoldsTable c u → Leaves t d a c
  leaves_by a u l holds = record { answer_is = l.0; holds = subst (HoldsTable c) (sym l.1) holds }

  pub missed_leaves : xs ≡ missed (query_for d) ∷ [] → Leaves t d (Unsent NoSession) c
  missed_leaves e =
      let x = missed_here h.follows turned (query_for d) e in
      leaves_by (Unsent NoSession) t (no_session t d x.0) (holds t.sessions x.1 refl)

  judged_same : (k : Key) (x : _) (f : ConfigParts) (s : Saw h.follows turned (query_for d) k x f) (j : Judged) → judgement k.mode f d.octets ≡ j → judgement s.entry.key.mode s.entry.config d.octets ≡ j
  judged_same k x f s j e = (λ i. judgement (s.key i).mode (s.config i) d.octets) ∙ e

  pub silent_leaves : (cause : Silent) → StaysSilent (config_at (steps_of b)) xs d cause → Leaves t d (Unsent (cause_of cause)) c
  silent_leaves cause s =
      let w = s.saw in
      let f = config_at (steps_of b) w.row in
      let x = saw_here h.follows turned bound (query_for d) w.key w.extra w.row w.answers in
      leaves_by (Unsent (cause_of cause)) t (not_reflected t d x.0.entry cause x.0.found (judged_same w.key w.extra f x.0 (judged.Silent cause) s.silent)) (holds t.sessions x.1 refl)

  pub never : NeverComes (config_at (steps_of b)) xs d → ⊥
  never n = ⊎_elim
      (λ unkeyed. let w = unkeyed.0 in
      let x = (saw_here h.follows turned bound (query_for d) w.key w.extra w.row w.answers).0 in
      unkeyed.1 (subst (HasHmacKey w.key.mode) x.config (keyed_entry t.sessions w.key (session_of_entry x.entry) keyed x.bound)))
      (λ others. ⊎_elim
      (λ came. turned.never_late (query_for d) came.0 came.1 came.2 came.3)
      (λ changed. let w = changed.0 in
      let x = drew_here h.follows turned bound (query_for d) w.key w.extra w.row w.number w.drawn_row w.answers in
      changed.2 (subst (λ (f : ConfigParts). Reflects w.key.mode f d.octets) (sym x.saw.config ∙ x.drawn_config) changed.1))
      others)
      n

  -- the entry that was drawn from, and what its datagram is answered
  pub record Replies (w : HasDrawn xs d) : Type 0 where
    pub entry : Entry
    pub is : IsEntryOf entry w.key.mode w.extra (config_at (steps_of b) w.drawn_row) w.number
    pub leaves : Leaves t d (Sent (sending t.locals entry d)) c

  pub drawn_leaves : (w : HasDrawn xs d) → Reflects w.key.mode (config_at (steps_of b) w.row) d.octets → Replies w
  drawn_leaves w reflects =
      let f = config_at (steps_of b) w.row in
      let x = drew_here h.follows turned bound (query_for d) w.key w.extra w.row w.number w.drawn_row w.answers in
      let e = x.saw.entry in
      record {
        entry = e;
        is = record { mode = ap (λ (k : Key). k.mode) x.saw.key; extra = x.saw.extra; config = x.drawn_config; count = x.count };
        leaves = leaves_by (Sent (sending t.locals e d)) (with_sessions t (update e.key raised t.sessions))
            (reflected t d e x.saw.found (judged_same w.key w.extra f x.saw judged.Reflect reflects.0))
            (holds (update e.key raised t.sessions) x.tracks (keys_updated e.key raised (λ v. refl) t.sessions));
      }

-- ---- the octets

pub unsent_by : (t : Table) (d : Datagram) (c : Book) (cause : UnsentCause) (before written out : List ℕ) (n : ℕ) → Leaves t d (Unsent cause) c → written ≡ before
    → out ≡ answer_octets (Unsent cause) ++ drop n written → n ≡ length (answer_octets (Unsent cause)) → IsArrived t d c before out n
unsent_by t d c cause before written out n l same octets len = record {
  octets = octets ∙ ap (λ (o : List ℕ). answer_octets (Unsent cause) ++ drop n o) same ∙ ap (λ (x : answers.Answer). answer_octets x ++ drop n before) (sym l.answer_is);
  len = len ∙ ap (λ (x : answers.Answer). length (answer_octets x)) (sym l.answer_is);
  holds = l.holds;
}
