-- A datagram's turn from the split to the join, and what the datagram is answered by it.
use Rattle.std.proofs.Common.{◌≡◌, ⊎_elim, ℕ, ◌≤◌, List, ◌++◌, length, drop, Result, Ok, Err, sym, refl, ap, ◌∙◌, subst}
use Rattle.refl_types.specs.declared.types.Endpoint.{Endpoint}
use Rattle.refl_types.specs.declared.outcome.Silent.TheVariants as silents
use Rattle.session_world.specs.declared.steps.TableSize.{TableSize}
use Rattle.session_world.specs.Loads.{LoadedWords}
use Rattle.session_world.specs.Desk.{config_at}
use Rattle.session_world.specs.Answers.{worker_answers}
use Rattle.session_world.specs.OneOrder.{table_of}
use Rattle.session_world.specs.OneThread.{IsBetween, OneBound, HasTurned, TurnsTell}
use Rattle.session_rule.specs.declared.seats.Table as rule
use Rattle.session_rule.specs.declared.seats.WorkerSeat.{WorkerSeat}
use Rattle.session_rule.specs.Seats.{size_of, joined_parts, worker_number, worker_steps}
use Rattle.session_table.specs.Knowing.{Places}
use Rattle.session_desk.specs.Book.{Book, steps_of}
use Rattle.session_desk.specs.Parting.{HasSplit, IsJoined}
use Rattle.replay_format.specs.declared.code.UnsentCause.{UnsentCause}
use Rattle.replay_format.specs.declared.code.UnsentCause.TheVariants.{NoSession, Short, BadHmac, NoReply}
use Rattle.replay_format.specs.Records.{Datagram}
use Rattle.replay_format.specs.Answers as answers
use Rattle.replay_format.specs.Answers.{Sent, Unsent, answer_limit, answer_octets}
use Rattle.replay_table.specs.Table.{Table}
use Rattle.replay_table.specs.Reflection.{sending}
use Rattle.shared_replay.specs.Turn.{IsTurn, Turned}
use Rattle.shared_replay.specs.Stands.{IsDesk, AreKept, AreKeyed, HoldsTable, IsArrived}
use Rattle.shared_replay.proofs.TurnFacts.{IsMade, turn_made, turn_tells, turn_reads, turn_keeps}
use Rattle.shared_replay.proofs.ArrivalFacts.{IsSameBook, Leaves, missed_leaves, silent_leaves, never, drawn_leaves, unsent_by}

pub record IsWhole (t : rule.Table) (b m c : Book) (v w : WorkerSeat) : Type 0 where
  pub desk : IsDesk t b
  pub split : HasSplit t b m v
  pub number : worker_number w ≡ worker_number v
  pub joined : IsJoined t m w c

pub whole_by : {t : rule.Table} {b m c : Book} {v w : WorkerSeat} → IsDesk t b → HasSplit t b m v → worker_number w ≡ worker_number v → IsJoined t m w c → IsWhole t b m c v w
whole_by desk split number joined = record { desk = desk; split = split; number = number; joined = joined }

module _ {t : rule.Table} {b m c : Book} {v w : WorkerSeat} (whole : IsWhole t b m c v w) where
  size_is : size_of t ≡ b.size
  size_is = whole.desk.same.1

  same_book : IsSameBook b c
  same_book = record {
    size = ap (λ (x : Book). x.size) whole.joined.book ∙ ap (λ (x : Book). x.size) whole.split.book;
    live = ap (λ (x : Book). x.live) whole.joined.book ∙ ap (λ (x : Book). x.live) whole.split.book;
    reserved = ap (λ (x : Book). x.reserved) whole.joined.book ∙ ap (λ (x : Book). x.reserved) whole.split.book;
    rows = ap (λ (x : Book). x.rows) whole.joined.book ∙ ap (λ (x : Book). x.rows) whole.split.book;
  }

  made : IsMade b.size (steps_of b) (joined_parts b.seat) (steps_of c) (joined_parts c.seat) (worker_steps w)
  made = subst (λ (z : TableSize). IsMade z (steps_of b) (joined_parts b.seat) (steps_of c) (joined_parts c.seat) (worker_steps w)) size_is
      (turn_made t b.seat m.seat c.seat v w whole.split.seat whole.number whole.joined.seat)

  module _ {old new : Places} {locals : List Endpoint} {d : Datagram} {before written : List ℕ} {r : Result ℕ UnsentCause} (words : LoadedWords) (kept : AreKept (steps_of b) old) (turned : Turned (size_of t) old new (worker_steps w) locals d before written r) where
    turned_here : Turned b.size old new (worker_steps w) locals d before written r
    turned_here = subst (λ (z : TableSize). Turned z old new (worker_steps w) locals d before written r) size_is turned

    pub kept_after : AreKept (steps_of c) new
    kept_after = turn_keeps made words whole.desk.between.within old new kept turned_here.kept

    turn_at : IsTurn (config_at (steps_of b)) (worker_answers b.size.slots (worker_steps w)) locals d before written r
    turn_at = turned_here.turn (config_at (steps_of b)) (kept (config_at (steps_of b)) (λ row whole_row. refl)) (turn_reads made words whole.desk.between.within)

    turn_as : (q : Result ℕ UnsentCause) → r ≡ q → IsTurn (config_at (steps_of b)) (worker_answers b.size.slots (worker_steps w)) locals d before written q
    turn_as q e = subst (IsTurn (config_at (steps_of b)) (worker_answers b.size.slots (worker_steps w)) locals d before written) e turn_at

    pub sent_fits : (n : ℕ) → r ≡ Ok n → n ≤ answer_limit
    sent_fits n e = (turn_as (Ok n) e).sent.fits

    module _ (tells : TurnsTell) (bound : OneBound) (u : Table) (h : HoldsTable b u) (keyed : AreKeyed u.sessions) where
      told : IsBetween b.size (steps_of c) (joined_parts c.seat) × HasTurned (config_at (steps_of b)) (table_of b.size.slots (steps_of b) (joined_parts b.seat)) (table_of b.size.slots (steps_of c) (joined_parts c.seat)) (worker_answers b.size.slots (worker_steps w))
      told = turn_tells made tells whole.desk.between

      pub sent_arrives : (n : ℕ) → r ≡ Ok n → locals ≡ u.locals → IsArrived u d c before written n
      sent_arrives n e own =
          let x = turn_as (Ok n) e in
          let y = drawn_leaves bound u d b c same_book h keyed told.0 (worker_answers b.size.slots (worker_steps w)) told.1 x.drawn x.reflects in
          let l = y.leaves in
          record {
            octets = x.sent.octets y.entry y.is ∙ ap (λ (ls : List Endpoint). answer_octets (Sent (sending ls y.entry d)) ++ drop n before) own ∙ ap (λ (a : answers.Answer). answer_octets a ++ drop n before) (sym l.answer_is);
            len = x.sent.len y.entry y.is ∙ ap (λ (ls : List Endpoint). length (answer_octets (Sent (sending ls y.entry d)))) own ∙ ap (λ (a : answers.Answer). length (answer_octets a)) (sym l.answer_is);
            holds = l.holds;
          }

      unsent_leaves : (cause : UnsentCause) → r ≡ Err cause → (written ≡ before) × Leaves u d (Unsent cause) c
      unsent_leaves NoSession e =
          let x = turn_as (Err NoSession) e in (
            x.0,
            ⊎_elim
                (λ missed. missed_leaves bound u d b c same_book h keyed told.0 (worker_answers b.size.slots (worker_steps w)) told.1 missed)
                (λ other. absurd (never bound u d b c same_book h keyed told.0 (worker_answers b.size.slots (worker_steps w)) told.1 other))
                x.1,
          )
      unsent_leaves Short e =
          let x = turn_as (Err Short) e in (x.0, silent_leaves bound u d b c same_book h keyed told.0 (worker_answers b.size.slots (worker_steps w)) told.1 silents.Short x.1)
      unsent_leaves BadHmac e =
          let x = turn_as (Err BadHmac) e in (x.0, silent_leaves bound u d b c same_book h keyed told.0 (worker_answers b.size.slots (worker_steps w)) told.1 silents.BadHmac x.1)
      unsent_leaves NoReply e =
          let x = turn_as (Err NoReply) e in (x.0, silent_leaves bound u d b c same_book h keyed told.0 (worker_answers b.size.slots (worker_steps w)) told.1 silents.NoReply x.1)

      pub unsent_arrives : (cause : UnsentCause) (out : List ℕ) (n : ℕ) → r ≡ Err cause → out ≡ answer_octets (Unsent cause) ++ drop n written → n ≡ length (answer_octets (Unsent cause)) → IsArrived u d c before out n
      unsent_arrives cause out n e octets len = let x = unsent_leaves cause e in unsent_by u d c cause before written out n x.1 x.0 octets len
