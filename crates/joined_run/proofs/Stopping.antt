-- The client's Start-Sessions and Stop-Sessions, and what is sent as a reply.
use Rattle.std.proofs.Common.{◌≡◌, ℕ, ◌<◌, Bool, true, false, eqb, List, [], ◌∷◌, ◌++◌, length, Some, refl, sym, ap, subst, ◌∙◌, arith}
use Rattle.std.specs.Prelude.{cond, map}
use Rattle.std.specs.Int.{w32, from_be_bytes}
use Rattle.std.proofs.lemmas.List.{append-nil}
use Rattle.octet_format.specs.Octets.{field}
use Rattle.control_msgs.specs.Layout.{start_ack, start_sessions, stop_sessions}
use Rattle.net_io.specs.Desk.{sent}
use Rattle.session_rule.specs.declared.seats.Table.{Table}
use Rattle.session_desk.specs.Book.{Book}
use Rattle.twamp_control.specs.declared.types.Message.{Message}
use Rattle.twamp_control.specs.declared.types.Message.TheVariants.{Start, Stop}
use Rattle.twamp_control.specs.declared.types.DeskAnswer.TheVariants.{Done}
use Rattle.twamp_control.specs.declared.types.Stage.TheVariants.{Idle, Started, HungUp}
use Rattle.twamp_control.specs.Stream.{message_of}
use Rattle.twamp_control.specs.Connection.{Connection, is_hung_up}
use Rattle.twamp_control.specs.Table.{Row}
use Rattle.twamp_control.proofs.Client.{start_whole, start_read, stop_whole}
use Rattle.twamp_control.proofs.Streams.{reading_at}
use Rattle.twamp_control.proofs.Feeding.{connection}
use Rattle.twamp_client.specs.declared.types.ClientState.TheVariants as client
use Rattle.twamp_client.specs.Client.{ControlClient, Said, at_state, awaited, granted, held_none, is_over, says_nothing, told, unless_denied}
use Rattle.control_desk.specs.declared.sides.ControlSide.{ControlSide}
use Rattle.control_desk.specs.declared.sides.Side.TheVariants.{Control}
use Rattle.control_desk.specs.Plan as plan
use Rattle.control_desk.specs.declared.counts.DeskEnd.{DeskEnd}
use Rattle.control_desk.specs.declared.counts.DeskEnd.TheVariants as ends
use Rattle.control_desk.specs.Plan.{Plan, Act}
use Rattle.control_desk.specs.State.{Setting, DeskState, side_in, with_side, without}
use Rattle.control_desk.specs.Control.{behind_reply, end_all, hang_up_plan, message_plan, reply_plan, send_reply, send_some, stage_behind, without_own}
use Rattle.control_desk.specs.Run.{desk_plan}
use Rattle.control_desk.proofs.TalkFacts.{with_machine}
use Rattle.joined_desk.specs.declared.setup.JoinSetup.{JoinSetup}
use Rattle.joined_desk.specs.declared.setup.JoinStage.TheVariants as at
use Rattle.joined_desk.specs.Joined.{JoinState, after_hang_up, after_send, stage_hung_up}
use Rattle.joined_run.specs.Sessions.{ReservedSession, StartedSession, started_from}
use Rattle.joined_run.proofs.Rests.{Rest, AfterEntry, rest_send, rest_hang_up}
use Rattle.joined_run.proofs.Passing.{IsQuiet, Lasts, all_carried, was_hung_up, ends_pass, spent_quiet, started_same, stops_pass}
use Rattle.joined_run.proofs.Meeting.{goes_on, is_gone, met, side_put}
use Rattle.joined_run.proofs.Owning.{Known, Owned, started_of, starts_all}
use Rattle.joined_run.proofs.Replies.{sent_told, start_ack_accept, start_ack_len, stops}

-- ---- a reply

send_more : (n : ℕ) (octets : List ℕ) (p q : Plan) → 0 < length octets → send_some n octets p q ≡ plan.send n octets p q
send_more n [] p q lt = absurd (omega arith)
send_more n (b ∷ octets) p q lt = refl

module _ (t : Table) (fin : DeskEnd) (j' : JoinState) (b' : Book) where
  pub reply_sent : (more : ControlSide → Plan) (gone : Plan) (c : ControlSide) (row : Row) (j : JoinState) (b : Book) (acts : List Act) → 0 < length row.reply → is_hung_up row.next.stage ≡ false
      → Rest t fin (send_reply 0 more gone c row) j j' b b' acts → AfterEntry t fin j' b' (sent 0 row.reply) (more (record c { machine = row.next })) (after_send j 0 row.reply) b acts
  reply_sent more gone c row j b acts some going r =
      let failed = hang_up_plan 0 (stage_behind c row) c.sessions gone in
      let behind : behind_reply 0 more gone c row ≡ more (record c { machine = row.next }) = ap (λ (z : Bool). cond z (hang_up_plan 0 (stage_behind c row) c.sessions gone) (more (record c { machine = row.next }))) going in
      rest_send t fin j' b' 0 row.reply (more (record c { machine = row.next })) failed j b acts
      (subst (λ (p : Plan). Rest t fin p j j' b b' acts) (send_more 0 row.reply (behind_reply 0 more gone c row) failed some ∙ ap (λ (p : Plan). plan.send 0 row.reply p failed) behind) r)

-- ---- Stop-Sessions

stop_reads : (k : ℕ) → message_of false (stop_sessions k) ≡ Stop (from_be_bytes w32 (field 4 4 (stop_sessions k)))
unfolding stop_sessions
stop_reads k = refl

-- how a connection goes on behind a Stop-Sessions with the right number, or another
abbrev stopped_row : Connection → Bool → Row
stopped_row m z = record { reply = []; next = record m { stage = cond z Idle HungUp; sessions = 0 } }

module _ (t : Table) (fin : DeskEnd) (j' : JoinState) (b' : Book) (f : Setting) (start mode sessions : ℕ) where
  abbrev started_machine : Connection
  started_machine = connection start (reading_at false []) Started mode sessions

  replied_quiet : (left : ℕ) (s : DeskState) (c : ControlSide) (z : Bool) (j : JoinState) (b : Book) (acts : List Act) → c.machine ≡ started_machine → j.stage ≡ at.Carrying → j.pending ≡ [] → Lasts fin 2 left
      → Rest t fin (send_reply 0 (goes_on f left s) (is_gone f left s) c (stopped_row started_machine z)) j j' b b' acts → IsQuiet t fin j' b' j acts
  replied_quiet left s c true j b acts machine carrying none lasts r = spent_quiet t fin j' b' f left 0 (with_side s 0 (Control (record c { machine = record started_machine { stage = Idle; sessions = 0 } }))) j b acts (all_carried carrying none) lasts r
  replied_quiet left s c false j b acts machine carrying none lasts r =
      let stage = stage_behind c (stopped_row started_machine false) in
      let h = rest_hang_up t fin j' b' 0 (end_all stage c.sessions (is_gone f left s)) j b acts r in
      let p = ends_pass t fin j' b' stage c.sessions (is_gone f left s) (after_hang_up j 0) b h.others h.rest in
      let q = spent_quiet t fin j' b' f left 0 (without s 0) (after_hang_up j 0) p.book p.others (was_hung_up (ap (stage_hung_up 0) carrying)) lasts p.rest in
      record { started = λ rs. started_same t fin j' b' rs acts _ h.is ∙ p.same rs ∙ q.started rs; client = q.client; ended = q.ended }

  pub stop_quiet : (left : ℕ) (s : DeskState) (c : ControlSide) (k : ℕ) (j : JoinState) (b : Book) (acts : List Act) → 0 < j.setup.piece → side_in s.connections 0 ≡ Some (Control c) → c.machine ≡ started_machine → j.stage ≡ at.Carrying → j.pending ≡ stop_sessions k → Lasts fin 34 left
      → Rest t fin (desk_plan f left 0 s) j j' b b' acts → IsQuiet t fin j' b' j acts
  unfolding stop_sessions
  stop_quiet left s c k j b acts pieces has machine carrying pending lasts r =
      let w = stop_whole k in
      let m = met t fin j' b' f start Started mode sessions refl 2 (length (stop_sessions k)) left 0 s c false [] (stop_sessions k) j b acts lasts (omega arith) w.some pieces has machine (sym w.whole) carrying pending r in
      let d = with_machine c 0 started_machine in
      let number = from_be_bytes w32 (field 4 4 (stop_sessions k)) in
      let asked = subst (λ (x : Message). Rest t fin (message_plan f 0 0 (goes_on f m.left m.state) (is_gone f m.left m.state) d (x ∷ [])) m.desk j' b b' m.others) (stop_reads k) m.rest in
      let p = stops_pass t fin j' b' Started 0 c.sessions (reply_plan 0 0 (goes_on f m.left m.state) (is_gone f m.left m.state) (Stop number) (without_own d) Done) m.desk b m.others asked in
      let q = replied_quiet m.left m.state (without_own d) (eqb number sessions) m.desk p.book p.others refl m.carrying m.pending m.lasts p.rest in
      record { started = λ rs. m.same rs ∙ p.same rs ∙ q.started rs; client = q.client ∙ m.client; ended = q.ended }

-- ---- Start-Sessions

module _ (t : Table) (fin : DeskEnd) (j' : JoinState) (b' : Book) (f : Setting) (start mode sessions : ℕ) where
  -- the sessions of the connection were started, and those alone; the client was stopped
  pub record AreStartedNow (rs : List ReservedSession) (c : ControlSide) (d : ControlClient) (acts : List Act) : Type 0 where
    pub started : started_from rs acts ≡ map started_of c.sessions
    pub client : j'.client ≡ at_state (held_none d) client.Stopped
    pub ended : fin ≡ ends.End

  pub start_phase : (left : ℕ) (s : DeskState) (c : ControlSide) (d : ControlClient) (rs : List ReservedSession) (j : JoinState) (b : Book) (acts : List Act)
      → 0 < j.setup.piece → side_in s.connections 0 ≡ Some (Control c) → c.machine ≡ connection start (reading_at false []) Idle mode sessions → Owned b.reserved c.sessions → Known rs c.sessions
      → j.stage ≡ at.Carrying → j.pending ≡ start_sessions → j.client ≡ at_state d client.StartAck → d.held ≡ [] → Lasts fin 66 left
      → Rest t fin (desk_plan f left 0 s) j j' b b' acts → AreStartedNow rs c d acts
  unfolding start_sessions
  start_phase left s c d rs j b acts pieces has machine own known carrying pending is held lasts r =
      let w = start_whole in
      let m = met t fin j' b' f start Idle mode sessions refl 34 (length start_sessions) left 0 s c false [] start_sessions j b acts lasts (omega arith) w.some pieces has machine (sym w.whole) carrying pending r in
      let more = goes_on f m.left m.state in
      let gone = is_gone f m.left m.state in
      let e = with_machine c 0 (connection start (reading_at false []) Idle mode sessions) in
      let asked = subst (λ (x : Message). Rest t fin (message_plan f 0 0 more gone e (x ∷ [])) m.desk j' b b' m.others) start_read m.rest in
      let p = starts_all t fin j' b' rs c.sessions (reply_plan 0 0 more gone Start e Done) m.desk b m.others own known asked in
      let row : Row = record { reply = start_ack 0; next = connection start (reading_at false []) Started mode sessions } in
      let a = reply_sent t fin j' b' more gone e row m.desk p.book p.others (omega (arith, start_ack_len 0)) refl p.rest in
      let now : m.desk.client ≡ at_state d client.StartAck = m.client ∙ is in
      let state : m.desk.client.state ≡ client.StartAck = ap (λ (k : ControlClient). k.state) now in
      let said = sent_told m.desk (start_ack 0) m.carrying m.pending (ap is_over state) (ap (λ (k : ControlClient). k.held) now ∙ held) (start_ack_len 0 ∙ sym (ap awaited state)) in
      let told_it : told m.desk.client (start_ack 0) ≡ says_nothing (held_none d) client.Started = ap (λ (k : ControlClient). told k (start_ack 0)) now ∙ ap (λ (n : ℕ). unless_denied (at_state (held_none d) client.StartAck) n (says_nothing (held_none d) client.Started)) (start_ack_accept 0) in
      let c2 = record e { machine = connection start (reading_at false []) Started mode sessions } in
      let q = stop_quiet t fin j' b' f start mode sessions m.left (with_side m.state 0 (Control c2)) c2 (length (granted d)) (after_send m.desk 0 (start_ack 0)) p.book a.others
      (subst (λ (k : JoinSetup). 0 < k.piece) (sym (said.setup ∙ m.setup)) pieces) (side_put m.state.connections 0 (Control c2) m.side m.has) refl said.carrying (said.pending ∙ ap (λ (x : Said). (stops x).message) told_it) m.lasts a.rest in
      record {
        started = m.same rs ∙ p.started ∙ ap (λ (l : List StartedSession). map started_of c.sessions ++ l) (started_same t fin j' b' rs p.others _ a.is ∙ q.started rs) ∙ append-nil (map started_of c.sessions);
        client = q.client ∙ said.client ∙ ap (λ (x : Said). (stops x).client) told_it;
        ended = q.ended;
      }
