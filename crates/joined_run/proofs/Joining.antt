-- The whole run: from the opening of the connection to the end.
use Rattle.std.proofs.Common.{◌≡◌, ℕ, suc, ◌+◌, ◌-◌, ◌*◌, ◌^◌, ◌<◌, ◌≤◌, Bool, true, false, eqb, List, [], ◌∷◌, ◌++◌, length, Option, Some, None, refl, sym, ap, subst, ◌∙◌, inl, inr, arith}
use Rattle.std.specs.Prelude.{All, cond, map}
use Rattle.std.proofs.lemmas.Bool.{eqb-true}
use Rattle.refl_types.proofs.BitFacts.{true_or_false}
use Rattle.refl_types.specs.declared.types.Endpoint.{Endpoint}
use Rattle.control_msgs.specs.Layout.{greeting, server_start, set_up}
use Rattle.control_msgs.specs.Modes.{is_open_mode}
use Rattle.net_io.specs.declared.desk.ConnKind.TheVariants as kinds
use Rattle.net_io.specs.declared.desk.DeskEvent.TheVariants as event
use Rattle.session_rule.specs.declared.seats.Table.{Table}
use Rattle.session_desk.specs.Book.{Book}
use Rattle.twamp_control.specs.declared.types.Message.{Message}
use Rattle.twamp_control.specs.declared.types.Message.TheVariants.{SetUp}
use Rattle.twamp_control.specs.declared.types.Ask.TheVariants as ask
use Rattle.twamp_control.specs.declared.types.Stage.TheVariants.{SettingUp, Idle}
use Rattle.twamp_control.specs.Connection.{Connection}
use Rattle.twamp_control.specs.Table.{Row, set_up_row}
use Rattle.twamp_control.proofs.Client.{set_up_whole, set_up_read}
use Rattle.twamp_control.proofs.Streams.{reading_at}
use Rattle.twamp_control.proofs.Feeding.{connection}
use Rattle.twamp_client.specs.declared.types.ClientState.TheVariants as client
use Rattle.twamp_client.specs.declared.types.Wish.{Wish}
use Rattle.twamp_client.specs.Client.{ControlClient, IsSound, Said, are_offered, asks, at_state, awaited, first_client, granted, held_none, is_over, modes_in, next_wish, says_nothing, told, unless_denied}
use Rattle.control_desk.specs.declared.sides.ControlSide.{ControlSide}
use Rattle.control_desk.specs.declared.sides.OpenConnection.{OpenConnection}
use Rattle.control_desk.specs.declared.sides.Side.{Side}
use Rattle.control_desk.specs.declared.sides.Side.TheVariants.{Control}
use Rattle.control_desk.specs.declared.counts.DeskEnd.{DeskEnd}
use Rattle.control_desk.specs.declared.counts.DeskTally.{DeskTally}
use Rattle.refl_types.specs.declared.types.Address.{Address}
use Rattle.std.proofs.lemmas.List.{append-nil}
use Rattle.control_desk.specs.declared.counts.DeskEnd.TheVariants as ends
use Rattle.control_desk.specs.Plan as plan
use Rattle.control_desk.specs.Plan.{Plan, Act, Leads}
use Rattle.control_desk.specs.State.{Setting, DeskState, side_in, with_connection, with_side}
use Rattle.control_desk.specs.Control.{asked_plan, message_plan, send_reply}
use Rattle.control_desk.specs.Run.{HasGone, begun, control_side, desk_plan, greet, is_refused, opened_plan, start_of}
use Rattle.control_desk.proofs.TalkFacts.{with_machine}
use Rattle.joined_desk.specs.declared.setup.JoinSetup.{JoinSetup}
use Rattle.joined_desk.specs.declared.setup.JoinStage.{JoinStage}
use Rattle.joined_desk.specs.declared.setup.JoinStage.TheVariants as at
use Rattle.joined_desk.specs.Joined.{JoinGoes, JoinState, after_hang_up, after_next, after_send, at_moment, given_in, octets_in, peer, pending_behind, stage_behind, stage_hung_up}
use Rattle.joined_run.specs.Sessions.{HasJoined, IsReady, ReservedSession, grant_for, started_from}
use Rattle.joined_run.proofs.Rests.{Rest, rest_hang_up, rest_send}
use Rattle.joined_run.proofs.Passing.{IsQuiet, Lasts, lasts_less, all_carried, spent_quiet, started_same, turn_with, was_hung_up}
use Rattle.joined_run.proofs.Meeting.{goes_on, is_gone, met, side_put}
use Rattle.joined_run.proofs.Reserving.{PortsFit}
use Rattle.joined_run.proofs.Replies.{greeting_len, greeting_modes, open_offered, sent_told, server_start_accept, server_start_len, stops}
use Rattle.std.specs.List.{filter}
use Rattle.twamp_client.specs.declared.types.Grant.{Grant}
use Rattle.twamp_client.specs.Client.{is_granted}
use Rattle.control_desk.specs.declared.own.OwnSession.{OwnSession}
use Rattle.joined_run.proofs.Owning.{Known, Owned}
use Rattle.joined_run.proofs.Asking.{Ended, asks_all, asks_alone, grant_own}
use Rattle.joined_run.proofs.Stopping.{reply_sent}

-- ---- modes

open_some : (mode : ℕ) → is_open_mode mode ≡ true → eqb mode 0 ≡ false
unfolding is_open_mode
open_some mode e = elim (true_or_false (eqb mode 0)) [
  | inl y ↦ let no : is_open_mode 0 ≡ true = ap is_open_mode (sym (eqb-true mode 0 y)) ∙ e in let z : false ≡ true = no in absurd cc
  | inr n ↦ n
]

side_new : (cs : List OpenConnection) (side : Side) → side_in cs 0 ≡ None → side_in (cs ++ record { number = 0; side = side } ∷ []) 0 ≡ Some side
side_new [] side e = refl
side_new (c ∷ cs) side e = elim (true_or_false (eqb c.number 0)) [
  | inl y ↦ let no = subst (λ (b : Bool). cond b (Some c.side) (side_in cs 0) ≡ None) y e in absurd cc
  | inr f ↦ rw f (side_new cs side (subst (λ (b : Bool). cond b (Some c.side) (side_in cs 0) ≡ None) f e))
]

pub ports_fit : (ls : List Endpoint) → All (λ l. l.port < 2 ^ 16) ls → PortsFit ls
ports_fit [] h = tt
ports_fit (l ∷ ls) h = (h 0 l (omega arith), ports_fit ls (λ k d lt. h (suc k) d (omega arith)))

module _ (t : Table) (fin : DeskEnd) (j' : JoinState) (b' : Book) (f : Setting) (fit : PortsFit f.locals) where
  -- the Set-Up-Response of a client that the server has greeted
  set_up_phase : (left : ℕ) (s : DeskState) (c : ControlSide) (start : ℕ) (d : ControlClient) (j : JoinState) (b : Book) (acts : List Act)
      → 0 < j.setup.piece → side_in s.connections 0 ≡ Some (Control c) → c.machine ≡ connection start (reading_at true []) SettingUp 0 0 → c.sessions ≡ []
      → IsSound d → d.answers ≡ [] → d.held ≡ [] → j.stage ≡ at.Carrying → j.client ≡ at_state d client.ServerStart → j.pending ≡ set_up d.mode → Lasts fin (164 + (112 * length d.wishes + 66)) left
      → Rest t fin (desk_plan f left 0 s) j j' b b' acts → Ended t fin j' b' f fit start d.mode [] d.wishes acts
  unfolding set_up
  set_up_phase left s c start d j b acts pieces has machine own sound no_answers held carrying is pending lasts r =
      let mode = d.mode in
      let w = set_up_whole mode in
      let m = met t fin j' b' f start SettingUp 0 0 refl (112 * length d.wishes + 66) (length (set_up mode)) left 0 s c true [] (set_up mode) j b acts lasts (omega arith) w.some pieces has machine (sym w.whole) carrying pending r in
      let more = goes_on f m.left m.state in
      let gone = is_gone f m.left m.state in
      let old : Connection = connection start (reading_at false []) SettingUp 0 0 in
      let e = with_machine c 0 old in
      let some = open_some mode sound.mode in
      let heard_it = subst (λ (x : Message). Rest t fin (message_plan f 0 0 more gone e (x ∷ [])) m.desk j' b b' m.others) (set_up_read mode sound.fits_mode) m.rest in
      let asked = subst (λ (z : Bool). Rest t fin (asked_plan f 0 0 more gone e (SetUp mode) (cond z ask.HangUp ask.Nothing)) m.desk j' b b' m.others) some heard_it in
      let new : Connection = connection start (reading_at false []) Idle mode 0 in
      let row : Row = record { reply = server_start 0 start; next = new } in
      let is_row : set_up_row old mode ≡ row = rw (some, sound.mode) refl in
      let replied = subst (λ (x : Row). Rest t fin (send_reply 0 more gone e x) m.desk j' b b' m.others) is_row asked in
      let a = reply_sent t fin j' b' more gone e row m.desk b m.others (omega (arith, server_start_len 0 start)) refl replied in
      let now : m.desk.client ≡ at_state d client.ServerStart = m.client ∙ is in
      let state = ap (λ (k : ControlClient). k.state) now in
      let said = sent_told m.desk (server_start 0 start) m.carrying m.pending (ap is_over state) (ap (λ (k : ControlClient). k.held) now ∙ held) (server_start_len 0 start ∙ sym (ap awaited state)) in
      let quiet = held_none d in
      let told_it : stops (told m.desk.client (server_start 0 start)) ≡ asks quiet =
      ap (λ (k : ControlClient). stops (told k (server_start 0 start))) now
      ∙ ap (λ (n : ℕ). stops (unless_denied (at_state quiet client.ServerStart) n (asks quiet))) (server_start_accept 0 start)
      ∙ asks_alone (next_wish quiet) (granted quiet) quiet in
      let c2 = record e { machine = new } in
      let q = asks_all t fin j' b' f fit start mode (length d.wishes) m.left (with_side m.state 0 (Control c2)) c2 0 quiet [] (after_send m.desk 0 (server_start 0 start)) b a.others (omega arith)
      (record {
        lasts = lasts_less fin (112 * length d.wishes + 66) (112 * (length d.wishes - length d.answers) + 66) m.left (omega arith) m.lasts;
        pieces = subst (λ (k : JoinSetup). 0 < k.piece) (sym (said.setup ∙ m.setup)) pieces;
        has = side_put m.state.connections 0 (Control c2) m.side m.has;
        machine = refl;
        own = subst (λ (os : List OwnSession). Owned b.reserved os) (sym own) tt;
        known = subst (λ (os : List OwnSession). Known [] os) (sym own) tt;
        carrying = said.carrying;
        asking = record { ports = sound.ports; sized = sound.sized; answers = sound.answers; within = omega (arith, ap length no_answers); held = refl };
        said = said.client ∙ ap (λ (x : Said). x.client) told_it;
        pending = said.pending ∙ ap (λ (x : Said). x.message) told_it;
        grants = ap (λ (l : List Grant). filter is_granted l) no_answers ∙ ap (λ (os : List OwnSession). map (grant_own f) os) (sym own);
        rest = a.rest;
      }) in
      record { granted_started = q.granted_started ∙ ap (map (grant_for f)) (sym (m.same [] ∙ started_same t fin j' b' [] m.others _ a.is)); done = q.done; same_wishes = q.same_wishes; ended = q.ended }

  -- ---- the opening

  -- what the client says to the greeting
  told_greeting : (mode : ℕ) (wishes : List Wish) → is_open_mode mode ≡ true → stops (told (first_client mode wishes) greeting) ≡ record { client = at_state (first_client mode wishes) client.ServerStart; message = set_up mode }
  told_greeting mode wishes open_ =
      let d = first_client mode wishes in
      let offered : are_offered (modes_in greeting) mode ≡ true = ap (λ (n : ℕ). are_offered n mode) greeting_modes ∙ open_offered mode open_ in
      let yes : Said = record { client = at_state d client.ServerStart; message = set_up mode } in
      ap (λ (z : Bool). stops (cond z yes (says_nothing d client.NoMode))) offered
      ∙ ap (λ (l : List ℕ). let x : Said = record { client = at_state d client.ServerStart; message = l } in x) (append-nil (set_up mode))

  -- the joined run, and that it has come to its end
  abbrev Ends : Setting → DeskState → List Act → ControlClient → ControlClient → Type 0
  Ends g s acts before after = HasJoined g s acts before after × (fin ≡ ends.End)

  greeted_phase : (m : ℕ) (s : DeskState) (local : Address) (mode : ℕ) (wishes : List Wish) (k : JoinState) (b : Book) (acts : List Act)
      → 0 < k.setup.piece → k.stage ≡ at.Carrying → k.pending ≡ [] → k.client ≡ first_client mode wishes → IsSound k.client → side_in s.connections 0 ≡ None → Lasts fin (164 + (112 * length wishes + 66)) m
      → Rest t fin (greet s 0 0 peer local (desk_plan f m 0) kinds.Control) k j' b b' acts → Ends f s acts k.client j'.client
  greeted_phase m s local mode wishes k b acts pieces carrying nothing is sound new lasts r =
      let d = first_client mode wishes in
      let side = control_side s 0 peer local in
      let next = desk_plan f m 0 (with_connection s 0 (Control side)) in
      let a = rest_send t fin j' b' 0 greeting next (plan.hang_up 0 (desk_plan f m 0 s)) k b acts r in
      let good : IsSound d = subst IsSound is sound in
      let state = ap (λ (c : ControlClient). c.state) is in
      let said = sent_told k greeting carrying nothing (ap is_over state) (ap (λ (c : ControlClient). c.held) is) (greeting_len ∙ sym (ap awaited state)) in
      let told_it : stops (told k.client greeting) ≡ record { client = at_state d client.ServerStart; message = set_up mode } = ap (λ (c : ControlClient). stops (told c greeting)) is ∙ told_greeting mode wishes good.mode in
      let q = set_up_phase m (with_connection s 0 (Control side)) side (start_of s.started 0) d (after_send k 0 greeting) b a.others
      (subst (λ (x : JoinSetup). 0 < x.piece) (sym said.setup) pieces) (side_new s.connections (Control side) new) refl refl good refl refl said.carrying
      (said.client ∙ ap (λ (x : Said). x.client) told_it) (said.pending ∙ ap (λ (x : Said). x.message) told_it) lasts a.rest in (
        record {
          started = q.granted_started ∙ ap (map (grant_for f)) (sym (started_same t fin j' b' [] acts _ a.is));
          wishes = q.same_wishes ∙ ap (λ (c : ControlClient). c.wishes) (sym is);
          done = λ _. q.done;
        },
        q.ended,
      )

  quiet_joined : (s : DeskState) (mode : ℕ) (wishes : List Wish) (k : JoinState) (acts : List Act) → k.client ≡ first_client mode wishes → (IsReady f s → ⊥) → IsQuiet t fin j' b' k acts → Ends f s acts k.client j'.client
  quiet_joined s mode wishes k acts is never q = (
    record {
      started = ap granted (q.client ∙ is) ∙ ap (map (grant_for f)) (sym (q.started []));
      wishes = ap (λ (c : ControlClient). c.wishes) q.client;
      done = λ h. absurd (never h);
    },
    q.ended,
  )

  opened_came : (m : ℕ) (s : DeskState) (local : Address) (mode : ℕ) (wishes : List Wish) (k : JoinState) (b : Book) (acts : List Act)
      → 0 < k.setup.piece → k.stage ≡ at.Carrying → k.pending ≡ [] → k.client ≡ first_client mode wishes → IsSound k.client → Lasts fin (164 + (112 * length wishes + 66)) m → (o : Option Side) → side_in s.connections 0 ≡ o
      → Rest t fin (opened_plan f s 0 0 kinds.Control peer local (desk_plan f m 0) o) k j' b b' acts → Ends f s acts k.client j'.client
  opened_came m s local mode wishes k b acts pieces carrying nothing is sound lasts (Some side) e r =
      quiet_joined s mode wishes k acts is (λ h. let no : None ≡ Some side = sym h.new ∙ e in absurd cc) (spent_quiet t fin j' b' f m 0 s k b acts (all_carried carrying nothing) (lasts_less fin (164 + (112 * length wishes + 66)) 2 m (omega arith) lasts) r)
  opened_came m s local mode wishes k b acts pieces carrying nothing is sound lasts None e r = elim (true_or_false (is_refused f s kinds.Control)) [
    | inl y ↦
        let h = rest_hang_up t fin j' b' 0 (desk_plan f m 0 s) k b acts (subst (λ (z : Bool). Rest t fin (cond z (plan.hang_up 0 (desk_plan f m 0 s)) (greet s 0 0 peer local (desk_plan f m 0) kinds.Control)) k j' b b' acts) y r) in
        let q = spent_quiet t fin j' b' f m 0 s (after_hang_up k 0) b h.others (was_hung_up (ap (stage_hung_up 0) carrying)) (lasts_less fin (164 + (112 * length wishes + 66)) 2 m (omega arith) lasts) h.rest in
        quiet_joined s mode wishes k acts is (λ g. let no : true ≡ false = sym y ∙ g.refused in absurd cc) (record { started = λ rs. started_same t fin j' b' rs acts _ h.is ∙ q.started rs; client = q.client; ended = q.ended })
    | inr n ↦ greeted_phase m s local mode wishes k b acts pieces carrying nothing is sound e lasts (subst (λ (z : Bool). Rest t fin (cond z (plan.hang_up 0 (desk_plan f m 0 s)) (greet s 0 0 peer local (desk_plan f m 0) kinds.Control)) k j' b b' acts) n r)
  ]

  joined_at : (s : DeskState) (acts others : List Act) (c : ControlClient) → ((rs : List ReservedSession) → started_from rs acts ≡ started_from rs others) → Ends f (begun s 0) others c j'.client → Ends f s acts c j'.client
  joined_at s acts others c same h = (
    record {
      started = h.0.started ∙ ap (map (grant_for f)) (sym (same []));
      wishes = h.0.wishes;
      done = λ g. h.0.done (record { refused = g.refused; new = g.new });
    },
    h.1,
  )

  pub opened_phase : (turns : ℕ) (s : DeskState) (mode : ℕ) (wishes : List Wish) (j : JoinState) (b : Book) (acts : List Act)
      → 0 < j.setup.piece → j.stage ≡ at.Unopened → j.pending ≡ [] → j.client ≡ first_client mode wishes → IsSound j.client → Lasts fin (164 + (112 * length wishes + 66) + 1) turns
      → Rest t fin (desk_plan f turns 0 s) j j' b b' acts → Ends f s acts j.client j'.client
  opened_phase turns s mode wishes j b acts pieces stage pending is sound lasts r =
      let u = at_moment 0 (event.Opened 0 kinds.Control peer j.setup.local) in
      let h = turn_with t fin j' b' f turns 0 s j b acts u [] (164 + (112 * length wishes + 66)) lasts r (ap (λ (g : JoinStage). given_in g j.setup j.pending) stage) (ap (λ (g : JoinStage). octets_in g j.setup j.pending) stage) in
      let k = after_next j in
      let carrying : k.stage ≡ at.Carrying = ap (λ (g : JoinStage). stage_behind g j.pending) stage in
      let nothing : k.pending ≡ [] = ap (λ (g : JoinStage). pending_behind g j.setup j.pending) stage ∙ pending in
      joined_at s acts h.1 j.client h.3 (opened_came h.0 (begun s 0) j.setup.local mode wishes k b h.1 pieces carrying nothing is sound h.2 (side_in s.connections 0) refl h.4)

-- of a whole run
pub joined : (t : Table) (f : Setting) (turns : ℕ) (s : DeskState) (j j' : JoinState) (b b' : Book) (tally : DeskTally) (mode : ℕ) (wishes : List Wish) → All (λ l. l.port < 2 ^ 16) f.locals
    → 0 < j.setup.piece → j.stage ≡ at.Unopened → j.pending ≡ [] → j.client ≡ first_client mode wishes → IsSound j.client
    → (run : HasGone JoinGoes t f turns s j j' b b' tally) → Lasts tally.end 2100 turns → HasJoined f s run.acts j.client j'.client × (tally.end ≡ ends.End)
joined t f turns s j j' b b' tally mode wishes ports pieces stage pending is sound run lasts =
    let few : length wishes ≤ 16 = subst (λ (c : ControlClient). length c.wishes ≤ 16) is sound.few in
    opened_phase t tally.end j' b' f (ports_fit f.locals ports) turns s mode wishes j b run.acts pieces stage pending is sound
    (lasts_less tally.end 2100 (164 + (112 * length wishes + 66) + 1) turns (omega (arith, few)) lasts) (record { leads = run.leads; gone = run.gone; made = run.made })
