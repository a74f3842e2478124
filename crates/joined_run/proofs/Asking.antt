-- The wishes of the client, one after the other, until the sessions are started or none was granted.
use Rattle.std.proofs.Common.{◌≡◌, ℕ, zero, suc, ◌+◌, ◌-◌, ◌*◌, ◌<◌, ◌≤◌, Bool, true, false, ◌&&◌, List, [], ◌∷◌, ◌++◌, length, replicate, Option, Some, None, Ok, refl, sym, ap, subst, ◌∙◌, inl, inr, arith}
use Rattle.std.specs.Prelude.{All, cond, map}
use Rattle.std.specs.List.{list_all, slice_get}
use Rattle.std.proofs.lemmas.List.{append-nil, length-append, map-append}
use Rattle.std.proofs.lemmas.List.Elements.{filter-append}
use Rattle.std.proofs.lemmas.List.Folds.{list_all-append}
use Rattle.std.proofs.lemmas.Option.{slice_get_cases, get_or_from_slice_get}
use Rattle.octet_format.specs.Octets.{field}
use Rattle.octet_format.proofs.Fields.{length-field}
use Rattle.control_msgs.specs.Codes.{accept_code}
use Rattle.control_msgs.specs.Layout.{accept_session, request_message, start_sessions}
use Rattle.control_msgs.specs.Modes.{reflects_octets}
use Rattle.control_msgs.specs.Reads.{request_read}
use Rattle.control_msgs.proofs.ReadAgain.{read_again}
use Rattle.session_rule.specs.declared.seats.Table.{Table}
use Rattle.session_desk.specs.declared.session.Session.{Session}
use Rattle.session_desk.specs.Book.{Book}
use Rattle.twamp_control.specs.declared.types.Message.{Message}
use Rattle.twamp_control.specs.declared.types.Message.TheVariants.{Request}
use Rattle.twamp_control.specs.declared.types.Ask.{Ask}
use Rattle.twamp_control.specs.declared.types.DeskAnswer.{DeskAnswer}
use Rattle.twamp_control.specs.declared.types.Stage.TheVariants.{Idle}
use Rattle.twamp_control.specs.Connection.{Connection}
use Rattle.twamp_control.specs.Table.{Row, ask_for, reflected, session_id, with_session}
use Rattle.twamp_control.proofs.Client.{request_whole}
use Rattle.twamp_control.proofs.Client as written
use Rattle.twamp_control.proofs.Streams.{reading_at}
use Rattle.twamp_control.proofs.Feeding.{connection}
use Rattle.twamp_client.specs.declared.types.Wish.{Wish}
use Rattle.twamp_client.specs.declared.types.Grant.{Grant}
use Rattle.twamp_client.specs.declared.types.Grant.TheVariants as grant
use Rattle.twamp_client.specs.declared.types.ClientState.TheVariants as client
use Rattle.twamp_client.specs.Client.{ControlClient, IsSized, Said, answer_in, asks, at_state, awaited, grant_of, granted, held_none, is_answer, is_granted, is_over, next_message, next_state, next_wish, request_of, told, with_answer}
use Rattle.twamp_client.proofs.Writes.{length-request}
use Rattle.control_desk.specs.declared.own.OwnSession.{OwnSession}
use Rattle.control_desk.specs.declared.sides.ControlSide.{ControlSide}
use Rattle.control_desk.specs.declared.sides.Side.TheVariants.{Control}
use Rattle.control_desk.specs.declared.counts.DeskEnd.{DeskEnd}
use Rattle.control_desk.specs.declared.counts.DeskEnd.TheVariants as ends
use Rattle.control_desk.specs.Plan.{Act}
use Rattle.control_desk.specs.State.{Setting, DeskState, side_in, with_side}
use Rattle.control_desk.specs.Control.{asked_plan, message_plan, reply_plan, with_own}
use Rattle.control_desk.specs.Run.{desk_plan}
use Rattle.control_desk.proofs.TalkFacts.{with_machine}
use Rattle.joined_desk.specs.declared.setup.JoinSetup.{JoinSetup}
use Rattle.joined_desk.specs.declared.setup.JoinStage.TheVariants as at
use Rattle.joined_desk.specs.Joined.{JoinState, after_send}
use Rattle.joined_run.specs.Sessions.{IsDone, ReservedSession, grant_for, started_from}
use Rattle.joined_run.proofs.Rests.{Rest}
use Rattle.joined_run.proofs.Passing.{Lasts, lasts_less, all_carried, spent_quiet, started_same}
use Rattle.joined_run.proofs.Meeting.{goes_on, is_gone, met, side_put}
use Rattle.joined_run.proofs.Reserving.{PortsFit, answers, refuses, takes}
use Rattle.joined_run.proofs.Owning.{Known, Owned, known_more, no_own_in, own_more, reserved_of, started_of}
use Rattle.joined_run.proofs.Replies.{IsTold, accept_session_len, granted_read, refused_read, sent_told, stops}
use Rattle.joined_run.proofs.Stopping.{reply_sent, start_phase}

-- ---- a request

request_ok : (w : Wish) → IsSized w → 0 < w.sender_port → request_read (request_message (request_of w)) ≡ Ok (request_of w)
request_ok w s port =
    read_again (request_of w) (record { sender_port = port; sender = tt; receiver = tt })
    (record { sender_port = s.sender_port; receiver_port = s.receiver_port; reflect = s.reflect; timeout = s.timeout; octets = s.octets; sender = refl; receiver = refl })

reflected_len : (mode : ℕ) (octets : List ℕ) → length octets ≡ 112 → length (reflected mode octets) ≡ 2
reflected_len mode octets len = either (reflects_octets mode) where
  either : (b : Bool) → length (cond b (field 88 2 octets) (replicate 2 0)) ≡ 2
  either true = length-field 88 2 octets (omega (arith, len))
  either false = refl

-- ---- the client's side

-- what is asked next never starts the client
pub asks_alone : (w : Option Wish) (gs : List Grant) (d : ControlClient) → stops (record { client = at_state d (next_state w gs); message = next_message w gs }) ≡ record { client = at_state d (next_state w gs); message = next_message w gs }
asks_alone (Some w) gs d = ap (λ (l : List ℕ). let s : Said = record { client = at_state d client.Accepting; message = l } in s) (append-nil (request_message (request_of w)))
asks_alone None [] d = refl
asks_alone None (g ∷ gs) d = ap (λ (l : List ℕ). let s : Said = record { client = at_state d client.StartAck; message = l } in s) (append-nil start_sessions)

answered_all : (answers : List Grant) (wishes : List Wish) → list_all is_answer answers ≡ true → length answers ≡ length wishes → (i : ℕ) → i < length wishes → (g : Grant) × (grant_of (slice_get answers i) (slice_get wishes i) ≡ Some g) × (is_answer g ≡ true)
answered_all [] [] e len i lt = absurd (omega arith)
answered_all [] (w ∷ wishes) e len i lt = absurd (omega (arith, len))
answered_all (a ∷ answers) [] e len i lt = absurd (omega (arith, len))
answered_all (a ∷ answers) (w ∷ wishes) e len zero lt = (a, refl, first (is_answer a) (list_all is_answer answers) e) where
  first : (p q : Bool) → (p && q) ≡ true → p ≡ true
  first true q e = refl
  first false q e = absurd cc
answered_all (a ∷ answers) (w ∷ wishes) e len (suc i) lt = answered_all answers wishes (second (is_answer a) (list_all is_answer answers) e) (omega (arith, len)) i (omega arith) where
  second : (p q : Bool) → (p && q) ≡ true → q ≡ true
  second true q e = e
  second false q e = absurd cc

-- what a client keeps while it asks
pub record IsAsking (d : ControlClient) : Type 0 where
  pub ports : All (λ w. 0 < w.sender_port) d.wishes
  pub sized : All IsSized d.wishes
  pub answers : list_all is_answer d.answers ≡ true
  pub within : length d.answers ≤ length d.wishes
  pub held : d.held ≡ []

asking_more : (d : ControlClient) (a : Grant) → IsAsking d → is_answer a ≡ true → length d.answers < length d.wishes → IsAsking (with_answer (held_none d) a)
asking_more d a k e lt = record {
  ports = k.ports;
  sized = k.sized;
  answers = list_all-append is_answer d.answers (a ∷ []) ∙ both (list_all is_answer d.answers) (is_answer a) k.answers e;
  within = omega (arith, length-append d.answers (a ∷ []));
  held = refl;
} where
  both : (x y : Bool) → x ≡ true → y ≡ true → (x && (y && true)) ≡ true
  both true true e f = refl
  both true false e f = absurd cc
  both false y e f = absurd cc

-- the grant of a session that is reserved now
abbrev pub grant_own : Setting → OwnSession → Grant
grant_own f o = grant_for f (started_of o)

map_started : (f : Setting) (os : List OwnSession) → map (grant_own f) os ≡ map (grant_for f) (map started_of os)
map_started f [] = refl
map_started f (o ∷ os) = ap (λ (l : List Grant). grant_own f o ∷ l) (map_started f os)

module _ (t : Table) (fin : DeskEnd) (j' : JoinState) (b' : Book) (f : Setting) (ports_fit : PortsFit f.locals) (start mode : ℕ) where
  -- the client has come to its end, and was granted just what was started
  pub record Ended (rs : List ReservedSession) (wishes : List Wish) (acts : List Act) : Type 0 where
    pub granted_started : granted j'.client ≡ map (grant_for f) (started_from rs acts)
    pub done : IsDone j'.client
    pub same_wishes : j'.client.wishes ≡ wishes
    pub ended : fin ≡ ends.End

  ended_on : (rs qs : List ReservedSession) (wishes : List Wish) (acts others : List Act) → started_from rs acts ≡ started_from qs others → Ended qs wishes others → Ended rs wishes acts
  ended_on rs qs wishes acts others e h = record { granted_started = h.granted_started ∙ ap (map (grant_for f)) (sym e); done = h.done; same_wishes = h.same_wishes; ended = h.ended }

  pub record AtRest (left : ℕ) (s : DeskState) (c : ControlSide) (sessions : ℕ) (d : ControlClient) (rs : List ReservedSession) (j : JoinState) (b : Book) (acts : List Act) : Type 0 where
    pub lasts : Lasts fin (112 * (length d.wishes - length d.answers) + 66) left
    pub pieces : 0 < j.setup.piece
    pub has : side_in s.connections 0 ≡ Some (Control c)
    pub machine : c.machine ≡ connection start (reading_at false []) Idle mode sessions
    pub own : Owned b.reserved c.sessions
    pub known : Known rs c.sessions
    pub carrying : j.stage ≡ at.Carrying
    pub asking : IsAsking d
    pub said : j.client ≡ (asks d).client
    pub pending : j.pending ≡ (asks d).message
    pub grants : granted d ≡ map (grant_own f) c.sessions
    pub rest : Rest t fin (desk_plan f left 0 s) j j' b b' acts

  -- behind the last wish
  asked_all : (left : ℕ) (s : DeskState) (c : ControlSide) (sessions : ℕ) (d : ControlClient) (rs : List ReservedSession) (j : JoinState) (b : Book) (acts : List Act) → AtRest left s c sessions d rs j b acts
      → next_wish d ≡ None → length d.answers ≡ length d.wishes → (gs : List Grant) → granted d ≡ gs → Ended rs d.wishes acts
  asked_all left s c sessions d rs j b acts h none len [] e =
      let is : j.client ≡ at_state d client.NoSession = h.said ∙ ap (λ (w : Option Wish). at_state d (next_state w (granted d))) none ∙ ap (λ (l : List Grant). at_state d (next_state None l)) e in
      let nothing : j.pending ≡ [] = h.pending ∙ ap (λ (w : Option Wish). next_message w (granted d)) none ∙ ap (next_message None) e in
      let q = spent_quiet t fin j' b' f left 0 s j b acts (all_carried h.carrying nothing) (lasts_less fin _ 2 left (omega arith) h.lasts) h.rest in
      let now : j'.client ≡ at_state d client.NoSession = q.client ∙ is in
      record {
        granted_started = ap granted now ∙ e ∙ ap (map (grant_for f)) (sym (q.started rs));
        done = subst IsDone (sym now) (record { state = inr refl; answered = answered_all d.answers d.wishes h.asking.answers len });
        same_wishes = ap (λ (k : ControlClient). k.wishes) now;
        ended = q.ended;
      }
  asked_all left s c sessions d rs j b acts h none len (g ∷ gs) e =
      let is : j.client ≡ at_state d client.StartAck = h.said ∙ ap (λ (w : Option Wish). at_state d (next_state w (granted d))) none ∙ ap (λ (l : List Grant). at_state d (next_state None l)) e in
      let message : j.pending ≡ start_sessions = h.pending ∙ ap (λ (w : Option Wish). next_message w (granted d)) none ∙ ap (next_message None) e in
      let q = start_phase t fin j' b' f start mode sessions left s c d rs j b acts h.pieces h.has h.machine h.own h.known h.carrying message is h.asking.held (lasts_less fin _ 66 left (omega arith) h.lasts) h.rest in
      record {
        granted_started = ap granted q.client ∙ h.grants ∙ map_started f c.sessions ∙ ap (map (grant_for f)) (sym q.started);
        done = subst IsDone (sym q.client) (record { state = inl refl; answered = answered_all d.answers d.wishes h.asking.answers len });
        same_wishes = ap (λ (k : ControlClient). k.wishes) q.client;
        ended = q.ended;
      }

  -- the client's next request, and what it and the server have become behind the answer
  abbrev idle : ℕ → Connection
  idle sessions = connection start (reading_at false []) Idle mode sessions

  told_answer : (d : ControlClient) (j : JoinState) (w : Wish) (reply : List ℕ) (a : Grant) → IsAsking d → j.client ≡ at_state d client.Accepting → j.stage ≡ at.Carrying → j.pending ≡ [] → length reply ≡ 48 → answer_in reply ≡ a
      → IsTold j (after_send j 0 reply) (asks (with_answer (held_none d) a))
  told_answer d j w reply a k is carrying none len e =
      let state : j.client.state ≡ client.Accepting = ap (λ (x : ControlClient). x.state) is in
      let said = sent_told j reply carrying none (ap is_over state) (ap (λ (x : ControlClient). x.held) is ∙ k.held) (len ∙ sym (ap awaited state)) in
      let next = with_answer (held_none d) a in
      let same : stops (told j.client reply) ≡ asks next =
      ap (λ (x : ControlClient). stops (told x reply)) is
      ∙ ap (λ (x : Grant). stops (asks (with_answer (held_none d) x))) e
      ∙ asks_alone (next_wish next) (granted next) next in
      subst (λ (x : Said). IsTold j (after_send j 0 reply) x) same said

  -- a wish that was asked for
  one_asked : (n : ℕ) → ((left : ℕ) (s : DeskState) (c : ControlSide) (sessions : ℕ) (d : ControlClient) (rs : List ReservedSession) (j : JoinState) (b : Book) (acts : List Act) → length d.wishes ≤ length d.answers + n → AtRest left s c sessions d rs j b acts → Ended rs d.wishes acts)
      → (left : ℕ) (s : DeskState) (c : ControlSide) (sessions : ℕ) (d : ControlClient) (rs : List ReservedSession) (j : JoinState) (b : Book) (acts : List Act) → length d.wishes ≤ length d.answers + suc n → AtRest left s c sessions d rs j b acts
      → (w : Wish) → length d.answers < length d.wishes → next_wish d ≡ Some w → IsSized w → 0 < w.sender_port → Ended rs d.wishes acts
  one_asked n again left s c sessions d rs j b acts most h w lt e sized port =
      let o = request_message (request_of w) in
      let len : length o ≡ 112 = length-request w sized in
      let is : j.client ≡ at_state d client.Accepting = h.said ∙ ap (λ (x : Option Wish). at_state d (next_state x (granted d))) e in
      let message : j.pending ≡ o = h.pending ∙ ap (λ (x : Option Wish). next_message x (granted d)) e in
      let whole = request_whole (request_of w) len in
      let plus : length o ≡ 0 + length o = omega arith in
      let need = 112 * (length d.wishes - length d.answers - 1) + 66 in
      let m = met t fin j' b' f start Idle mode sessions refl need (length o) left 0 s c false [] o j b acts (lasts_less fin (112 * (length d.wishes - length d.answers) + 66) (length o + need) left (omega (arith, len, lt)) h.lasts) (omega arith) whole.some h.pieces h.has h.machine (sym whole.whole ∙ plus) h.carrying message h.rest in
      let more = goes_on f m.left m.state in
      let gone = is_gone f m.left m.state in
      let e1 = with_machine c 0 (idle sessions) in
      let next = λ (answer : DeskAnswer) (own : List OwnSession). reply_plan 0 0 more gone (Request o) (with_own e1 own) answer in
      let heard = subst (λ (x : Message). Rest t fin (message_plan f 0 0 more gone e1 (x ∷ [])) m.desk j' b b' m.others) (written.request_read (request_of w)) m.rest in
      let asked = subst (λ (x : Ask). Rest t fin (asked_plan f 0 0 more gone e1 (Request o) x) m.desk j' b b' m.others) (ap ask_for (request_ok w sized port)) heard in
      let now : m.desk.client ≡ at_state d client.Accepting = m.client ∙ is in
      let given_back = reflected_len mode o len in
      elim (answers t fin j' b' f e1 (request_of w) next m.desk b m.others ports_fit asked) [
        | takes a ↦
            let reply = accept_session 0 a.port (session_id a.own.place 0) (reflected mode o) in
            let reply_len : length reply ≡ 48 = accept_session_len 0 a.port (session_id a.own.place 0) (reflected mode o) refl given_back in
            let row : Row = record { reply = reply; next = with_session (idle sessions) } in
            let c1 = with_own e1 (a.own ∷ []) in
            let r = reply_sent t fin j' b' more gone c1 row m.desk a.book a.others (omega (arith, reply_len)) refl a.rest in
            let g = grant_own f a.own in
            let read : answer_in reply ≡ g = granted_read a.port a.own.place 0 (reflected mode o) a.fits ∙ ap (λ (p : ℕ). grant.Granted p (session_id a.own.place 0)) (sym a.is_port) in
            let said = told_answer d m.desk w reply g h.asking now m.carrying m.pending reply_len read in
            let c2 = record c1 { machine = with_session (idle sessions) } in
            let apart = no_own_in a.own b.reserved c.sessions h.own a.free in
            ended_on rs (reserved_of a.own ∷ rs) d.wishes acts r.others (m.same rs ∙ a.same rs ∙ started_same t fin j' b' (reserved_of a.own ∷ rs) a.others _ r.is)
            (again m.left (with_side m.state 0 (Control c2)) c2 (with_session (idle sessions)).sessions (with_answer (held_none d) g) (reserved_of a.own ∷ rs) (after_send m.desk 0 reply) a.book r.others
            (omega (arith, length-append d.answers (g ∷ []))) (record {
              lasts = lasts_less fin need (112 * (length d.wishes - length (d.answers ++ g ∷ [])) + 66) m.left (omega (arith, length-append d.answers (g ∷ []))) m.lasts;
              pieces = subst (λ (k : JoinSetup). 0 < k.piece) (sym (said.setup ∙ m.setup)) h.pieces;
              has = side_put m.state.connections 0 (Control c2) m.side m.has;
              machine = refl;
              own = subst (λ (l : List Session). Owned l (c.sessions ++ a.own ∷ [])) (sym a.reserved) (own_more a.own a.session b.reserved c.sessions h.own a.free a.place);
              known = known_more a.own rs c.sessions h.known apart;
              carrying = said.carrying;
              asking = asking_more d g h.asking refl lt;
              said = said.client;
              pending = said.pending;
              grants = filter-append is_granted d.answers (g ∷ []) ∙ ap (λ (l : List Grant). l ++ g ∷ []) h.grants ∙ sym (map-append (grant_own f) c.sessions (a.own ∷ []));
              rest = r.rest;
            }))
        | refuses a ↦
            let reply = accept_session (accept_code a.accept) 0 (replicate 16 0) (reflected mode o) in
            let reply_len : length reply ≡ 48 = accept_session_len (accept_code a.accept) 0 (replicate 16 0) (reflected mode o) refl given_back in
            let row : Row = record { reply = reply; next = idle sessions } in
            let r = reply_sent t fin j' b' more gone e1 row m.desk a.book a.others (omega (arith, reply_len)) refl a.rest in
            let g = grant.Refused (accept_code a.accept) in
            let said = told_answer d m.desk w reply g h.asking now m.carrying m.pending reply_len (refused_read (accept_code a.accept) (reflected mode o) a.some) in
            let c2 = record e1 { machine = idle sessions } in
            ended_on rs rs d.wishes acts r.others (m.same rs ∙ a.same rs ∙ started_same t fin j' b' rs a.others _ r.is)
            (again m.left (with_side m.state 0 (Control c2)) c2 sessions (with_answer (held_none d) g) rs (after_send m.desk 0 reply) a.book r.others
            (omega (arith, length-append d.answers (g ∷ []))) (record {
              lasts = lasts_less fin need (112 * (length d.wishes - length (d.answers ++ g ∷ [])) + 66) m.left (omega (arith, length-append d.answers (g ∷ []))) m.lasts;
              pieces = subst (λ (k : JoinSetup). 0 < k.piece) (sym (said.setup ∙ m.setup)) h.pieces;
              has = side_put m.state.connections 0 (Control c2) m.side m.has;
              machine = refl;
              own = subst (λ (l : List Session). Owned l c.sessions) (sym a.reserved) h.own;
              known = h.known;
              carrying = said.carrying;
              asking = asking_more d g h.asking refl lt;
              said = said.client;
              pending = said.pending;
              grants = filter-append is_granted d.answers (g ∷ []) ∙ append-nil (granted d) ∙ h.grants;
              rest = r.rest;
            }))
      ]

  -- with so many wishes left
  pub asks_all : (n left : ℕ) (s : DeskState) (c : ControlSide) (sessions : ℕ) (d : ControlClient) (rs : List ReservedSession) (j : JoinState) (b : Book) (acts : List Act) → length d.wishes ≤ length d.answers + n → AtRest left s c sessions d rs j b acts → Ended rs d.wishes acts
  asks_all zero left s c sessions d rs j b acts most h = elim (slice_get_cases d.wishes (length d.answers)).1 [
    | inl (w, lt, found, same) ↦ absurd (omega (arith, lt, most))
    | inr past ↦ asked_all left s c sessions d rs j b acts h past.1 (omega (arith, most, h.asking.within)) (granted d) refl
  ]
  asks_all (suc n) left s c sessions d rs j b acts most h = elim (slice_get_cases d.wishes (length d.answers)).1 [
    | inl (w, lt, found, same) ↦
        one_asked n (asks_all n) left s c sessions d rs j b acts most h w lt found
        (subst IsSized (get_or_from_slice_get d.wishes (length d.answers) w w found) (h.asking.sized (length d.answers) w lt))
        (subst (λ (x : Wish). 0 < x.sender_port) (get_or_from_slice_get d.wishes (length d.answers) w w found) (h.asking.ports (length d.answers) w lt))
    | inr past ↦ let le = past.0 in asked_all left s c sessions d rs j b acts h past.1 (omega (arith, le, h.asking.within)) (granted d) refl
  ]
