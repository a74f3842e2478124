-- A desk that ended since it failed too often has raised its count: each way in which its plan ends so goes through as many
-- failures.
use Rattle.std.proofs.Common.{◌≡◌, ℕ, zero, suc, ◌+◌, ◌-◌, ◌^◌, ◌≤◌, ◌==◌, nat_le, min, Bool, true, false, if◌then◌else◌, List, [], ◌∷◌, ◌++◌, length, Option, Some, None, Result, Ok, Err, refl, ap, subst, arith}
use Rattle.std.proofs.lemmas.Bool.Decides.{nat_tests}
use Rattle.refl_types.specs.declared.types.Address.{Address}
use Rattle.refl_types.specs.declared.types.Key.{Key}
use Rattle.refl_types.specs.declared.types.Extra.{Extra}
use Rattle.refl_types.specs.declared.config.ConfigParts.{ConfigParts}
use Rattle.refl_types.specs.declared.outcome.Place.{Place}
use Rattle.net_io.specs.declared.desk.ConnKind.{ConnKind}
use Rattle.net_io.specs.declared.desk.ConnKind.TheVariants as kinds
use Rattle.net_io.specs.declared.desk.DeskEvent.{DeskEvent}
use Rattle.net_io.specs.declared.desk.DeskEvent.TheVariants.{Opened, Bytes, Closed, Tick, End}
use Rattle.net_io.specs.declared.desk.Timed.{Timed}
use Rattle.net_io.specs.Desk.{DeskEntry, opened, open_failed, gave, next_failed, sent, send_failed, hung_up, finished}
use Rattle.control_msgs.specs.declared.codes.Accept.TheVariants.{NotSupported, PermanentLimit, TemporaryLimit}
use Rattle.control_msgs.specs.declared.types.Request.{Request as SessionRequest}
use Rattle.twamp_control.specs.declared.types.Message.{Message}
use Rattle.twamp_control.specs.declared.types.Stage.{Stage}
use Rattle.twamp_control.specs.declared.types.Stage.TheVariants.{SettingUp, Idle, Started, HungUp}
use Rattle.twamp_control.specs.declared.types.Ask.{Ask}
use Rattle.twamp_control.specs.declared.types.Ask.TheVariants as asks
use Rattle.twamp_control.specs.declared.types.DeskAnswer.{DeskAnswer}
use Rattle.twamp_control.specs.declared.types.DeskAnswer.TheVariants.{Reserved, Refused, Done}
use Rattle.twamp_control.specs.Connection.{messages_in, is_hung_up}
use Rattle.twamp_control.specs.Table.{Row, ask_of, row_of}
use Rattle.operator_lines.specs.declared.line.Line.{Line}
use Rattle.operator_lines.specs.declared.line.Line.TheVariants as lines
use Rattle.operator_lines.specs.declared.answer.Answer.{Answer}
use Rattle.operator_lines.specs.declared.answer.Answer.TheVariants as answers
use Rattle.operator_lines.specs.declared.answer.Refusal.TheVariants as refusals
use Rattle.operator_lines.specs.Reading.{line_from}
use Rattle.session_desk.specs.declared.session.NoSuch.{NoSuch}
use Rattle.session_desk.specs.declared.session.ReserveFault.{ReserveFault}
use Rattle.session_desk.specs.declared.session.SetFault.{SetFault}
use Rattle.session_desk.specs.declared.session.Ticked.{Ticked}
use Rattle.session_desk.specs.Makes.{BookCall, admits, reserves, keeps_row, starts, abandons, sets, closes, closes_at, counts, ticks, tells_length, tells_key, tells_place}
use Rattle.session_rule.specs.declared.seats.Table.{Table}
use Rattle.session_desk.specs.Book.{Book}
use Rattle.conf_text.specs.File.{File}
use Rattle.reflector_serve.specs.Served.{DeskView, IsRun}
use Rattle.control_desk.specs.declared.counts.Counts.{Counts}
use Rattle.control_desk.specs.declared.counts.DeskTally.{DeskTally}
use Rattle.control_desk.specs.declared.counts.DeskEnd.{DeskEnd}
use Rattle.control_desk.specs.declared.counts.DeskEnd.TheVariants as ends
use Rattle.control_desk.specs.declared.counts.Verdict.{Verdict}
use Rattle.control_desk.specs.declared.counts.Verdict.TheVariants.{GoesOn, Over, Quits}
use Rattle.control_desk.specs.declared.sides.ControlSide.{ControlSide}
use Rattle.control_desk.specs.declared.sides.OpenConnection.{OpenConnection}
use Rattle.control_desk.specs.declared.sides.Side.{Side}
use Rattle.control_desk.specs.declared.sides.Side.TheVariants.{Control, Operator}
use Rattle.control_desk.specs.declared.own.OwnSession.{OwnSession}
use Rattle.control_desk.specs.Plan.{Plan, hear, send, hang_up, reserve, start, abandon, set, close, close_at, count, tick, live_len, live_at, live_place, stop, Act, noted, called, Leads, counts_with, counts_after}
use Rattle.control_desk.specs.State.{Setting, DeskState, setting_of, first_state, config_in, side_in, with_side, without, with_name, with_connection, at_connections}
use Rattle.control_desk.specs.Operator.{Next, say, reserve_refusal, set_refusal, config_from, name_limit, new_name, name_config, reserved_plan, open_under, open_plan, set_plan, set_under, number_plan, listed_plan, list_key, list_from, line_plan, read_plan, line_limit, behind_line, operator_plan}
use Rattle.control_desk.specs.Control.{start_all, abandon_all, same_place, while_own, close_all, closing_moment, close_all_at, stop_all, end_all, hang_up_plan, Candidate, session_limit, NextAnswer, key_at, own_session, is_taken, tried, try_all, is_served, candidates, extra_of, between, under_twamp, request_plan, or_else, stage_behind, behind_reply, send_some, reply_plan, with_own, without_own, asked_plan, message_plan, with_octet, control_plan}
use Rattle.control_desk.specs.Run.{is_refused, begun, control_side, greet, opened_plan, bytes_plan, closed_plan, is_idle_side, hang_up_side, idle_plan, tick_plan, event_plan, behind_event, is_over, desk_plan, no_counts}

-- ---- how many failures acts tell, and what is counted of them

abbrev failure : DeskEntry → ℕ
failure (opened control operator) = 0
failure open_failed = 0
failure (gave t octets) = 0
failure next_failed = 1
failure (sent n octets) = 0
failure (send_failed n octets) = 1
failure (hung_up n) = 0
failure finished = 0

abbrev failures : List Act → ℕ
failures [] = 0
failures (noted e ∷ acts) = failure e + failures acts
failures (called call ∷ acts) = failures acts

failures_noted : (n : Counts) (e : DeskEntry) → min (n.faults + failure e) (2 ^ 64 - 1) ≤ (counts_with n (noted e)).faults
failures_noted n (opened control operator) = omega arith
failures_noted n open_failed = omega arith
failures_noted n (gave t octets) = omega arith
failures_noted n next_failed = omega arith
failures_noted n (sent m octets) = omega arith
failures_noted n (send_failed m octets) = omega arith
failures_noted n (hung_up m) = omega arith
failures_noted n finished = omega arith

faults_called : (n : Counts) (call : BookCall) → (counts_with n (called call)).faults ≡ n.faults
faults_called n (admits k c a) = refl
faults_called n (reserves k x c wait a) = refl
faults_called n (keeps_row c a) = refl
faults_called n (starts p now a) = refl
faults_called n (abandons p a) = refl
faults_called n (sets k c a) = refl
faults_called n (closes k (Ok m)) = refl
faults_called n (closes k (Err e)) = refl
faults_called n (closes_at k moment a) = refl
faults_called n (counts k a) = refl
faults_called n (ticks now t) = refl
faults_called n (tells_length m) = refl
faults_called n (tells_key i a) = refl
faults_called n (tells_place k a) = refl

faults_after : (n : Counts) (acts : List Act) → min (n.faults + failures acts) (2 ^ 64 - 1) ≤ (counts_after n acts).faults
faults_after n [] = omega arith
faults_after n (noted e ∷ acts) = omega (arith, failures_noted n e, faults_after (counts_with n (noted e)) acts)
faults_after n (called call ∷ acts) = omega (arith, faults_called n call, faults_after (counts_with n (called call)) acts)

-- ---- plans that owe so many failures before they end by a fault

record Owes (k : ℕ) (p : Plan) : Type 0 where
  owed : (acts : List Act) → Leads p acts (stop ends.Fault) → k ≤ failures acts

owes_none : (p : Plan) → Owes 0 p
owes_none p = record { owed = λ acts h. omega arith }

owes_less : {j k : ℕ} {p : Plan} → j ≤ k → Owes k p → Owes j p
owes_less some h = record { owed = λ acts l. omega (arith, some, h.owed acts l) }

module _ (k : ℕ) where
  leads_on : (m p : Plan) (acts : List Act) → m ≡ p → Leads m acts (stop ends.Fault) → Owes k p → k ≤ failures acts
  leads_on m p acts e l h = h.owed acts (subst (λ (q : Plan). Leads q acts (stop ends.Fault)) e l)

  through_hear : (given : Timed → List ℕ → Plan) (failed : Plan) → ((t : Timed) (o : List ℕ) → Owes k (given t o)) → Owes (k - 1) failed → (acts : List Act) → Leads (hear given failed) acts (stop ends.Fault) → k ≤ failures acts
  through_hear given failed h g [] l = absurd cc
  through_hear given failed h g (noted (gave t o) ∷ acts) l = omega (arith, leads_on l.0 (given t o) acts l.1 l.2 (h t o))
  through_hear given failed h g (noted next_failed ∷ acts) l =
      omega (arith, g.owed acts (subst (λ (q : Plan). Leads q acts (stop ends.Fault)) l.1 l.2))
  through_hear given failed h g (_ ∷ acts) l = absurd l.1

  through_send : (n : ℕ) (o : List ℕ) (ok failed : Plan) → Owes k ok → Owes k failed → (acts : List Act) → Leads (send n o ok failed) acts (stop ends.Fault) → k ≤ failures acts
  through_send n o ok failed h g [] l = absurd cc
  through_send n o ok failed h g (noted (sent m p) ∷ acts) l = omega (arith, leads_on l.0 ok acts l.1.2 l.2 h)
  through_send n o ok failed h g (noted (send_failed m p) ∷ acts) l = omega (arith, leads_on l.0 failed acts l.1.2 l.2 g)
  through_send n o ok failed h g (_ ∷ acts) l = absurd l.1

  through_hang_up : (n : ℕ) (next : Plan) → Owes k next → (acts : List Act) → Leads (hang_up n next) acts (stop ends.Fault) → k ≤ failures acts
  through_hang_up n next h [] l = absurd cc
  through_hang_up n next h (noted (hung_up m) ∷ acts) l = omega (arith, leads_on l.0 next acts l.1.1 l.2 h)
  through_hang_up n next h (_ ∷ acts) l = absurd l.1

  through_reserve : (j : Key) (x : Extra) (c : ConfigParts) (wait : ℕ) (next : Result Place ReserveFault → Plan) → ((a : Result Place ReserveFault) → Owes k (next a)) → (acts : List Act) → Leads (reserve j x c wait next) acts (stop ends.Fault) → k ≤ failures acts
  through_reserve j x c wait next h [] l = absurd cc
  through_reserve j x c wait next h (called (reserves j' x' c' wait' a) ∷ acts) l = leads_on l.0 (next a) acts l.1.4 l.2 (h a)
  through_reserve j x c wait next h (_ ∷ acts) l = absurd l.1

  through_start : (p : Place) (now : ℕ) (next : Result (Unit {0}) NoSuch → Plan) → ((a : Result (Unit {0}) NoSuch) → Owes k (next a)) → (acts : List Act) → Leads (start p now next) acts (stop ends.Fault) → k ≤ failures acts
  through_start p now next h [] l = absurd cc
  through_start p now next h (called (starts p' now' a) ∷ acts) l = leads_on l.0 (next a) acts l.1.2 l.2 (h a)
  through_start p now next h (_ ∷ acts) l = absurd l.1

  through_abandon : (p : Place) (next : Result (Unit {0}) NoSuch → Plan) → ((a : Result (Unit {0}) NoSuch) → Owes k (next a)) → (acts : List Act) → Leads (abandon p next) acts (stop ends.Fault) → k ≤ failures acts
  through_abandon p next h [] l = absurd cc
  through_abandon p next h (called (abandons p' a) ∷ acts) l = leads_on l.0 (next a) acts l.1.1 l.2 (h a)
  through_abandon p next h (_ ∷ acts) l = absurd l.1

  through_set : (j : Key) (c : ConfigParts) (next : Result (Unit {0}) SetFault → Plan) → ((a : Result (Unit {0}) SetFault) → Owes k (next a)) → (acts : List Act) → Leads (set j c next) acts (stop ends.Fault) → k ≤ failures acts
  through_set j c next h [] l = absurd cc
  through_set j c next h (called (sets j' c' a) ∷ acts) l = leads_on l.0 (next a) acts l.1.2 l.2 (h a)
  through_set j c next h (_ ∷ acts) l = absurd l.1

  through_close : (j : Key) (next : Result ℕ NoSuch → Plan) → ((a : Result ℕ NoSuch) → Owes k (next a)) → (acts : List Act) → Leads (close j next) acts (stop ends.Fault) → k ≤ failures acts
  through_close j next h [] l = absurd cc
  through_close j next h (called (closes j' a) ∷ acts) l = leads_on l.0 (next a) acts l.1.1 l.2 (h a)
  through_close j next h (_ ∷ acts) l = absurd l.1

  through_close_at : (j : Key) (moment : ℕ) (next : Result (Unit {0}) NoSuch → Plan) → ((a : Result (Unit {0}) NoSuch) → Owes k (next a)) → (acts : List Act) → Leads (close_at j moment next) acts (stop ends.Fault) → k ≤ failures acts
  through_close_at j moment next h [] l = absurd cc
  through_close_at j moment next h (called (closes_at j' moment' a) ∷ acts) l = leads_on l.0 (next a) acts l.1.2 l.2 (h a)
  through_close_at j moment next h (_ ∷ acts) l = absurd l.1

  through_count : (j : Key) (next : Result ℕ NoSuch → Plan) → ((a : Result ℕ NoSuch) → Owes k (next a)) → (acts : List Act) → Leads (count j next) acts (stop ends.Fault) → k ≤ failures acts
  through_count j next h [] l = absurd cc
  through_count j next h (called (counts j' a) ∷ acts) l = leads_on l.0 (next a) acts l.1.1 l.2 (h a)
  through_count j next h (_ ∷ acts) l = absurd l.1

  through_tick : (now : ℕ) (next : Ticked → Plan) → ((a : Ticked) → Owes k (next a)) → (acts : List Act) → Leads (tick now next) acts (stop ends.Fault) → k ≤ failures acts
  through_tick now next h [] l = absurd cc
  through_tick now next h (called (ticks now' a) ∷ acts) l = leads_on l.0 (next a) acts l.1.1 l.2 (h a)
  through_tick now next h (_ ∷ acts) l = absurd l.1

  through_live_len : (next : ℕ → Plan) → ((a : ℕ) → Owes k (next a)) → (acts : List Act) → Leads (live_len next) acts (stop ends.Fault) → k ≤ failures acts
  through_live_len next h [] l = absurd cc
  through_live_len next h (called (tells_length a) ∷ acts) l = leads_on l.0 (next a) acts l.1 l.2 (h a)
  through_live_len next h (_ ∷ acts) l = absurd l.1

  through_live_at : (i : ℕ) (next : Option Key → Plan) → ((a : Option Key) → Owes k (next a)) → (acts : List Act) → Leads (live_at i next) acts (stop ends.Fault) → k ≤ failures acts
  through_live_at i next h [] l = absurd cc
  through_live_at i next h (called (tells_key i' a) ∷ acts) l = leads_on l.0 (next a) acts l.1.1 l.2 (h a)
  through_live_at i next h (_ ∷ acts) l = absurd l.1

  through_live_place : (j : Key) (next : Option Place → Plan) → ((a : Option Place) → Owes k (next a)) → (acts : List Act) → Leads (live_place j next) acts (stop ends.Fault) → k ≤ failures acts
  through_live_place j next h [] l = absurd cc
  through_live_place j next h (called (tells_place j' a) ∷ acts) l = leads_on l.0 (next a) acts l.1.1 l.2 (h a)
  through_live_place j next h (_ ∷ acts) l = absurd l.1

  through_stop : (e : DeskEnd) → (e ≡ ends.Fault → ⊥) → (acts : List Act) → Leads (stop e) acts (stop ends.Fault) → k ≤ failures acts
  through_stop e other [] l = absurd (other cc)
  through_stop e other (_ ∷ acts) l = absurd l.1

-- ---- the same as facts on plans

owes_hear : {k : ℕ} {given : Timed → List ℕ → Plan} {failed : Plan} → ((t : Timed) (o : List ℕ) → Owes k (given t o)) → Owes (k - 1) failed → Owes k (hear given failed)
owes_hear {k} {given} {failed} h g = record { owed = through_hear k given failed h g }

owes_send : {k n : ℕ} {o : List ℕ} {ok failed : Plan} → Owes k ok → Owes k failed → Owes k (send n o ok failed)
owes_send {k} {n} {o} {ok} {failed} h g = record { owed = through_send k n o ok failed h g }

owes_hang_up : {k n : ℕ} {next : Plan} → Owes k next → Owes k (hang_up n next)
owes_hang_up {k} {n} {next} h = record { owed = through_hang_up k n next h }

owes_reserve : {k wait : ℕ} {j : Key} {x : Extra} {c : ConfigParts} {next : Result Place ReserveFault → Plan} → ((a : Result Place ReserveFault) → Owes k (next a)) → Owes k (reserve j x c wait next)
owes_reserve {k} {wait} {j} {x} {c} {next} h = record { owed = through_reserve k j x c wait next h }

owes_start : {k now : ℕ} {p : Place} {next : Result (Unit {0}) NoSuch → Plan} → ((a : Result (Unit {0}) NoSuch) → Owes k (next a)) → Owes k (start p now next)
owes_start {k} {now} {p} {next} h = record { owed = through_start k p now next h }

owes_abandon : {k : ℕ} {p : Place} {next : Result (Unit {0}) NoSuch → Plan} → ((a : Result (Unit {0}) NoSuch) → Owes k (next a)) → Owes k (abandon p next)
owes_abandon {k} {p} {next} h = record { owed = through_abandon k p next h }

owes_set : {k : ℕ} {j : Key} {c : ConfigParts} {next : Result (Unit {0}) SetFault → Plan} → ((a : Result (Unit {0}) SetFault) → Owes k (next a)) → Owes k (set j c next)
owes_set {k} {j} {c} {next} h = record { owed = through_set k j c next h }

owes_close : {k : ℕ} {j : Key} {next : Result ℕ NoSuch → Plan} → ((a : Result ℕ NoSuch) → Owes k (next a)) → Owes k (close j next)
owes_close {k} {j} {next} h = record { owed = through_close k j next h }

owes_close_at : {k moment : ℕ} {j : Key} {next : Result (Unit {0}) NoSuch → Plan} → ((a : Result (Unit {0}) NoSuch) → Owes k (next a)) → Owes k (close_at j moment next)
owes_close_at {k} {moment} {j} {next} h = record { owed = through_close_at k j moment next h }

owes_count : {k : ℕ} {j : Key} {next : Result ℕ NoSuch → Plan} → ((a : Result ℕ NoSuch) → Owes k (next a)) → Owes k (count j next)
owes_count {k} {j} {next} h = record { owed = through_count k j next h }

owes_tick : {k now : ℕ} {next : Ticked → Plan} → ((a : Ticked) → Owes k (next a)) → Owes k (tick now next)
owes_tick {k} {now} {next} h = record { owed = through_tick k now next h }

owes_live_len : {k : ℕ} {next : ℕ → Plan} → ((a : ℕ) → Owes k (next a)) → Owes k (live_len next)
owes_live_len {k} {next} h = record { owed = through_live_len k next h }

owes_live_at : {k i : ℕ} {next : Option Key → Plan} → ((a : Option Key) → Owes k (next a)) → Owes k (live_at i next)
owes_live_at {k} {i} {next} h = record { owed = through_live_at k i next h }

owes_live_place : {k : ℕ} {j : Key} {next : Option Place → Plan} → ((a : Option Place) → Owes k (next a)) → Owes k (live_place j next)
owes_live_place {k} {j} {next} h = record { owed = through_live_place k j next h }

owes_stop : {k : ℕ} {e : DeskEnd} → (e ≡ ends.Fault → ⊥) → Owes k (stop e)
owes_stop {k} {e} h = record { owed = through_stop k e h }

owes_if : {k : ℕ} {p q : Plan} (b : Bool) → Owes k p → Owes k q → Owes k (if b then p else q)
owes_if true h g = h
owes_if false h g = g

-- ---- what operators and control connections ask for owes what the plans behind it owe

module _ (k : ℕ) where
  abbrev Continues : Next → Type 0
  Continues next = (v : Verdict) (s : DeskState) → Owes k (next v s)

  abbrev Answers : NextAnswer → Type 0
  Answers next = (a : DeskAnswer) (os : List OwnSession) → Owes k (next a os)

  -- ---- lines of an operator

  owes_say : (n : ℕ) (a : Answer) (s : DeskState) (next : Next) → Continues next → Owes k (say n a s next)
  owes_say n a s next h = owes_send (h GoesOn s) (owes_hang_up (h Over (without s n)))

  owes_new_name : (n : ℕ) (s : DeskState) (name : List ℕ) (c : ConfigParts) (next : Next) (o : Option ConfigParts) → Continues next → Owes k (new_name n s name c next o)
  owes_new_name n s name c next (Some old) h = owes_say n (answers.Refused refusals.Exists) s next h
  owes_new_name n s name c next None h =
      owes_if (nat_le name_limit (length s.names)) (owes_say n (answers.Refused refusals.NamesFull) s next h) (owes_say n answers.Done (with_name s name c) next h)

  owes_name_config : (n : ℕ) (s : DeskState) (name : List ℕ) (o : Option ConfigParts) (next : Next) → Continues next → Owes k (name_config n s name o next)
  owes_name_config n s name None next h = owes_say n (answers.Refused refusals.Config) s next h
  owes_name_config n s name (Some c) next h = owes_new_name n s name c next (config_in s.names name) h

  owes_reserved : (n now : ℕ) (s : DeskState) (next : Next) (r : Result Place ReserveFault) → Continues next → Owes k (reserved_plan n now s next r)
  owes_reserved n now s next (Ok place) h = owes_start (λ a. owes_say n answers.Done s next h)
  owes_reserved n now s next (Err e) h = owes_say n (answers.Refused (reserve_refusal e)) s next h

  owes_open_under : (n now : ℕ) (s : DeskState) (j : Key) (wait : ℕ) (next : Next) (o : Option ConfigParts) → Continues next → Owes k (open_under n now s j wait next o)
  owes_open_under n now s j wait next None h = owes_say n (answers.Refused refusals.NoConfig) s next h
  owes_open_under n now s j wait next (Some c) h = owes_reserve (λ a. owes_reserved n now s next a h)

  owes_open : (f : Setting) (n now : ℕ) (s : DeskState) (j : Key) (name : List ℕ) (wait : ℕ) (next : Next) → Continues next → Owes k (open_plan f n now s j name wait next)
  owes_open f n now s j name wait next h =
      owes_if (nat_le (length f.locals) j.local) (owes_say n (answers.Refused refusals.Local) s next h) (owes_open_under n now s j wait next (config_in s.names name) h)

  owes_set_answer : (n : ℕ) (s : DeskState) (next : Next) (a : Result (Unit {0}) SetFault) → Continues next → Owes k (set_plan n s next a)
  owes_set_answer n s next (Ok u) h = owes_say n answers.Done s next h
  owes_set_answer n s next (Err e) h = owes_say n (answers.Refused (set_refusal e)) s next h

  owes_set_under : (n : ℕ) (s : DeskState) (j : Key) (next : Next) (o : Option ConfigParts) → Continues next → Owes k (set_under n s j next o)
  owes_set_under n s j next None h = owes_say n (answers.Refused refusals.NoConfig) s next h
  owes_set_under n s j next (Some c) h = owes_set (λ a. owes_set_answer n s next a h)

  owes_number : (n : ℕ) (s : DeskState) (next : Next) (a : Result ℕ NoSuch) → Continues next → Owes k (number_plan n s next a)
  owes_number n s next (Ok m) h = owes_say n (answers.Number m) s next h
  owes_number n s next (Err e) h = owes_say n (answers.Refused refusals.NoSuch) s next h

  owes_listed : (n : ℕ) (s : DeskState) (next : Next) (j : Key) (more : Plan) (a : Result ℕ NoSuch) → Continues next → Owes k more → Owes k (listed_plan n s next j more a)
  owes_listed n s next j more (Ok m) h g = owes_send g (owes_hang_up (h Over (without s n)))
  owes_listed n s next j more (Err e) h g = g

  owes_list_key : (n : ℕ) (s : DeskState) (next : Next) (more : Plan) (o : Option Key) → Continues next → Owes k more → Owes k (list_key n s next more o)
  owes_list_key n s next more None h g = g
  owes_list_key n s next more (Some j) h g = owes_count (λ a. owes_listed n s next j more a h g)

  owes_list : (n : ℕ) (s : DeskState) (next : Next) (all index left : ℕ) → Continues next → Owes k (list_from n s next all index left)
  unfolding list_from
  owes_list n s next all index zero h = owes_say n (answers.Number all) s next h
  owes_list n s next all index (suc left) h = owes_live_at (λ o. owes_list_key n s next (list_from n s next all (index + 1) left) o h (owes_list n s next all (index + 1) left h))

  owes_line : (f : Setting) (n now : ℕ) (s : DeskState) (next : Next) (l : Line) → Continues next → Owes k (line_plan f n now s next l)
  owes_line f n now s next (lines.Config name octets) h = owes_name_config n s name (config_from octets) next h
  owes_line f n now s next (lines.Open j name wait) h = owes_open f n now s j name wait next h
  owes_line f n now s next (lines.Set j name) h = owes_set_under n s j next (config_in s.names name) h
  owes_line f n now s next (lines.Close j) h = owes_close (λ a. owes_number n s next a h)
  owes_line f n now s next (lines.Count j) h = owes_count (λ a. owes_number n s next a h)
  owes_line f n now s next lines.List h = owes_live_len (λ all. owes_list n s next all 0 all h)
  owes_line f n now s next lines.Quit h = owes_send (h Quits s) (owes_hang_up (h Quits s))

  owes_read : (f : Setting) (n now : ℕ) (s : DeskState) (next : Next) (o : Option Line) → Continues next → Owes k (read_plan f n now s next o)
  owes_read f n now s next (Some l) h = owes_line f n now s next l h
  owes_read f n now s next None h = owes_say n (answers.Refused refusals.Line) s next h

  behind : (more : DeskState → Plan) (next : Next) → ((s : DeskState) → Owes k (more s)) → Continues next → Continues (behind_line more next)
  behind more next g h GoesOn s = g s
  behind more next g h Over s = h Over s
  behind more next g h Quits s = h Quits s

  owes_operator : (f : Setting) (n now : ℕ) (s : DeskState) (next : Next) (held octets : List ℕ) → Continues next → Owes k (operator_plan f n now s next held octets)
  unfolding operator_plan
  owes_operator f n now s next held [] h = h GoesOn (with_side s n (Operator held))
  owes_operator f n now s next held (b ∷ octets) h =
      let gone : Owes k (hang_up n (next Over (without s n))) = owes_hang_up (h Over (without s n)) in
      let rest = λ (t : DeskState). owes_operator f n now t next [] octets h in
      owes_if (nat_le line_limit (length held)) (owes_send gone gone)
      (owes_if (b == 10)
      (owes_read f n now s (behind_line (λ t. operator_plan f n now t next [] octets) next) (line_from (held ++ b ∷ [])) (behind (λ t. operator_plan f n now t next [] octets) next rest h))
      (owes_operator f n now s next (held ++ b ∷ []) octets h))

  -- ---- messages of a control connection

  owes_start_all : (now : ℕ) (os : List OwnSession) (more : Plan) → Owes k more → Owes k (start_all now os more)
  owes_start_all now [] more h = h
  owes_start_all now (o ∷ os) more h = owes_start (λ a. owes_start_all now os more h)

  owes_abandon_all : (os : List OwnSession) (more : Plan) → Owes k more → Owes k (abandon_all os more)
  owes_abandon_all [] more h = h
  owes_abandon_all (o ∷ os) more h = owes_abandon (λ a. owes_abandon_all os more h)

  owes_own : (o : OwnSession) (act more : Plan) (p : Option Place) → Owes k act → Owes k more → Owes k (while_own o act more p)
  owes_own o act more None h g = g
  owes_own o act more (Some p) h g = owes_if (same_place p o.place) h g

  owes_close_all : (os : List OwnSession) (more : Plan) → Owes k more → Owes k (close_all os more)
  owes_close_all [] more h = h
  owes_close_all (o ∷ os) more h =
      let rest = owes_close_all os more h in
      owes_live_place (λ p. owes_own o (close o.key (λ a. close_all os more)) (close_all os more) p (owes_close (λ a. rest)) rest)

  owes_close_all_at : (now : ℕ) (os : List OwnSession) (more : Plan) → Owes k more → Owes k (close_all_at now os more)
  owes_close_all_at now [] more h = h
  owes_close_all_at now (o ∷ os) more h =
      let rest = owes_close_all_at now os more h in
      owes_live_place (λ p. owes_own o (close_at o.key (closing_moment now o) (λ a. close_all_at now os more)) (close_all_at now os more) p (owes_close_at (λ a. rest)) rest)

  owes_stop_all : (stage : Stage) (now : ℕ) (os : List OwnSession) (more : Plan) → Owes k more → Owes k (stop_all stage now os more)
  owes_stop_all Started now os more h = owes_close_all_at now os more h
  owes_stop_all SettingUp now os more h = owes_abandon_all os more h
  owes_stop_all Idle now os more h = owes_abandon_all os more h
  owes_stop_all HungUp now os more h = owes_abandon_all os more h

  owes_end_all : (stage : Stage) (os : List OwnSession) (more : Plan) → Owes k more → Owes k (end_all stage os more)
  owes_end_all Started os more h = owes_close_all os more h
  owes_end_all SettingUp os more h = owes_abandon_all os more h
  owes_end_all Idle os more h = owes_abandon_all os more h
  owes_end_all HungUp os more h = owes_abandon_all os more h

  owes_hang_up_all : (n : ℕ) (stage : Stage) (os : List OwnSession) (gone : Plan) → Owes k gone → Owes k (hang_up_plan n stage os gone)
  owes_hang_up_all n stage os gone h = owes_hang_up (owes_end_all stage os gone h)

  owes_tried : (j : Key) (port : ℕ) (r : SessionRequest) (next : NextAnswer) (more : Plan) (a : Result Place ReserveFault) → Answers next → Owes k more → Owes k (tried j port r next more a)
  owes_tried j port r next more (Ok place) h g = h (Reserved place port) (own_session j place r ∷ [])
  owes_tried j port r next more (Err e) h g = owes_if (is_taken e) g (h (Refused TemporaryLimit) [])

  owes_try_all : (config : ConfigParts) (x : Extra) (a : Address) (r : SessionRequest) (next : NextAnswer) (cs : List Candidate) → Answers next → Owes k (try_all config x a r next cs)
  unfolding try_all
  owes_try_all config x a r next [] h = h (Refused TemporaryLimit) []
  owes_try_all config x a r next (c ∷ cs) h =
      owes_reserve (λ answer. owes_tried (key_at c a r.sender_port) c.port r next (try_all config x a r next cs) answer h (owes_try_all config x a r next cs h))

  owes_between : (f : Setting) (c : ControlSide) (r : SessionRequest) (next : NextAnswer) (config : ConfigParts) (from to : Address) → Answers next → Owes k (between f c r next config from to)
  owes_between f c r next config from to h =
      owes_if (is_served f.locals r from to) (owes_try_all config (extra_of c.machine.mode r) from r next (candidates f.locals r.v6 to r.receiver_port) h) (h (Refused NotSupported) [])

  owes_under_twamp : (f : Setting) (c : ControlSide) (r : SessionRequest) (next : NextAnswer) (o : Option ConfigParts) → Answers next → Owes k (under_twamp f c r next o)
  owes_under_twamp f c r next None h = h (Refused TemporaryLimit) []
  owes_under_twamp f c r next (Some config) h = owes_between f c r next config (or_else r.sender c.peer) (or_else r.receiver c.local) h

  owes_request : (f : Setting) (c : ControlSide) (r : SessionRequest) (next : NextAnswer) → Answers next → Owes k (request_plan f c r next)
  owes_request f c r next h = owes_if (nat_le session_limit (length c.sessions)) (h (Refused PermanentLimit) []) (owes_under_twamp f c r next f.twamp h)

  module _ (n : ℕ) (more : ControlSide → Plan) (gone : Plan) (h : (c : ControlSide) → Owes k (more c)) (g : Owes k gone) where
    owes_behind_reply : (c : ControlSide) (row : Row) → Owes k (behind_reply n more gone c row)
    owes_behind_reply c row = owes_if (is_hung_up row.next.stage) (owes_hang_up_all n (stage_behind c row) c.sessions gone g) (h (record c { machine = row.next }))

    owes_send_some : (octets : List ℕ) (ok failed : Plan) → Owes k ok → Owes k failed → Owes k (send_some n octets ok failed)
    owes_send_some [] ok failed a b = a
    owes_send_some (o ∷ octets) ok failed a b = owes_send a b

    owes_reply : (now : ℕ) (m : Message) (c : ControlSide) (a : DeskAnswer) → Owes k (reply_plan n now more gone m c a)
    owes_reply now m c a =
        let row = row_of c.machine m a now in
        owes_send_some row.reply (behind_reply n more gone c row) (hang_up_plan n (stage_behind c row) c.sessions gone) (owes_behind_reply c row) (owes_hang_up_all n (stage_behind c row) c.sessions gone g)

    owes_asked : (f : Setting) (now : ℕ) (c : ControlSide) (m : Message) (a : Ask) → Owes k (asked_plan f n now more gone c m a)
    owes_asked f now c m (asks.Reserve r) = owes_request f c r (λ answer own. reply_plan n now more gone m (with_own c own) answer) (λ answer own. owes_reply now m (with_own c own) answer)
    owes_asked f now c m asks.StartAll = owes_start_all now c.sessions (reply_plan n now more gone m c Done) (owes_reply now m c Done)
    owes_asked f now c m (asks.StopAll number) = owes_stop_all c.machine.stage now c.sessions (reply_plan n now more gone m (without_own c) Done) (owes_reply now m (without_own c) Done)
    owes_asked f now c m asks.Nothing = owes_reply now m c Done
    owes_asked f now c m asks.HangUp = owes_reply now m c Done

    owes_message : (f : Setting) (now : ℕ) (c : ControlSide) (ms : List Message) → Owes k (message_plan f n now more gone c ms)
    owes_message f now c [] = h c
    owes_message f now c (m ∷ ms) = owes_asked f now c m (ask_of c.machine m)

  owes_control : (f : Setting) (n now : ℕ) (more : ControlSide → Plan) (gone : Plan) (c : ControlSide) (octets : List ℕ) → ((d : ControlSide) → Owes k (more d)) → Owes k gone → Owes k (control_plan f n now more gone c octets)
  unfolding control_plan
  owes_control f n now more gone c [] h g = h c
  owes_control f n now more gone c (b ∷ octets) h g =
      owes_message n (λ d. control_plan f n now more gone d octets) gone (λ d. owes_control f n now more gone d octets h g) g f now (with_octet c now b) (messages_in c.machine (b ∷ []))

  -- ---- events

  owes_greet : (s : DeskState) (n now : ℕ) (peer local : Address) (next : DeskState → Plan) (kind : ConnKind) → ((t : DeskState) → Owes k (next t)) → Owes k (greet s n now peer local next kind)
  owes_greet s n now peer local next kinds.Control h = owes_send (h (with_connection s n (Control (control_side s now peer local)))) (owes_hang_up (h s))
  owes_greet s n now peer local next kinds.Operator h = h (with_connection s n (Operator []))

  owes_opened : (f : Setting) (s : DeskState) (n now : ℕ) (kind : ConnKind) (peer local : Address) (next : DeskState → Plan) (o : Option Side) → ((t : DeskState) → Owes k (next t)) → Owes k (opened_plan f s n now kind peer local next o)
  owes_opened f s n now kind peer local next (Some side) h = h s
  owes_opened f s n now kind peer local next None h = owes_if (is_refused f s kind) (owes_hang_up (h s)) (owes_greet s n now peer local next kind h)

  owes_bytes : (f : Setting) (s : DeskState) (n now : ℕ) (octets : List ℕ) (next : Next) (o : Option Side) → Continues next → Owes k (bytes_plan f s n now octets next o)
  owes_bytes f s n now octets next None h = h GoesOn s
  owes_bytes f s n now octets next (Some (Operator held)) h = owes_operator f n now s next held octets h
  owes_bytes f s n now octets next (Some (Control c)) h =
      owes_control f n now (λ d. next GoesOn (with_side s n (Control d))) (next Over (without s n)) c octets (λ d. h GoesOn (with_side s n (Control d))) (h Over (without s n))

  owes_closed : (s : DeskState) (n : ℕ) (next : DeskState → Plan) (o : Option Side) → ((t : DeskState) → Owes k (next t)) → Owes k (closed_plan s n next o)
  owes_closed s n next None h = h s
  owes_closed s n next (Some (Operator held)) h = h (without s n)
  owes_closed s n next (Some (Control c)) h = owes_end_all c.machine.stage c.sessions (next (without s n)) (h (without s n))

  owes_hang_up_side : (n : ℕ) (side : Side) (gone : Plan) → Owes k gone → Owes k (hang_up_side n side gone)
  owes_hang_up_side n (Operator held) gone h = owes_hang_up h
  owes_hang_up_side n (Control c) gone h = owes_hang_up_all n c.machine.stage c.sessions gone h

  owes_idle : (now : ℕ) (next : List OpenConnection → Plan) (kept cs : List OpenConnection) → ((ds : List OpenConnection) → Owes k (next ds)) → Owes k (idle_plan now next kept cs)
  unfolding idle_plan
  owes_idle now next kept [] h = h kept
  owes_idle now next kept (c ∷ cs) h =
      owes_if (is_idle_side now c.side) (owes_hang_up_side c.number c.side (idle_plan now next kept cs) (owes_idle now next kept cs h)) (owes_idle now next (kept ++ c ∷ []) cs h)

  owes_event : (f : Setting) (s : DeskState) (now : ℕ) (octets : List ℕ) (next : Next) (e : DeskEvent) → Continues next → Owes k (event_plan f s now octets next e)
  owes_event f s now octets next (Opened n kind peer local) h = owes_opened f s n now kind peer local (next GoesOn) (side_in s.connections n) (h GoesOn)
  owes_event f s now octets next (Bytes n len) h = owes_bytes f s n now octets next (side_in s.connections n) h
  owes_event f s now octets next (Closed n) h = owes_closed s n (next GoesOn) (side_in s.connections n) (h GoesOn)
  owes_event f s now octets next Tick h =
      owes_idle now (λ cs. tick_plan now (next GoesOn) (at_connections s cs)) [] s.connections (λ cs. owes_tick (λ t. h GoesOn (at_connections s cs)))
  owes_event f s now octets next End h = owes_stop (λ e. absurd cc)

  behind_all : (more : DeskState → Plan) → ((s : DeskState) → Owes k (more s)) → Continues (behind_event more)
  behind_all more h GoesOn s = h s
  behind_all more h Over s = h s
  behind_all more h Quits s = owes_stop (λ e. absurd cc)

-- ---- a run

-- a fault is due behind 64 failures alone
due_late : (left failed : ℕ) → is_over left (failed + 1) ≡ true → 64 ≤ failed + 1
due_late left failed h = grind (arith, nat_tests)

behind_failure : (failed : ℕ) (over : Bool) (p : Plan) → (over ≡ true → 64 ≤ failed + 1) → Owes (64 - (failed + 1)) p → Owes (64 - failed - 1) (if over then stop ends.Fault else p)
behind_failure failed true p late h = owes_less (omega (arith, late refl)) (owes_none (stop ends.Fault))
behind_failure failed false p late h = owes_less (omega arith) h

owes_run : (f : Setting) (left failed : ℕ) (s : DeskState) → Owes (64 - failed) (desk_plan f left failed s)
unfolding desk_plan
owes_run f zero failed s = owes_stop (λ e. absurd cc)
owes_run f (suc left) failed s =
    owes_hear
    (λ t o. owes_event (64 - failed) f (begun s t.moment) t.moment o (behind_event (desk_plan f left 0)) t.event
    (behind_all (64 - failed) (desk_plan f left 0) (λ z. owes_less (omega arith) (owes_run f left 0 z))))
    (behind_failure failed (is_over left (failed + 1)) (desk_plan f left (failed + 1) s) (due_late left failed) (owes_run f left (failed + 1) s))

-- a desk that ended by a fault has told 64 failures of its own
pub desk_failed : {D T : Type 0} (w : DeskView D T) (goes : D → DeskEntry → D → Type 0) (t : Table) (f : File) (d e : D) (b c : Book) (y : DeskTally) → IsRun w goes t f d e b c y → y.end ≡ ends.Fault → min ((w d).faults + 64) (2 ^ 64 - 1) ≤ (w e).faults
desk_failed w goes t f d e b c y h fault =
    let plan = desk_plan (setting_of f) f.turns 0 (first_state f) in
    let owed = owes_run (setting_of f) f.turns 0 (first_state f) in
    let many = owed.owed h.ran.acts (subst (λ (x : DeskEnd). Leads plan h.ran.acts (stop x)) fault h.ran.leads) in
    let counted = faults_after no_counts h.ran.acts in
    let same = ap (λ (n : Counts). n.faults) h.ran.counted in
    omega (arith, many, counted, same, h.faults.rises)
