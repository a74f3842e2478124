-- What the messages of a control connection do (RFC 5357, section 3; RFC 4656, section 3): the calls of each message, in their
-- order, its reply, and when the connection is hung up. Which candidate is taken and each accept value are this project's own.
use Rattle.std.specs.Prelude.{ℕ, ◌+◌, ◌*◌, ◌-◌, ◌^◌, min, Bool, true, false, ◌==◌, ◌&&◌, ◌||◌, not, nat_le, if◌then◌else◌, List, [], ◌∷◌, ◌++◌, length, replicate, Option, Some, None, Result, Ok, Err}
use Rattle.std.specs.List.{list_any}
use Rattle.refl_types.specs.declared.types.Address.{Address}
use Rattle.refl_types.specs.declared.types.Address.TheVariants.{V4, V6}
use Rattle.refl_types.specs.declared.types.Endpoint.{Endpoint}
use Rattle.refl_types.specs.declared.types.Mode.TheVariants.{Twamp}
use Rattle.refl_types.specs.declared.types.Key.{Key}
use Rattle.refl_types.specs.declared.types.Extra.{Extra}
use Rattle.refl_types.specs.declared.config.ConfigParts.{ConfigParts}
use Rattle.refl_types.specs.declared.outcome.Place.{Place}
use Rattle.refl_types.specs.Same.{same_address}
use Rattle.ntp_time.specs.Timeout.{timeout_span}
use Rattle.control_msgs.specs.declared.types.Request.{Request as SessionRequest}
use Rattle.control_msgs.specs.Modes.{is_symmetrical, reflects_octets}
use Rattle.control_msgs.specs.declared.codes.Accept.TheVariants.{NotSupported, PermanentLimit, TemporaryLimit}
use Rattle.twamp_control.specs.declared.types.Message.{Message}
use Rattle.twamp_control.specs.declared.types.Stage.{Stage}
use Rattle.twamp_control.specs.declared.types.Stage.TheVariants.{Started}
use Rattle.twamp_control.specs.declared.types.Ask.{Ask}
use Rattle.twamp_control.specs.declared.types.Ask.TheVariants.{Reserve, StartAll, StopAll, Nothing, HangUp}
use Rattle.twamp_control.specs.declared.types.DeskAnswer.{DeskAnswer}
use Rattle.twamp_control.specs.declared.types.DeskAnswer.TheVariants.{Reserved, Refused, Done}
use Rattle.twamp_control.specs.Connection.{messages_in, connection_after, is_hung_up, unless_hung_up}
use Rattle.twamp_control.specs.Table.{Row, ask_of, row_of}
use Rattle.session_desk.specs.declared.session.ReserveFault.{ReserveFault}
use Rattle.session_desk.specs.declared.session.ReserveFault.TheVariants.{Duplicate, ModeClash, NoKey, RowsFull, Full}
use Rattle.control_desk.specs.Plan.{Plan, send, hang_up, reserve, start, abandon, close, close_at, live_place}
use Rattle.control_desk.specs.State.{Setting}
use Rattle.control_desk.specs.declared.own.OwnSession.{OwnSession}
use Rattle.control_desk.specs.declared.sides.ControlSide.{ControlSide}
use Rattle.control_desk.specs.declared.requests.Tried.{Tried}
use Rattle.control_desk.specs.declared.requests.Tried.TheVariants.{Taken, RefusedAll, TriesNext}

-- ---- the sessions of a connection, in the order in which they were reserved

abbrev pub start_all : ℕ → List OwnSession → Plan → Plan
start_all now [] more = more
start_all now (o ∷ os) more = start o.place now (λ a. start_all now os more)

abbrev pub abandon_all : List OwnSession → Plan → Plan
abandon_all [] more = more
abandon_all (o ∷ os) more = abandon o.place (λ a. abandon_all os more)

abbrev pub same_place : Place → Place → Bool
same_place p q = p.slot == q.slot && p.generation == q.generation

-- A started session is the connection's only while its key is live at its place: else nothing more is done for it
abbrev pub while_own : OwnSession → Plan → Plan → Option Place → Plan
while_own o act more None = more
while_own o act more (Some p) = if same_place p o.place then act else more

abbrev pub close_one : OwnSession → Plan → Plan
close_one o more = live_place o.key (while_own o (close o.key (λ a. more)) more)

abbrev pub close_all : List OwnSession → Plan → Plan
close_all [] more = more
close_all (o ∷ os) more = close_one o (close_all os more)

abbrev pub closing_moment : ℕ → OwnSession → ℕ
closing_moment now o = min (now + o.timeout) (2 ^ 64 - 1)

abbrev pub close_one_at : ℕ → OwnSession → Plan → Plan
close_one_at now o more = live_place o.key (while_own o (close_at o.key (closing_moment now o) (λ a. more)) more)

abbrev pub close_all_at : ℕ → List OwnSession → Plan → Plan
close_all_at now [] more = more
close_all_at now (o ∷ os) more = close_one_at now o (close_all_at now os more)

-- by a Stop-Sessions: reserved sessions are abandoned, and started ones end after their timeout
abbrev pub stop_all : Stage → ℕ → List OwnSession → Plan → Plan
stop_all Started now os more = close_all_at now os more
stop_all stage now os more = abandon_all os more

-- by the end of the connection
abbrev pub end_all : Stage → List OwnSession → Plan → Plan
end_all Started os more = close_all os more
end_all stage os more = abandon_all os more

abbrev pub hang_up_plan : ℕ → Stage → List OwnSession → Plan → Plan
hang_up_plan n stage os gone = hang_up n (end_all stage os gone)

-- ---- a Request-TW-Session

abbrev pub is_of_family : Bool → Address → Bool
is_of_family v6 (V4 a) = not v6
is_of_family v6 (V6 a) = v6

abbrev pub or_else : Option Address → Address → Address
or_else None a = a
or_else (Some b) a = b

abbrev pub any_address : Bool → Address
any_address true = V6 (replicate 16 0)
any_address false = V4 (replicate 4 0)

-- a local that may receive for this address
abbrev pub receives : Bool → Address → Endpoint → Bool
receives v6 a l = same_address l.address a || same_address l.address (any_address v6)

-- the number of a local, and its port
pub record Candidate : Type 0 where
  pub local : ℕ
  pub port : ℕ

-- a local that may receive for this address, on the wanted port or on another
abbrev pub is_candidate : Bool → Address → ℕ → (wanted : Bool) → Endpoint → Bool
is_candidate v6 a port true l = receives v6 a l && l.port == port
is_candidate v6 a port false l = receives v6 a l && not (l.port == port)

-- a local that passes a test
abbrev pub chosen_one : (Endpoint → Bool) → ℕ → Endpoint → List Candidate
chosen_one test i l = if test l then record { local = i; port = l.port } ∷ [] else []

-- those that pass it, counted on from i
abbrev pub chosen : (Endpoint → Bool) → ℕ → List Endpoint → List Candidate
chosen test i [] = []
chosen test i (l ∷ ls) = chosen_one test i l ++ chosen test (i + 1) ls

-- first those with the wanted port, and then the others
abbrev pub candidates : List Endpoint → Bool → Address → ℕ → List Candidate
candidates locals v6 a port = chosen (is_candidate v6 a port true) 0 locals ++ chosen (is_candidate v6 a port false) 0 locals

-- nanoseconds for which a session waits for a datagram
abbrev pub reserved_wait : ℕ
reserved_wait = 900 * 10 ^ 9

-- sessions of one connection
abbrev pub session_limit : ℕ
session_limit = 16

abbrev pub extra_of : ℕ → SessionRequest → Extra
extra_of mode r = record { symmetrical = is_symmetrical mode; reflect = if reflects_octets mode then r.reflect else 0 }

-- what the messages's reply needs, and the session that was reserved
abbrev pub NextAnswer : Type 0
NextAnswer = DeskAnswer → List OwnSession → Plan

abbrev pub key_at : Candidate → Address → ℕ → Key
key_at c a port = record { local = c.local; peer = record { address = a; port = port }; mode = Twamp; ssid = 0 }

abbrev pub own_session : Key → Place → SessionRequest → OwnSession
own_session k place r = record { place = place; key = k; timeout = timeout_span r.timeout }

-- the key is taken
abbrev pub is_taken : ReserveFault → Bool
is_taken (Duplicate k) = true
is_taken (ModeClash k) = true
is_taken NoKey = false
is_taken RowsFull = false
is_taken (Full live reserved retired held) = false

-- that leaves the next candidate; any other refusal is that of the request
abbrev pub tried : Key → ℕ → SessionRequest → NextAnswer → Plan → Result Place ReserveFault → Plan
tried k port r next more (Ok place) = next (Reserved place port) (own_session k place r ∷ [])
tried k port r next more (Err e) = if is_taken e then more else next (Refused TemporaryLimit) []

unfoldable pub try_all : ConfigParts → Extra → Address → SessionRequest → NextAnswer → List Candidate → Plan
try_all config x a r next [] = next (Refused TemporaryLimit) []
try_all config x a r next (c ∷ cs) =
    reserve (key_at c a r.sender_port) x config reserved_wait (tried (key_at c a r.sender_port) c.port r next (try_all config x a r next cs))

-- both addresses are of the family that is asked for, and a local may receive
abbrev pub is_served : List Endpoint → SessionRequest → Address → Address → Bool
is_served locals r from to = is_of_family r.v6 from && is_of_family r.v6 to && list_any (receives r.v6 to) locals

abbrev pub between : Setting → ControlSide → SessionRequest → NextAnswer → ConfigParts → Address → Address → Plan
between f c r next config from to =
    if is_served f.locals r from to
    then try_all config (extra_of c.machine.mode r) from r next (candidates f.locals r.v6 to r.receiver_port)
    else next (Refused NotSupported) []

-- without a configuration for negotiated sessions no control connection is kept
abbrev pub under_twamp : Setting → ControlSide → SessionRequest → NextAnswer → Option ConfigParts → Plan
under_twamp f c r next None = next (Refused TemporaryLimit) []
under_twamp f c r next (Some config) = between f c r next config (or_else r.sender c.peer) (or_else r.receiver c.local)

abbrev pub request_plan : Setting → ControlSide → SessionRequest → NextAnswer → Plan
request_plan f c r next = if nat_le session_limit (length c.sessions) then next (Refused PermanentLimit) [] else under_twamp f c r next f.twamp

-- what came of a candidate, or of several
abbrev pub after_tried : Tried → NextAnswer → Plan → Plan
after_tried (Taken own port) next more = next (Reserved own.place port) (own ∷ [])
after_tried RefusedAll next more = next (Refused TemporaryLimit) []
after_tried TriesNext next more = more

abbrev pub tries_next : Tried → Bool
tries_next (Taken own port) = false
tries_next RefusedAll = false
tries_next TriesNext = true

-- ---- a message

-- What becomes of the connection's sessions is known by the stage in which they are
abbrev pub stage_behind : ControlSide → Row → Stage
stage_behind c row = unless_hung_up row.next.stage c.machine.stage row.next.stage

-- behind the reply: more is read, or the connection is hung up
abbrev pub behind_reply : ℕ → (ControlSide → Plan) → Plan → ControlSide → Row → Plan
behind_reply n more gone c row =
    if is_hung_up row.next.stage then hang_up_plan n (stage_behind c row) c.sessions gone
    else more (record c { machine = row.next })

-- a message without octets isn't sent
abbrev pub send_some : ℕ → List ℕ → Plan → Plan → Plan
send_some n [] sent failed = sent
send_some n (b ∷ octets) sent failed = send n (b ∷ octets) sent failed

abbrev pub send_reply : ℕ → (ControlSide → Plan) → Plan → ControlSide → Row → Plan
send_reply n more gone c row = send_some n row.reply (behind_reply n more gone c row) (hang_up_plan n (stage_behind c row) c.sessions gone)

abbrev pub reply_plan : ℕ → ℕ → (ControlSide → Plan) → Plan → Message → ControlSide → DeskAnswer → Plan
reply_plan n now more gone m c answer = send_reply n more gone c (row_of c.machine m answer now)

abbrev pub with_own : ControlSide → List OwnSession → ControlSide
with_own c [] = c
with_own c (o ∷ os) = record c { sessions = c.sessions ++ o ∷ os }

abbrev pub without_own : ControlSide → ControlSide
without_own c = record c { sessions = [] }

abbrev pub asked_plan : Setting → ℕ → ℕ → (ControlSide → Plan) → Plan → ControlSide → Message → Ask → Plan
asked_plan f n now more gone c m (Reserve r) = request_plan f c r (λ answer own. reply_plan n now more gone m (with_own c own) answer)
asked_plan f n now more gone c m StartAll = start_all now c.sessions (reply_plan n now more gone m c Done)
asked_plan f n now more gone c m (StopAll number) = stop_all c.machine.stage now c.sessions (reply_plan n now more gone m (without_own c) Done)
asked_plan f n now more gone c m Nothing = reply_plan n now more gone m c Done
asked_plan f n now more gone c m HangUp = reply_plan n now more gone m c Done

abbrev pub message_plan : Setting → ℕ → ℕ → (ControlSide → Plan) → Plan → ControlSide → List Message → Plan
message_plan f n now more gone c [] = more c
message_plan f n now more gone c (m ∷ ms) = asked_plan f n now more gone c m (ask_of c.machine m)

-- ---- octets, of which each completes at most one message

abbrev pub with_octet : ControlSide → ℕ → ℕ → ControlSide
with_octet c now b = record c { machine = connection_after c.machine (b ∷ []); heard = now }

unfoldable pub control_plan : Setting → ℕ → ℕ → (ControlSide → Plan) → Plan → ControlSide → List ℕ → Plan
control_plan f n now more gone c [] = more c
control_plan f n now more gone c (b ∷ octets) =
    message_plan f n now (λ d. control_plan f n now more gone d octets) gone (with_octet c now b) (messages_in c.machine (b ∷ []))
