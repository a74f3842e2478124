-- What a message does in each stage of a connection: what is asked of the sessions, which reply is sent, and how the
-- connection goes on (RFC 5357, sections 3.1, 3.5, 3.7 and 3.8; RFC 4656, sections 3.1 and 3.3). What a Start-Sessions
-- does without a session, what a Stop-Sessions does in stage Idle, and that a message out of turn is answered by a
-- hang-up alone, is this project's own.
use Rattle.std.specs.Prelude.{◌≡◌, ℕ, ◌+◌, ◌-◌, ◌^◌, ◌≤◌, min, ◌==◌, List, [], ◌++◌, length, drop, replicate, Result, Ok, Err, if◌then◌else◌}
use Rattle.std.specs.Int.{w32, w64, to_be_bytes}
use Rattle.octet_format.specs.Octets.{field}
use Rattle.refl_types.specs.declared.outcome.Place.{Place}
use Rattle.control_msgs.specs.declared.types.MsgFault.{MsgFault}
use Rattle.control_msgs.specs.declared.types.Request.{Request as SessionRequest}
use Rattle.control_msgs.specs.Layout.{server_start, accept_session, start_ack}
use Rattle.control_msgs.specs.Modes.{is_open_mode, reflects_octets}
use Rattle.control_msgs.specs.Reads.{request_read}
use Rattle.twamp_control.specs.declared.types.Message.{Message}
use Rattle.twamp_control.specs.declared.types.Message.TheVariants.{SetUp, Request, Start, Stop}
use Rattle.twamp_control.specs.declared.types.Stage.{Stage}
use Rattle.twamp_control.specs.declared.types.Stage.TheVariants.{SettingUp, Idle, Started, HungUp}
use Rattle.twamp_control.specs.declared.types.Ask.{Ask}
use Rattle.twamp_control.specs.declared.types.Ask.TheVariants.{Reserve, StartAll, StopAll, Nothing, HangUp}
use Rattle.twamp_control.specs.declared.types.DeskAnswer.{DeskAnswer}
use Rattle.control_msgs.specs.Codes.{accept_code}
use Rattle.twamp_control.specs.declared.types.DeskAnswer.TheVariants.{Reserved, Refused, Done}
use Rattle.twamp_control.specs.declared.types.Stepped.{Stepped}
use Rattle.twamp_control.specs.Connection.{Connection, is_hung_up}

-- ---- what is asked of the sessions

-- a request that is refused for one of its fields asks nothing
abbrev pub ask_for : Result SessionRequest MsgFault → Ask
ask_for (Ok r) = Reserve r
ask_for (Err f) = Nothing

abbrev pub ask_in : Stage → Message → Ask
ask_in SettingUp (SetUp mode) = if mode == 0 then HangUp else Nothing
ask_in Idle (Request octets) = ask_for (request_read octets)
ask_in Idle Start = StartAll
ask_in Idle (Stop number) = StopAll number
ask_in Started (Stop number) = StopAll number
ask_in stage message = HangUp

abbrev pub ask_of : Connection → Message → Ask
ask_of c message = ask_in c.stage message

-- ---- what is sent, and how the connection goes on

-- a row of the table
pub record Row : Type 0 where
  -- the octets that are sent, if any
  pub reply : List ℕ
  pub next : Connection

abbrev pub hung_up : Connection → Connection
hung_up c = record c { stage = HungUp }

abbrev pub hang_up_row : Connection → Row
hang_up_row c = record { reply = []; next = hung_up c }

-- mode 0 is no wish to go on; the open mode is accepted, with extensions that were offered; any other isn't supported
abbrev pub set_up_row : Connection → ℕ → Row
set_up_row c mode =
    if mode == 0 then hang_up_row c
    else (if is_open_mode mode then record { reply = server_start 0 c.start; next = record c { stage = Idle; mode = mode } }
    else record { reply = server_start 3 c.start; next = hung_up c })

-- the octets of a request that are given back
abbrev pub reflected : ℕ → List ℕ → List ℕ
reflected mode octets = if reflects_octets mode then field 88 2 octets else replicate 2 0

-- the session identifier is the session's place and the moment
abbrev pub session_id : Place → ℕ → List ℕ
session_id place now = to_be_bytes w32 place.slot ++ to_be_bytes w32 place.generation ++ to_be_bytes w64 now

-- one session more; the count stands still at the end of its type
abbrev pub with_session : Connection → Connection
with_session c = record c { sessions = min (c.sessions + 1) (2 ^ 32 - 1) }

-- a refusal has port 0 and a session identifier of zeros
abbrev pub refusal : Connection → ℕ → List ℕ → Row
refusal c accept octets = record { reply = accept_session accept 0 (replicate 16 0) (reflected c.mode octets); next = c }

-- where nothing was asked, a field of the request isn't supported
abbrev pub request_row : Connection → List ℕ → DeskAnswer → ℕ → Row
request_row c octets (Reserved place port) now = record {
  reply = accept_session 0 port (session_id place now) (reflected c.mode octets);
  next = with_session c;
}
request_row c octets (Refused accept) now = refusal c (accept_code accept) octets
request_row c octets Done now = refusal c 3 octets

abbrev pub start_row : Connection → Row
start_row c = record { reply = start_ack 0; next = record c { stage = Started } }

-- the connection has no sessions then, and goes on where the client has counted them rightly
abbrev pub stop_row : Connection → ℕ → ℕ → Row
stop_row c expected number = record {
  reply = [];
  next = record c { stage = if number == expected then Idle else HungUp; sessions = 0 };
}

abbrev pub row_in : Stage → Connection → Message → DeskAnswer → ℕ → Row
row_in SettingUp c (SetUp mode) answer now = set_up_row c mode
row_in Idle c (Request octets) answer now = request_row c octets answer now
row_in Idle c Start answer now = start_row c
row_in Idle c (Stop number) answer now = stop_row c 0 number
row_in Started c (Stop number) answer now = stop_row c c.sessions number
row_in stage c message answer now = hang_up_row c

abbrev pub row_of : Connection → Message → DeskAnswer → ℕ → Row
row_of c message answer now = row_in c.stage c message answer now

-- how many octets are sent, and whether the connection is hung up
abbrev pub stepped_of : Row → Stepped
stepped_of row = record { len = length row.reply; hang_up = is_hung_up row.next.stage }

-- the reply, and then what was there
abbrev pub written_over : List ℕ → List ℕ → List ℕ
written_over old reply = reply ++ drop (length reply) old

-- a row is carried out
pub record Steps (row : Row) (old new : List ℕ) (next : Connection) (result : Stepped) : Type 0 where
  pub reply : new ≡ written_over old row.reply
  pub within : result.len ≤ length new
  pub stepped : result ≡ stepped_of row
  pub goes_on : next ≡ row.next
