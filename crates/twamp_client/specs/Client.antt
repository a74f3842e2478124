-- A Control-Client in open mode (RFC 5357, section 3; RFC 4656, section 3; RFC 6038, section 3): what it holds, and what each
-- message of its server does.
use Rattle.std.specs.Prelude.{◌≡◌, ℕ, ◌^◌, ◌<◌, ◌≤◌, Bool, true, false, ◌==◌, ◌||◌, not, List, [], ◌∷◌, ◌++◌, length, slice_index, slice_get, Option, Some, None, All, if◌then◌else◌}
use Rattle.std.specs.List.{list_all, range_with_len, filter}
use Rattle.std.specs.Int.{w16, w32, from_be_bytes}
use Rattle.octet_format.specs.Octets.{field}
use Rattle.control_msgs.specs.declared.types.Request.{Request}
use Rattle.control_msgs.specs.Layout.{request_message, set_up, start_sessions}
use Rattle.control_msgs.specs.Modes.{has_bit, is_open_mode}
use Rattle.twamp_client.specs.declared.types.Wish.{Wish}
use Rattle.twamp_client.specs.declared.types.Grant.{Grant}
use Rattle.twamp_client.specs.declared.types.Grant.TheVariants.{Waiting, Granted, Refused}
use Rattle.twamp_client.specs.declared.types.ClientState.{ClientState}
use Rattle.twamp_client.specs.declared.types.ClientState.TheVariants.{Greeting, ServerStart, Accepting, StartAck, Started, Stopped, NoMode, Denied, NoSession}

-- what a client holds
pub record ControlClient : Type 0 where
  pub mode : ℕ
  pub wishes : List Wish
  -- what the server has answered to the first wishes, in their order
  pub answers : List Grant
  pub state : ClientState
  -- the octets of the server's message that isn't whole yet
  pub held : List ℕ

-- a client that has heard nothing yet
abbrev pub first_client : ℕ → List Wish → ControlClient
first_client mode wishes = record { mode = mode; wishes = wishes; answers = []; state = Greeting; held = [] }

-- ---- what it is told

-- how many octets the server's next message has: a Server Greeting, a Server-Start, an Accept-Session, a Start-Ack; none is awaited
-- in the other states
abbrev pub awaited : ClientState → ℕ
awaited Greeting = 64
awaited ServerStart = 48
awaited Accepting = 48
awaited StartAck = 32
awaited Started = 0
awaited Stopped = 0
awaited NoMode = 0
awaited (Denied accept) = 0
awaited NoSession = 0

-- no message is awaited
abbrev pub is_over : ClientState → Bool
is_over state = awaited state == 0

-- the Modes of a Server Greeting
abbrev pub modes_in : List ℕ → ℕ
modes_in greeting = from_be_bytes w32 (field 12 4 greeting)

-- each bit of the mode is one that the server offers
unfoldable pub are_offered : ℕ → ℕ → Bool
are_offered modes mode = list_all (λ t. not (has_bit mode t) || has_bit modes t) (range_with_len 0 32)

-- the Accept of a Server-Start, and that of an Accept-Session or a Start-Ack
abbrev pub server_accept : List ℕ → ℕ
server_accept octets = slice_index octets 15

abbrev pub accept_in : List ℕ → ℕ
accept_in octets = slice_index octets 0

-- what an Accept-Session says
abbrev pub answer_in : List ℕ → Grant
answer_in octets =
    if accept_in octets == 0 then Granted (from_be_bytes w16 (field 2 2 octets)) (field 4 16 octets)
    else Refused (accept_in octets)

-- ---- what it says

abbrev pub request_of : Wish → Request
request_of w = record {
  sender = None;
  receiver = None;
  v6 = w.v6;
  sender_port = w.sender_port;
  receiver_port = w.receiver_port;
  timeout = w.timeout;
  octets = w.octets;
  reflect = w.reflect;
}

abbrev pub is_granted : Grant → Bool
is_granted (Granted port sid) = true
is_granted (Refused accept) = false
is_granted Waiting = false

-- the sessions that were granted, in the order of the wishes
abbrev pub granted : ControlClient → List Grant
granted c = filter is_granted c.answers

-- what the client has become, and the message that it writes, if any
pub record Said : Type 0 where
  pub client : ControlClient
  pub message : List ℕ

abbrev pub at_state : ControlClient → ClientState → ControlClient
at_state c state = record c { state = state }

abbrev pub says_nothing : ControlClient → ClientState → Said
says_nothing c state = record { client = at_state c state; message = [] }

-- behind an answer, or a Server-Start: the next wish is asked for; behind the last one the sessions are started, where there is one
abbrev pub next_state : Option Wish → List Grant → ClientState
next_state (Some w) sessions = Accepting
next_state None [] = NoSession
next_state None (g ∷ sessions) = StartAck

abbrev pub next_message : Option Wish → List Grant → List ℕ
next_message (Some w) sessions = request_message (request_of w)
next_message None [] = []
next_message None (g ∷ sessions) = start_sessions

-- the first wish that has no answer
abbrev pub next_wish : ControlClient → Option Wish
next_wish c = slice_get c.wishes (length c.answers)

abbrev pub asks : ControlClient → Said
asks c = record { client = at_state c (next_state (next_wish c) (granted c)); message = next_message (next_wish c) (granted c) }

abbrev pub with_answer : ControlClient → Grant → ControlClient
with_answer c a = record c { answers = c.answers ++ a ∷ [] }

-- an Accept other than 0 denies
abbrev pub unless_denied : ControlClient → ℕ → Said → Said
unless_denied c accept said = if accept == 0 then said else says_nothing c (Denied accept)

-- a message is heard, in each state
abbrev pub told_in : ClientState → ControlClient → List ℕ → Said
told_in Greeting c octets =
    if are_offered (modes_in octets) c.mode then record { client = at_state c ServerStart; message = set_up c.mode }
    else says_nothing c NoMode
told_in ServerStart c octets = unless_denied c (server_accept octets) (asks c)
told_in Accepting c octets = asks (with_answer c (answer_in octets))
told_in StartAck c octets = unless_denied c (accept_in octets) (says_nothing c Started)
told_in state c octets = record { client = c; message = [] }

abbrev pub held_none : ControlClient → ControlClient
held_none c = record c { held = [] }

abbrev pub told : ControlClient → List ℕ → Said
told c octets = told_in c.state (held_none c) octets

-- ---- what is seen of it

-- what came of a wish, by its answer and by itself, where there are such
abbrev pub grant_of : Option Grant → Option Wish → Option Grant
grant_of answer None = None
grant_of None (Some w) = Some Waiting
grant_of (Some a) (Some w) = Some a

-- what came of the wish of that number
abbrev pub grant_at : ControlClient → ℕ → Option Grant
grant_at c i = grant_of (slice_get c.answers i) (slice_get c.wishes i)

-- ---- what always holds

-- so many answers, of so many wishes, fit the state
abbrev pub FitsState : ClientState → ℕ → ℕ → Type 0
FitsState Greeting n wishes = n ≡ 0
FitsState ServerStart n wishes = n ≡ 0
FitsState NoMode n wishes = n ≡ 0
FitsState Accepting n wishes = n < wishes
FitsState (Denied accept) n wishes = n ≤ wishes
FitsState state n wishes = n ≡ wishes

-- octets that are held lack the end of the message that is awaited; where none is, none are held
pub record HoldsPart (c : ControlClient) : Type 0 where
  pub part : is_over c.state ≡ false → length c.held < awaited c.state
  pub none : is_over c.state ≡ true → c.held ≡ []

abbrev pub is_answer : Grant → Bool
is_answer Waiting = false
is_answer (Granted port sid) = true
is_answer (Refused accept) = true

-- the fields of a wish fit their places
pub record IsSized (w : Wish) : Type 0 where
  pub sender_port : w.sender_port < 2 ^ 16
  pub receiver_port : w.receiver_port < 2 ^ 16
  pub timeout : length w.timeout ≡ 8
  pub octets : length w.octets ≡ 2
  pub reflect : w.reflect < 2 ^ 16

pub record IsSound (c : ControlClient) : Type 0 where
  pub mode : is_open_mode c.mode ≡ true
  pub some : 0 < length c.wishes
  pub few : length c.wishes ≤ 16
  pub ports : All (λ w. 0 < w.sender_port) c.wishes
  pub sized : All IsSized c.wishes
  pub fits_mode : c.mode < 2 ^ 32
  pub answers : list_all is_answer c.answers ≡ true
  pub fits : FitsState c.state (length c.answers) (length c.wishes)
  pub held : HoldsPart c
