-- The octets of a client, cut into messages (RFC 4656, section 3; RFC 5357, section 3). The first message is the
-- Set-Up-Response; every later one is known by its first octet. That an unknown octet is a message by itself is this
-- project's own.
use Rattle.std.specs.Prelude.{◌≡◌, ℕ, ◌<◌, Bool, true, false, ◌==◌, ◌||◌, List, [], ◌∷◌, ◌++◌, length, slice_index, if◌then◌else◌}
use Rattle.std.specs.Int.{w32, from_be_bytes}
use Rattle.octet_format.specs.Octets.{field}
use Rattle.twamp_control.specs.declared.types.Message.{Message}
use Rattle.twamp_control.specs.declared.types.Message.TheVariants.{SetUp, Request, Start, Stop, Unknown}

-- ---- one message

-- how many octets a message has, by its first octet: a Request-TW-Session, a Start-Sessions or Stop-Sessions, another
abbrev pub command_length : ℕ → ℕ
command_length command =
    if command == 5 then 112
    else (if command == 2 || command == 3 then 32
    else 1)

-- how many octets the message has that begins with these; a Set-Up-Response has 164
abbrev pub message_length : Bool → List ℕ → ℕ
message_length true octets = 164
message_length false octets = command_length (slice_index octets 0)

abbrev pub command_of : ℕ → List ℕ → Message
command_of command octets =
    if command == 5 then Request octets
    else (if command == 2 then Start
    else (if command == 3 then Stop (from_be_bytes w32 (field 4 4 octets))
    else Unknown command))

-- what the octets of a message say; the first message is a Set-Up-Response
abbrev pub message_of : Bool → List ℕ → Message
message_of true octets = SetUp (from_be_bytes w32 (field 0 4 octets))
message_of false octets = command_of (slice_index octets 0) octets

-- just the octets of one message
pub record IsWhole (first : Bool) (octets : List ℕ) : Type 0 where
  pub some : 0 < length octets
  pub whole : length octets ≡ message_length first octets

-- ---- a stream of messages

-- how far a stream has been read
pub record Reading : Type 0 where
  -- the Set-Up-Response isn't whole yet
  pub first : Bool
  -- the octets of the message that isn't whole yet
  pub held : List ℕ

abbrev pub is_whole : Bool → List ℕ → Bool
is_whole first octets = length octets == message_length first octets

-- the message that an octet completes, if it does
abbrev pub completed : Bool → List ℕ → List Message
completed first octets = if is_whole first octets then message_of first octets ∷ [] else []

-- what is held with an octet more
abbrev pub reading_with : Bool → List ℕ → Reading
reading_with first octets =
    if is_whole first octets then record { first = false; held = [] }
    else record { first = first; held = octets }

-- the messages that become whole within more octets of the stream
unfoldable pub messages_from : Reading → List ℕ → List Message
messages_from r [] = []
messages_from r (b ∷ stream) =
    completed r.first (r.held ++ b ∷ []) ++ messages_from (reading_with r.first (r.held ++ b ∷ [])) stream

-- how far the stream has been read then
unfoldable pub reading_after : Reading → List ℕ → Reading
reading_after r [] = r
reading_after r (b ∷ stream) = reading_after (reading_with r.first (r.held ++ b ∷ [])) stream
