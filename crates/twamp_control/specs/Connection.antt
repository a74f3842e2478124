-- A connection of TWAMP-Control, and the octets that come over it.
use Rattle.std.specs.Prelude.{◌≡◌, ℕ, ◌≤◌, ◌↔◌, Bool, true, false, List, [], ◌∷◌, ◌++◌, length, take, drop, Option, IsNone, IfNone, IfSome, option_to_list}
use Rattle.twamp_control.specs.declared.types.Message.{Message}
use Rattle.twamp_control.specs.declared.types.Stage.{Stage}
use Rattle.twamp_control.specs.declared.types.Stage.TheVariants.{SettingUp, Idle, Started, HungUp}
use Rattle.twamp_control.specs.Stream.{Reading, messages_from, reading_after}

pub record Connection : Type 0 where
  -- the moment that the Server-Start names, in nanoseconds since the start of 1970
  pub start : ℕ
  pub reading : Reading
  pub stage : Stage
  -- the mode that was agreed on, and 0 until then
  pub mode : ℕ
  -- in stage Idle, how many sessions are reserved; in stage Started, how many the last Start-Sessions started
  pub sessions : ℕ

-- a connection whose greeting was sent
abbrev pub opened : ℕ → Connection
opened start = record {
  start = start;
  reading = record { first = true; held = [] };
  stage = SettingUp;
  mode = 0;
  sessions = 0;
}

abbrev pub is_hung_up : Stage → Bool
is_hung_up HungUp = true
is_hung_up SettingUp = false
is_hung_up Idle = false
is_hung_up Started = false

-- Nothing is read of a connection that is hung up.
abbrev pub unless_hung_up : {A : Type 0} → Stage → A → A → A
unless_hung_up HungUp over going = over
unless_hung_up SettingUp over going = going
unless_hung_up Idle over going = going
unless_hung_up Started over going = going

-- the messages that become whole within more octets
abbrev pub messages_in : Connection → List ℕ → List Message
messages_in c octets = unless_hung_up c.stage [] (messages_from c.reading octets)

-- the connection when these octets have been read
abbrev pub connection_after : Connection → List ℕ → Connection
connection_after c octets = record c { reading = unless_hung_up c.stage c.reading (reading_after c.reading octets) }

-- the same, where the octets come in pieces
abbrev pub messages_in_pieces : Connection → List (List ℕ) → List Message
messages_in_pieces c [] = []
messages_in_pieces c (piece ∷ pieces) = messages_in c piece ++ messages_in_pieces (connection_after c piece) pieces

abbrev pub connection_after_pieces : Connection → List (List ℕ) → Connection
connection_after_pieces c [] = c
connection_after_pieces c (piece ∷ pieces) = connection_after_pieces (connection_after c piece) pieces

-- Octets of a piece are taken up to the end of one message. Without a message the whole piece is taken.
pub record Feeds (old new : Connection) (piece : List ℕ) (n : ℕ) (m : Option Message) : Type 0 where
  pub taken : n ≤ length piece
  pub message : option_to_list m ≡ messages_in old (take n piece)
  pub after : new ≡ connection_after old (take n piece)
  pub none : IsNone m ↔ (messages_in old piece ≡ [])
  pub all : IfNone m (n ≡ length piece)
  pub end : IfSome m (λ _. new.reading.held ≡ [])
  pub rest : messages_in old piece ≡ option_to_list m ++ messages_in new (drop n piece)
