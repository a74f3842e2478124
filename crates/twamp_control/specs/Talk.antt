-- A talk over a connection: each message is answered as soon as it is whole, before more octets are read.
use Rattle.std.specs.Prelude.{ℕ, List, [], ◌∷◌, ◌++◌}
use Rattle.twamp_control.specs.declared.types.Message.{Message}
use Rattle.twamp_control.specs.declared.types.DeskAnswer.{DeskAnswer}
use Rattle.twamp_control.specs.Connection.{Connection, connection_after, messages_in}
use Rattle.twamp_control.specs.Table.{row_of}

-- what was done of what a message asked, and the moment of the message
pub record Turn : Type 0 where
  pub answer : DeskAnswer
  pub now : ℕ

pub record Talk : Type 0 where
  pub connection : Connection
  -- what the messages to come are answered by
  pub turns : List Turn
  -- what was sent for each message so far
  pub replies : List (List ℕ)

-- a row of the table is carried out
abbrev pub said_by : Connection → List Turn → List (List ℕ) → Message → Talk
said_by c [] replies m = record { connection = c; turns = []; replies = replies }
said_by c (turn ∷ turns) replies m =
    let row = row_of c m turn.answer turn.now in
    record { connection = row.next; turns = turns; replies = replies ++ row.reply ∷ [] }

-- a message takes the next turn
abbrev pub said : Talk → Message → Talk
said t m = said_by t.connection t.turns t.replies m

abbrev pub all_said : Talk → List Message → Talk
all_said t [] = t
all_said t (m ∷ messages) = all_said (said t m) messages

abbrev pub at_connection : Talk → Connection → Talk
at_connection t c = record t { connection = c }

-- with an octet more, which may complete a message
abbrev pub heard : Talk → ℕ → Talk
heard t b = all_said (at_connection t (connection_after t.connection (b ∷ []))) (messages_in t.connection (b ∷ []))

-- with more octets
unfoldable pub talk : Talk → List ℕ → Talk
talk t [] = t
talk t (b ∷ stream) = talk (heard t b) stream

-- the same, where the octets come in pieces
abbrev pub talk_in_pieces : Talk → List (List ℕ) → Talk
talk_in_pieces t [] = t
talk_in_pieces t (piece ∷ pieces) = talk_in_pieces (talk t piece) pieces
