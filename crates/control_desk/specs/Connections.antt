-- Where a connection stands, and what the desk's room is seen as.
use Rattle.std.specs.Prelude.{ℕ, ◌+◌, ◌==◌, if◌then◌else◌, List, [], ◌∷◌, Option, Some, None}
use Rattle.conf_text.specs.File.{File}
use Rattle.control_desk.specs.declared.sides.OpenConnection.{OpenConnection}
use Rattle.control_desk.specs.declared.sides.Side.{Side}
use Rattle.control_desk.specs.declared.room.Places.{Places}
use Rattle.control_desk.specs.declared.counts.Verdict.{Verdict}
use Rattle.control_desk.specs.declared.counts.Verdict.TheVariants.{GoesOn, Over, Quits}
use Rattle.control_desk.specs.State.{DeskState, Room, setting_of, first_state, with_side, without}

-- where the first connection of that number stands, counted on from i
abbrev pub index_from : ℕ → List OpenConnection → ℕ → Option ℕ
index_from i [] n = None
index_from i (c ∷ cs) n = if c.number == n then Some i else index_from (i + 1) cs n

abbrev pub first_room : File → Room
first_room file = record { setting = setting_of file; state = first_state file }

abbrev pub state_of : Places → DeskState
state_of r = record { names = r.names; connections = r.connections.items; started = r.started }

-- the state behind a piece
abbrev pub settled_side : Verdict → ℕ → Side → DeskState → DeskState
settled_side GoesOn n side s = with_side s n side
settled_side Over n side s = without s n
settled_side Quits n side s = s
