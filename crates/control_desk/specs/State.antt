-- What the desk keeps of its connections and of the names of configurations (this project's own).
use Rattle.std.specs.Prelude.{ℕ, Bool, true, false, ◌==◌, if◌then◌else◌, List, [], ◌∷◌, ◌++◌, Option, Some, None}
use Rattle.refl_types.specs.declared.types.Endpoint.{Endpoint}
use Rattle.refl_types.specs.declared.config.ConfigParts.{ConfigParts}
use Rattle.refl_types.specs.Same.{same_octets}
use Rattle.conf_text.specs.declared.configs.Named.{Named}
use Rattle.conf_text.specs.File.{File}
use Rattle.control_desk.specs.declared.sides.Side.{Side}
use Rattle.control_desk.specs.declared.sides.OpenConnection.{OpenConnection}
use Rattle.control_desk.specs.declared.counts.Verdict.{Verdict}
use Rattle.control_desk.specs.declared.counts.Verdict.TheVariants.{GoesOn, Over, Quits}

-- what the file says, which stays
pub record Setting : Type 0 where
  pub locals : List Endpoint
  -- the configuration of the sessions that control connections ask for
  pub twamp : Option ConfigParts

pub record DeskState : Type 0 where
  -- in the order in which they were made
  pub names : List Named
  -- in the order in which they were opened
  pub connections : List OpenConnection
  -- the moment of the desk's first event
  pub started : Option ℕ

-- a desk's room
pub record Room : Type 0 where
  pub setting : Setting
  pub state : DeskState

-- what a desk has at first
abbrev pub setting_of : File → Setting
setting_of file = record { locals = file.locals; twamp = file.twamp }

abbrev pub first_state : File → DeskState
first_state file = record { names = file.configs; connections = []; started = None }

-- ---- connections, by their numbers

abbrev pub side_in : List OpenConnection → ℕ → Option Side
side_in [] n = None
side_in (c ∷ cs) n = if c.number == n then Some c.side else side_in cs n

abbrev pub put_side : List OpenConnection → ℕ → Side → List OpenConnection
put_side [] n side = []
put_side (c ∷ cs) n side = if c.number == n then record { number = n; side = side } ∷ cs else c ∷ put_side cs n side

abbrev pub leave_out : List OpenConnection → ℕ → List OpenConnection
leave_out [] n = []
leave_out (c ∷ cs) n = if c.number == n then cs else c ∷ leave_out cs n

abbrev pub with_side : DeskState → ℕ → Side → DeskState
with_side s n side = record s { connections = put_side s.connections n side }

abbrev pub without : DeskState → ℕ → DeskState
without s n = record s { connections = leave_out s.connections n }

abbrev pub at_connections : DeskState → List OpenConnection → DeskState
at_connections s cs = record s { connections = cs }

abbrev pub with_connection : DeskState → ℕ → Side → DeskState
with_connection s n side = record s { connections = s.connections ++ record { number = n; side = side } ∷ [] }

-- ---- names

abbrev pub config_in : List Named → List ℕ → Option ConfigParts
config_in [] name = None
config_in (c ∷ cs) name = if same_octets c.name name then Some c.config else config_in cs name

abbrev pub with_name : DeskState → List ℕ → ConfigParts → DeskState
with_name s name c = record s { names = s.names ++ record { name = name; config = c } ∷ [] }

abbrev pub at_names : DeskState → List Named → DeskState
at_names s names = record s { names = names }

-- ---- how the desk goes on

-- the state behind what a connection said: one that is over is no longer among the connections
abbrev pub settled : Verdict → ℕ → DeskState → DeskState
settled GoesOn n s = s
settled Over n s = without s n
settled Quits n s = s

abbrev pub is_quits : Verdict → Bool
is_quits GoesOn = false
is_quits Over = false
is_quits Quits = true

abbrev pub is_over : Verdict → Bool
is_over GoesOn = false
is_over Over = true
is_over Quits = false
