-- The row of a session stands for the configuration that its call named (this project's own).
use Rattle.std.specs.Prelude.{◌≡◌, ℕ, suc, List, take, drop, Some, Ok}
use Rattle.std.specs.List.{slice_get}
use Rattle.refl_types.specs.declared.types.Key.{Key}
use Rattle.refl_types.specs.declared.types.Extra.{Extra}
use Rattle.refl_types.specs.declared.config.ConfigParts.{ConfigParts}
use Rattle.refl_types.specs.declared.outcome.Place.{Place}
use Rattle.net_io.specs.Desk.{DeskEntry}
use Rattle.session_world.specs.Desk.{config_at}
use Rattle.session_rule.specs.declared.seats.Table.{Table}
use Rattle.session_desk.specs.Book.{Book, steps_of}
use Rattle.session_desk.specs.Makes.{BookCall, Makes, reserves, sets}
use Rattle.conf_text.specs.File.{File}
use Rattle.control_desk.specs.Plan.{Act, called, MakesAll}
use Rattle.reflector_serve.specs.Ports.{PortView}
use Rattle.reflector_serve.specs.Served.{DeskView, Served}
use Rattle.reflector_serve.specs.declared.report.Report.{Report}

-- among these acts the one at this place, counted from 0, is the call: those before it led from the first book to `before`, the
-- call led to `after`, and those behind it to the last book
pub record IsMadeAt (t : Table) (acts : List Act) (place : ℕ) (call : BookCall) (first last : Book) : Type 0 where
  pub before : Book
  pub after : Book
  pub earlier : MakesAll t (take place acts) first before
  pub made : Makes t call before after
  pub later : MakesAll t (drop (suc place) acts) after last

-- In a run that was served, at any place of the acts of the desk's run: a session was reserved under a configuration, or was
-- given it. In the desk's whole list, and so in the one history, the row that it was given stands for that configuration
pub record CallsAreNamed {P S D T : Type 0} (v : PortView P S) (w : DeskView D T) (goes : D → DeskEntry → D → Type 0) : Type 0 where
  pub reserved : (f : File) (ps qs : List P) (d e : D) (report : Report) (s : Served v w goes f ps qs d e report) (place : ℕ) (k : Key) (x : Extra) (c : ConfigParts) (wait : ℕ) (p : Place)
      → slice_get s.desk.ran.acts place ≡ Some (called (reserves k x c wait (Ok p)))
      → (made : IsMadeAt s.table s.desk.ran.acts place (reserves k x c wait (Ok p)) s.at_split s.at_end) × (config_at (steps_of s.joined) made.made.row ≡ c)
  pub set : (f : File) (ps qs : List P) (d e : D) (report : Report) (s : Served v w goes f ps qs d e report) (place : ℕ) (k : Key) (c : ConfigParts)
      → slice_get s.desk.ran.acts place ≡ Some (called (sets k c (Ok tt)))
      → (made : IsMadeAt s.table s.desk.ran.acts place (sets k c (Ok tt)) s.at_split s.at_end) × (config_at (steps_of s.joined) made.made.row ≡ c)
