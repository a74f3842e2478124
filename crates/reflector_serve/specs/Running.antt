-- What the desk's run leaves, and what the run of all leaves (this project's own).
use Rattle.std.specs.Prelude.{◌≡◌, ℕ, List, [], ◌++◌, length, map}
use Rattle.net_io.specs.Port.{PortEntry}
use Rattle.net_io.specs.Desk.{DeskEntry}
use Rattle.session_world.specs.declared.steps.Step.{Step}
use Rattle.session_world.specs.Desk.{config_at}
use Rattle.session_world.specs.Joined.{OneHistory}
use Rattle.session_rule.specs.declared.seats.Table.{Table}
use Rattle.session_rule.specs.Seats.{size_of, joined_parts}
use Rattle.session_desk.specs.Book.{Book, steps_of}
use Rattle.session_desk.specs.Fits.{BookFits}
use Rattle.session_desk.specs.Going.{DeskWent}
use Rattle.conf_text.specs.File.{File}
use Rattle.control_desk.specs.State.{Room}
use Rattle.control_desk.specs.Faults.{AreFaultsTold}
use Rattle.control_desk.specs.Run.{HasRun, HasGone}
use Rattle.reflector_serve.specs.Ports.{PortView}
use Rattle.reflector_serve.specs.Phases.{JoinsAll}
use Rattle.reflector_serve.specs.Live.{AreBound}
use Rattle.reflector_serve.specs.Served.{DeskView, AllPorts, AllServed}
use Rattle.reflector_serve.specs.Opening.{IsOpening}
use Rattle.reflector_serve.specs.declared.report.Report.{Report}
use Rattle.control_desk.specs.declared.counts.DeskTally.{DeskTally}

pub record DeskRan {D S : Type 0} (t : Table) (v : DeskView D S) (goes : D → DeskEntry → D → Type 0) (turns : ℕ) (room : Room) (d e : D) (b c : Book) (tally : DeskTally) : Type 0 where
  pub went : DeskWent t b c
  pub ran : HasRun t room.setting turns room.state (v d).log (v e).log b c tally
  pub gone : HasGone goes t room.setting turns room.state d e b c tally
  pub made : (v e).made ≡ (v d).made
  pub faults : AreFaultsTold (v d).faults (v e).faults tally.faults

-- The workers and the desk ran from the book b, which had gone on from the list `first`, and all were joined. What the opening had
-- left of the ports is told apart
pub record HasServed {P S D T : Type 0} (v : PortView P S) (w : DeskView D T) (goes : D → DeskEntry → D → Type 0) (t : Table) (f : File) (room : Room) (first : List Step) (os qs : List P) (d e : D) (b joined : Book) (report : Report) : Type 0 where
  pub at_end : Book
  pub desk : DeskRan t w goes f.turns room d e b at_end report.desk
  pub lists : List (List Step)
  pub joins : JoinsAll t 1 lists at_end joined
  pub fits : BookFits joined
  pub workers : length lists ≡ length os
  pub one : OneHistory (size_of t) first (steps_of joined) (joined_parts joined.seat) lists
  pub grew : (more : List Step) × (steps_of joined ≡ more ++ first)
  pub ports : (ps : List P) (told : List PortEntry) → AllPorts (IsOpening v f.locals told) (IsOpening v f.locals []) ps os → AllServed v t f (config_at (steps_of joined)) told ps qs lists report.workers.items
  pub live : AreBound one.history (map (λ s. s.key) joined.live)
  pub live_count : report.live ≡ length joined.live
