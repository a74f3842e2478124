-- All parts of a run.
use Rattle.std.proofs.Common.{◌≡◌, ℕ, List, [], ◌∷◌, ◌++◌, length, Result, Ok, Err, IfOk, sym, ◌∙◌, subst}
use Rattle.net_io.specs.Log.{Grows}
use Rattle.net_io.specs.Port.{read}
use Rattle.net_io.specs.Desk.{DeskEntry, opened}
use Rattle.session_world.specs.Rows.{RowsStay}
use Rattle.session_rule.specs.declared.seats.Table.{Table}
use Rattle.session_rule.specs.Seats.{size_of, joined_parts}
use Rattle.session_desk.specs.Book.{Book, steps_of}
use Rattle.session_desk.specs.Fits.{BookFits}
use Rattle.conf_text.specs.File.{File}
use Rattle.file_opening.specs.Opening.{size_in, IsNewBook, OpensFile}
use Rattle.file_opening.specs.Opened.{HasOpened}
use Rattle.control_desk.specs.State.{Room}
use Rattle.control_desk.specs.Connections.{first_room}
use Rattle.reflector_serve.specs.declared.report.Report.{Report}
use Rattle.reflector_serve.specs.declared.report.ServeFault.{ServeFault}
use Rattle.control_desk.specs.Faults.{AreFaultsTold}
use Rattle.control_desk.specs.Run.{HasRun, HasGone}
use Rattle.reflector_serve.specs.Ports.{PortView, IsBound, Each, FirstTold}
use Rattle.reflector_serve.specs.Phases.{SplitsOff}
use Rattle.reflector_serve.specs.Served.{DeskView, Served}
use Rattle.reflector_serve.specs.Running.{HasServed}
use Rattle.reflector_serve.proofs.BeginFacts.{begins}
use Rattle.reflector_serve.proofs.QuietFacts.{all_opening}
use Rattle.reflector_serve.proofs.WideFacts.{wide_served}

-- ---- the whole

-- how the desk was opened
pub record IsReady {D S : Type 0} (v : DeskView D S) (goes : D → DeskEntry → D → Type 0) (f : File) (d e : D) : Type 0 where
  pub log : Grows (v d).log (v e).log (opened f.control f.operator ∷ [])
  pub opens : goes d (opened f.control f.operator) e
  pub made : (v e).made ≡ (v d).made
  pub still : (v e).faults ≡ (v d).faults

module _ {P S D T : Type 0} (v : PortView P S) (w : DeskView D T) (goes : D → DeskEntry → D → Type 0) (t : Table) (f : File) (room : Room) (moment : ℕ) (ps ts os qs : List P) (d r e : D) (before b split c : Book) (report : Report) where
  pub whole_served : size_of t ≡ size_in f → IsNewBook t f before → OpensFile t f moment before b → HasOpened t f moment before b → BookFits b → RowsStay → SplitsOff t f.workers b split → room ≡ first_room f
      → FirstTold v moment ps ts → Each (IsBound v f.locals) ts os → length ps ≡ f.workers → IsReady w goes f d r
      → HasServed v w goes t f room (steps_of b) os qs r e split c report → Served v w goes f ps qs d e report
  whole_served size new opens h fits stay splits is_room told each many ready hs = record {
    table = t;
    size = size;
    moment = moment;
    before = before;
    new = new;
    at_first = b;
    opening = opens;
    at_split = split;
    splits = splits;
    at_end = hs.at_end;
    desk = record {
      ready = r;
      opening = ready.log;
      opens = ready.opens;
      ran = subst (λ (x : Room). HasRun t x.setting f.turns x.state (w r).log (w e).log split hs.at_end report.desk) is_room hs.desk.ran;
      gone = subst (λ (x : Room). HasGone goes t x.setting f.turns x.state r e split hs.at_end report.desk) is_room hs.desk.gone;
      made = hs.desk.made ∙ ready.made;
      faults = subst (λ (n : ℕ). AreFaultsTold n (w e).faults report.desk.faults) ready.still hs.desk.faults;
    };
    joined = c;
    lists = hs.lists;
    workers = hs.workers ∙ each.len ∙ told.len ∙ many;
    joins = hs.joins;
    fits = hs.fits;
    one = hs.one;
    begins = begins t (size_of t) f moment before b c (joined_parts c.seat) hs.lists h fits stay hs.one hs.grew;
    ports = hs.ports ps (read moment ∷ []) (all_opening v moment ps ts os told f.locals each);
    live = hs.live;
    live_count = hs.live_count;
  }

-- further ports
pub wide : {P S D T : Type 0} (v : PortView P S) (w : DeskView D T) (goes : D → DeskEntry → D → Type 0) (f : File) (ps qs rest : List P) (d e : D) (report : Report) → Served v w goes f ps qs d e report → Served v w goes f (ps ++ rest) (qs ++ rest) d e report
wide v w goes f ps qs rest d e report s = record {
  table = s.table;
  size = s.size;
  moment = s.moment;
  before = s.before;
  new = s.new;
  at_first = s.at_first;
  opening = s.opening;
  at_split = s.at_split;
  splits = s.splits;
  at_end = s.at_end;
  desk = s.desk;
  joined = s.joined;
  lists = s.lists;
  workers = s.workers;
  joins = s.joins;
  fits = s.fits;
  one = s.one;
  begins = s.begins;
  ports = wide_served v s.table f _ (read s.moment ∷ []) ps qs rest s.lists report.workers.items s.ports;
  live = s.live;
  live_count = s.live_count;
}

pub wide_ok : {P S D T : Type 0} (v : PortView P S) (w : DeskView D T) (goes : D → DeskEntry → D → Type 0) (f : File) (all ps qs rest : List P) (d e : D) (r : Result Report ServeFault) → all ≡ ps ++ rest
    → IfOk r (λ y. Served v w goes f ps qs d e y) → IfOk r (λ y. Served v w goes f all (qs ++ rest) d e y)
wide_ok {P} v w goes f all ps qs rest d e (Ok y) split s = subst (λ (xs : List P). Served v w goes f xs (qs ++ rest) d e y) (sym split) (wide v w goes f ps qs rest d e y s)
wide_ok v w goes f all ps qs rest d e (Err x) split s = tt
