-- Plans: what the desk does next, given how what it did so far came out (this project's own). And when a plan was followed.
use Rattle.std.specs.Prelude.{◌≡◌, ℕ, ◌+◌, ◌-◌, ◌^◌, min, List, [], ◌∷◌, ◌++◌, take, Option, Some, None, Result, Ok}
use Rattle.refl_types.specs.declared.types.Key.{Key}
use Rattle.refl_types.specs.declared.types.Extra.{Extra}
use Rattle.refl_types.specs.declared.config.ConfigParts.{ConfigParts}
use Rattle.refl_types.specs.declared.outcome.Place.{Place}
use Rattle.port_io.specs.Outside.{Rises}
use Rattle.net_io.specs.declared.desk.Timed.{Timed}
use Rattle.net_io.specs.Log.{Grows}
use Rattle.net_io.specs.DeskShown.{DeskShown}
use Rattle.net_io.specs.Desk.{DeskEntry, octet_count, gave, next_failed, sent, send_failed, hung_up}
use Rattle.session_rule.specs.declared.seats.Table.{Table}
use Rattle.session_desk.specs.declared.session.NoSuch.{NoSuch}
use Rattle.session_desk.specs.declared.session.ReserveFault.{ReserveFault}
use Rattle.session_desk.specs.declared.session.SetFault.{SetFault}
use Rattle.session_desk.specs.declared.session.Ticked.{Ticked}
use Rattle.session_desk.specs.Book.{Book}
use Rattle.session_desk.specs.Makes.{BookCall, Makes, reserves, starts, abandons, sets, closes, closes_at, counts, ticks, tells_length, tells_key, tells_place}
use Rattle.control_desk.specs.declared.counts.Counts.{Counts}
use Rattle.control_desk.specs.declared.counts.DeskEnd.{DeskEnd}

-- ---- a plan

pub data Plan : Type 0 where
  -- hears the next event with its octets, or that there was a fault
  hear : (Timed → List ℕ → Plan) → Plan → Plan
  -- sends octets on a connection; how it goes on where they were sent, and where that failed
  send : ℕ → List ℕ → Plan → Plan → Plan
  hang_up : ℕ → Plan → Plan
  -- the calls of the book, with how it goes on for each answer
  reserve : Key → Extra → ConfigParts → ℕ → (Result Place ReserveFault → Plan) → Plan
  start : Place → ℕ → (Result (Unit {0}) NoSuch → Plan) → Plan
  abandon : Place → (Result (Unit {0}) NoSuch → Plan) → Plan
  set : Key → ConfigParts → (Result (Unit {0}) SetFault → Plan) → Plan
  close : Key → (Result ℕ NoSuch → Plan) → Plan
  close_at : Key → ℕ → (Result (Unit {0}) NoSuch → Plan) → Plan
  count : Key → (Result ℕ NoSuch → Plan) → Plan
  tick : ℕ → (Ticked → Plan) → Plan
  live_len : (ℕ → Plan) → Plan
  live_at : ℕ → (Option Key → Plan) → Plan
  live_place : Key → (Option Place → Plan) → Plan
  -- the desk ends
  stop : DeskEnd → Plan

-- ---- what was done

-- an entry of the desk's log, or a call of the book with its answer
pub data Act : Type 0 where
  noted : DeskEntry → Act
  called : BookCall → Act

-- the plan p asks for this act, and then goes on as q
abbrev pub IsNext : Plan → Act → Plan → Type 0
IsNext (hear given failed) (noted (gave t octets)) q = q ≡ given t octets
IsNext (hear given failed) (noted next_failed) q = q ≡ failed
IsNext (send n o ok failed) (noted (sent m p)) q = (m ≡ n) × (p ≡ o) × (q ≡ ok)
IsNext (send n o ok failed) (noted (send_failed m p)) q = (m ≡ n) × (p ≡ o) × (q ≡ failed)
IsNext (hang_up n next) (noted (hung_up m)) q = (m ≡ n) × (q ≡ next)
IsNext (reserve k x c wait next) (called (reserves k' x' c' wait' a)) q = (k' ≡ k) × (x' ≡ x) × (c' ≡ c) × (wait' ≡ wait) × (q ≡ next a)
IsNext (start p now next) (called (starts p' now' a)) q = (p' ≡ p) × (now' ≡ now) × (q ≡ next a)
IsNext (abandon p next) (called (abandons p' a)) q = (p' ≡ p) × (q ≡ next a)
IsNext (set k c next) (called (sets k' c' a)) q = (k' ≡ k) × (c' ≡ c) × (q ≡ next a)
IsNext (close k next) (called (closes k' a)) q = (k' ≡ k) × (q ≡ next a)
IsNext (close_at k moment next) (called (closes_at k' moment' a)) q = (k' ≡ k) × (moment' ≡ moment) × (q ≡ next a)
IsNext (count k next) (called (counts k' a)) q = (k' ≡ k) × (q ≡ next a)
IsNext (tick now next) (called (ticks now' a)) q = (now' ≡ now) × (q ≡ next a)
IsNext (live_len next) (called (tells_length a)) q = q ≡ next a
IsNext (live_at i next) (called (tells_key i' a)) q = (i' ≡ i) × (q ≡ next a)
IsNext (live_place k next) (called (tells_place k' a)) q = (k' ≡ k) × (q ≡ next a)
IsNext _ _ q = ⊥

-- the plan p, with these acts done, goes on as q
abbrev pub Leads : Plan → List Act → Plan → Type 0
Leads p [] q = q ≡ p
Leads p (a ∷ acts) q = (m : Plan) × IsNext p a m × Leads m acts q

-- ---- what these acts do to the log, to the book and to the counts

abbrev pub entry_in : Act → List DeskEntry
entry_in (noted e) = e ∷ []
entry_in (called c) = []

abbrev pub entries_in : List Act → List DeskEntry
entries_in [] = []
entries_in (a ∷ acts) = entry_in a ++ entries_in acts

-- the book of the table goes from b to c by the calls, one after the other
abbrev pub MakesAll : Table → List Act → Book → Book → Type 0
MakesAll t [] b c = c ≡ b
MakesAll t (called call ∷ acts) b c = (m : Book) × Makes t call b m × MakesAll t acts m c
MakesAll t (noted e ∷ acts) b c = MakesAll t acts b c

-- a count stands still at the last value of its type
abbrev pub plus : ℕ → ℕ → ℕ
plus n m = min (n + m) (2 ^ 64 - 1)

-- events are those that were heard, and faults the calls of the desk that failed; sessions are closed by a call that
-- says so, and at their closing moments; they expire by ticks
abbrev pub counts_with : Counts → Act → Counts
counts_with n (noted (gave t octets)) = record n { events = plus n.events 1 }
counts_with n (noted next_failed) = record n { faults = plus n.faults 1 }
counts_with n (noted (send_failed m o)) = record n { faults = plus n.faults 1 }
counts_with n (called (closes k (Ok m))) = record n { closed = plus n.closed 1 }
counts_with n (called (ticks now t)) = record n { closed = plus n.closed t.closed; expired = plus n.expired t.expired }
counts_with n _ = n

abbrev pub counts_after : Counts → List Act → Counts
counts_after n [] = n
counts_after n (a ∷ acts) = counts_after (counts_with n a) acts

-- ---- the desk, as it shows itself

-- a desk D that tells a setup of type S, and that goes on in this way
pub record DeskView (S D : Type 0) (goes : D → DeskEntry → D → Type 0) : Type 0 where
  -- itself
  pub it : D
  -- what it shows of itself
  pub shown : DeskShown S

-- its count of faults rises with each failure of a run, and stays otherwise
abbrev pub Fails : DeskEntry → ℕ → ℕ → Type 0
Fails next_failed old new = Rises old new
Fails (send_failed n octets) old new = Rises old new
Fails _ old new = new ≡ old

-- the desk goes on by an entry
pub record Shows {S D : Type 0} {goes : D → DeskEntry → D → Type 0} (e : DeskEntry) (d d' : DeskView S D goes) : Type 0 where
  pub went : goes d.it e d'.it
  pub is_open : d'.shown.is_open ≡ d.shown.is_open
  pub made : d'.shown.made ≡ d.shown.made
  pub log : Grows d.shown.log d'.shown.log (e ∷ [])
  pub faults : Fails e d.shown.faults d'.shown.faults

-- and by all entries, one after the other
abbrev pub ShowsAll : {S D : Type 0} {goes : D → DeskEntry → D → Type 0} → List Act → DeskView S D goes → DeskView S D goes → Type 0
ShowsAll [] d d' = d' ≡ d
ShowsAll {S} {D} {goes} (noted e ∷ acts) d d' = (m : DeskView S D goes) × Shows e d m × ShowsAll acts m d'
ShowsAll (called call ∷ acts) d d' = ShowsAll acts d d'

-- ---- a plan is followed from p to q: there are acts for which the plan asks, one after the other; the desk went on by just
-- their entries, the book by just their calls, and the counts count them
pub record Follows {S D : Type 0} {goes : D → DeskEntry → D → Type 0} (t : Table) (p q : Plan) (d d' : DeskView S D goes) (b b' : Book) (n n' : Counts) : Type 0 where
  pub acts : List Act
  pub leads : Leads p acts q
  pub shown : ShowsAll acts d d'
  pub made : MakesAll t acts b b'
  pub counted : n' ≡ counts_after n acts

-- ---- what a desk shows, and how a plan goes on behind an event

abbrev pub view_of : {S D : Type 0} {goes : D → DeskEntry → D → Type 0} → D → DeskShown S → DeskView S D goes
view_of it shown = record { it = it; shown = shown }

abbrev pub heard_plan : (Timed → List ℕ → Plan) → Plan → List ℕ → Option Timed → Plan
heard_plan given failed buf None = failed
heard_plan given failed buf (Some t) = given t (take (octet_count t.event) buf)
