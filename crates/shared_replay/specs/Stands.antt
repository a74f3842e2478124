-- What a replay over the shared table keeps stands for the table of a replay (this project's own).
use Rattle.std.specs.Prelude.{◌≡◌, ℕ, ◌^◌, ◌≤◌, false, List, [], ◌∷◌, ◌++◌, length, drop, map, Option}
use Rattle.refl_types.specs.declared.types.Endpoint.{Endpoint}
use Rattle.refl_types.specs.declared.types.Key.{Key}
use Rattle.refl_types.specs.HmacKey.{HasHmacKey}
use Rattle.refl_types.specs.declared.config.ConfigParts.{ConfigParts}
use Rattle.session_world.specs.declared.steps.Step.{Step}
use Rattle.session_world.specs.Desk.{config_at, IsComplete}
use Rattle.session_world.specs.OneThread.{IsBetween}
use Rattle.session_rule.specs.declared.seats.Table as rule
use Rattle.session_rule.specs.Seats.{joined_parts}
use Rattle.session_table.specs.Knowing.{Places, KeptAs}
use Rattle.session_desk.specs.Book.{Book, IsBookOf, steps_of}
use Rattle.session_desk.specs.Fits.{reserves_in}
use Rattle.session_desk.specs.declared.session.ReserveFault.{ReserveFault}
use Rattle.session_desk.specs.declared.session.ReserveFault.TheVariants as faults
use Rattle.session_desk.specs.declared.session.SetFault.{SetFault}
use Rattle.session_desk.specs.declared.session.SetFault.TheVariants as set_faults
use Rattle.replay_format.specs.declared.code.OpenAnswer.{OpenAnswer}
use Rattle.replay_format.specs.declared.code.OpenAnswer.TheVariants as opens
use Rattle.replay_format.specs.declared.code.SetAnswer.{SetAnswer}
use Rattle.replay_format.specs.declared.code.SetAnswer.TheVariants as sets
use Rattle.replay_format.specs.Records.{Item, Opening, Setting, Datagram, Arrives, spellings}
use Rattle.replay_format.specs.Answers.{answer_octets}
use Rattle.replay_table.specs.Table.{Entry, Table, empty_table, is_bound, session_at}
use Rattle.replay_table.specs.Outcomes.{open_answer, after_opening, set_answer, after_setting, count_of, after_closing, answer, after, table_after}
use Rattle.shared_replay.specs.Following.{Follows}

-- ---- what always holds

-- The book is that of the table, which has 4,096 slots, 1,024 rows and one worker, which isn't split off. No session is
-- reserved, and at most 1,024 are live
pub record IsDesk (t : rule.Table) (b : Book) : Type 0 where
  pub same : IsBookOf t b
  pub slots : b.size.slots ≡ 4096
  pub rows : b.size.rows ≡ 1024
  pub between : IsBetween b.size (steps_of b) (joined_parts b.seat)
  pub nobody : b.reserved ≡ []
  pub few : length b.live ≤ 1024

-- Each row that is kept has the configuration that the desk wrote: it is so for whatever rows stand for, as long as those that
-- the desk has written whole stand for theirs
abbrev pub AreKept : List Step → Places → Type 0
AreKept ds known = (config : ℕ → ConfigParts) → ((r : ℕ) → IsComplete ds r → config r ≡ config_at ds r) → KeptAs config known

-- what a call of the desk leaves: it is the desk's, rows stay as they are kept, and at most one session was reserved
pub record IsDeskAfter (t : rule.Table) (before after : Book) : Type 0 where
  pub desk : IsDesk t after
  pub rows : (known : Places) → AreKept (steps_of before) known → AreKept (steps_of after) known

-- ---- the table of a replay

abbrev pub live_keys : Book → List Key
live_keys b = map (λ s. s.key) b.live

abbrev pub keys_of : List Entry → List Key
keys_of es = map (λ e. e.key) es

-- sessions of mode Auth have HMAC keys
abbrev pub AreKeyed : List Entry → Type 0
AreKeyed [] = Unit {0}
AreKeyed (e ∷ es) = HasHmacKey e.key.mode e.config × AreKeyed es

-- the sessions and the configurations are those of the table
pub record HoldsTable (b : Book) (t : Table) : Type 0 where
  pub follows : Follows b.size (steps_of b) (joined_parts b.seat) t.sessions
  pub keys : live_keys b ≡ keys_of t.sessions
  pub configs : b.rows.configs ≡ t.configs

-- the book, and the reflector's own addresses
pub record Kept : Type 0 where
  pub book : Book
  pub locals : List Endpoint

-- the records are no longer than the longest stream
abbrev pub AreWithin : List Item → Type 0
AreWithin records = length (spellings records) ≤ 2 ^ 30

-- It stands for the table after these records, and no more sessions were reserved so far than there are records
pub record Stands (k : Kept) (records : List Item) : Type 0 where
  pub holds : HoldsTable k.book (table_after empty_table records)
  pub locals : k.locals ≡ (table_after empty_table records).locals
  pub reserves : reserves_in (steps_of k.book) ≤ length records

-- ---- one record

-- the answer to a datagram was written at the front, n octets, and the book holds the table after it
pub record IsArrived (t : Table) (d : Datagram) (after_it : Book) (before written : List ℕ) (n : ℕ) : Type 0 where
  pub octets : written ≡ answer_octets (answer t (Arrives d)) ++ drop n before
  pub len : n ≡ length (answer_octets (answer t (Arrives d)))
  pub holds : HoldsTable after_it (after t (Arrives d))

-- so it is where the book has held a table in which sessions of mode Auth have HMAC keys, and these are its addresses
abbrev pub HasArrived : Book → Table → List Endpoint → Datagram → Book → List ℕ → List ℕ → ℕ → Type 0
HasArrived book t locals d after_it before written n = HoldsTable book t → AreKeyed t.sessions → locals ≡ t.locals → IsArrived t d after_it before written n

-- the answer to an opening that the book refuses
abbrev pub refusal : ReserveFault → OpenAnswer
refusal (faults.Duplicate j) = opens.Duplicate
refusal (faults.ModeClash j) = opens.ModeClash
refusal faults.NoKey = opens.NoKey
refusal faults.RowsFull = opens.RowsFull
refusal (faults.Full live reserved retired held) = opens.Full

-- an opening was answered
pub record HasOpened (t : Table) (o : Opening) (a : OpenAnswer) (book : Book) : Type 0 where
  pub answer : a ≡ open_answer t o
  pub holds : HoldsTable book (after_opening (open_answer t o) t o)

-- A session was begun that the book had admitted: it is opened, where the book has held a table in which no session has the key,
-- and too few sessions were reserved so far for the slots to run out
abbrev pub HasBegun : Book → Table → Opening → OpenAnswer → Book → Type 0
HasBegun book t o a after_it = HoldsTable book t → is_bound o.key t.sessions ≡ false → reserves_in (steps_of book) ≤ 2 ^ 29
    → (a ≡ opens.Opened) × HoldsTable after_it (after_opening opens.Opened t o)

-- the answer to a setting that the book refuses
abbrev pub set_refusal : SetFault → SetAnswer
set_refusal set_faults.NoSuch = sets.NoSuch
set_refusal set_faults.NoKey = sets.NoKey
set_refusal set_faults.RowsFull = sets.RowsFull

-- so was a setting
pub record HasSet (t : Table) (s : Setting) (a : SetAnswer) (book : Book) : Type 0 where
  pub answer : a ≡ set_answer t s
  pub holds : HoldsTable book (after_setting (set_answer t s) t s)

-- and a closing
pub record HasClosed (t : Table) (k : Key) (count : Option ℕ) (book : Book) : Type 0 where
  pub count_is : count ≡ count_of (session_at k t.sessions)
  pub holds : HoldsTable book (after_closing t k)

-- the answer to a record was written at the front, n octets, and what is kept stands for the table after it
pub record IsAnswered (records : List Item) (new : Kept) (item : Item) (before written : List ℕ) (n : ℕ) : Type 0 where
  pub octets : written ≡ answer_octets (answer (table_after empty_table records) item) ++ drop n before
  pub len : n ≡ length (answer_octets (answer (table_after empty_table records) item))
  pub stands : Stands new (records ++ item ∷ [])
