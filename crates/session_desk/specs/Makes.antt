-- The calls of the book, each with its answer, and how the book goes on by them (this project's own).
use Rattle.std.specs.Prelude.{◌≡◌, ℕ, List, length, find, option_map, Option, Result, Ok, Err}
use Rattle.std.specs.List.{slice_get}
use Rattle.refl_types.specs.declared.types.Key.{Key}
use Rattle.refl_types.specs.declared.types.Extra.{Extra}
use Rattle.refl_types.specs.declared.config.ConfigParts.{ConfigParts}
use Rattle.refl_types.specs.declared.outcome.Place.{Place}
use Rattle.session_rule.specs.declared.seats.Table.{Table}
use Rattle.session_desk.specs.declared.session.NoSuch.{NoSuch}
use Rattle.session_desk.specs.declared.session.RowsFull.{RowsFull}
use Rattle.session_desk.specs.declared.session.ReserveFault.{ReserveFault}
use Rattle.session_desk.specs.declared.session.SetFault.{SetFault}
use Rattle.session_desk.specs.declared.session.Ticked.{Ticked}
use Rattle.session_desk.specs.declared.session.Session.{Session}
use Rattle.session_desk.specs.Sessions.{is_of}
use Rattle.session_desk.specs.Book.{Book}
use Rattle.session_desk.specs.Calls.{HasNoPlace, IsNotLive, NoCause, HasNoRoom, HasStarted, HasAbandoned, HasClosed, HasCounted, ClosesLater, HasReserved, HasKeptRow, HasSet}
use Rattle.session_desk.specs.Refusals.{IsRefused, IsNotAdmitted, IsSetRefused, IsUnmoved}
use Rattle.session_desk.specs.Ticking.{HasTicked}

-- a call with its answer
pub data BookCall : Type 0 where
  admits : Key → ConfigParts → Result (Unit {0}) ReserveFault → BookCall
  reserves : Key → Extra → ConfigParts → (wait : ℕ) → Result Place ReserveFault → BookCall
  keeps_row : ConfigParts → Result (Unit {0}) RowsFull → BookCall
  starts : Place → (now : ℕ) → Result (Unit {0}) NoSuch → BookCall
  abandons : Place → Result (Unit {0}) NoSuch → BookCall
  sets : Key → ConfigParts → Result (Unit {0}) SetFault → BookCall
  closes : Key → Result ℕ NoSuch → BookCall
  closes_at : Key → (moment : ℕ) → Result (Unit {0}) NoSuch → BookCall
  counts : Key → Result ℕ NoSuch → BookCall
  ticks : (now : ℕ) → Ticked → BookCall
  tells_length : ℕ → BookCall
  tells_key : (index : ℕ) → Option Key → BookCall
  tells_place : Key → Option Place → BookCall

-- the key of the live session that was started as the one of that number, from 0 on
abbrev pub key_at : List Session → ℕ → Option Key
key_at live index = option_map (λ s. s.key) (slice_get live index)

-- the place of the live session of a key
abbrev pub place_of_key : List Session → Key → Option Place
place_of_key live k = option_map (λ s. s.place) (find (is_of k) live)

-- The book goes from b to c by a call with its answer
abbrev pub Makes : Table → BookCall → Book → Book → Type 0
Makes t (admits k x (Ok u)) b c = NoCause b k x × (c ≡ b)
Makes t (admits k x (Err f)) b c = IsNotAdmitted b k x f × (c ≡ b)
Makes t (reserves k e x wait (Ok p)) b c = HasReserved t b k e x wait p c
Makes t (reserves k e x wait (Err f)) b c = IsRefused b k x f × IsUnmoved t b f c
Makes t (keeps_row x (Ok u)) b c = HasKeptRow t b x c
Makes t (keeps_row x (Err f)) b c = HasNoRoom b x × (c ≡ b)
Makes t (starts p now (Ok u)) b c = HasStarted t b p now c
Makes t (starts p now (Err f)) b c = HasNoPlace b p × (c ≡ b)
Makes t (abandons p (Ok u)) b c = HasAbandoned b p c
Makes t (abandons p (Err f)) b c = HasNoPlace b p × (c ≡ b)
Makes t (sets k x (Ok u)) b c = HasSet t b k x c
Makes t (sets k x (Err f)) b c = IsSetRefused b k x f × (c ≡ b)
Makes t (closes k (Ok n)) b c = HasClosed t b k c n
Makes t (closes k (Err f)) b c = IsNotLive b k × (c ≡ b)
Makes t (closes_at k moment (Ok u)) b c = ClosesLater b k moment c
Makes t (closes_at k moment (Err f)) b c = IsNotLive b k × (c ≡ b)
Makes t (counts k (Ok n)) b c = HasCounted t b k c n
Makes t (counts k (Err f)) b c = IsNotLive b k × (c ≡ b)
Makes t (ticks now ticked) b c = HasTicked t b now ticked c
Makes t (tells_length n) b c = (n ≡ length b.live) × (c ≡ b)
Makes t (tells_key index o) b c = (o ≡ key_at b.live index) × (c ≡ b)
Makes t (tells_place k o) b c = (o ≡ place_of_key b.live k) × (c ≡ b)
