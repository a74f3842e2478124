-- What whoever runs the desk may rely on, whatever calls come between (this project's own).
use Rattle.std.specs.Prelude.{◌≡◌, ◌⊎◌, ℕ, true, false, map, Ok, Err}
use Rattle.std.specs.List.{list_any}
use Rattle.refl_types.specs.declared.types.Key.{Key}
use Rattle.refl_types.specs.declared.types.Extra.{Extra}
use Rattle.refl_types.specs.declared.config.ConfigParts.{ConfigParts}
use Rattle.refl_types.specs.declared.outcome.Place.{Place}
use Rattle.config_rows.specs.Rows.{IsRow}
use Rattle.session_world.specs.Keys.{is_auth}
use Rattle.session_rule.specs.declared.seats.Table.{Table}
use Rattle.session_desk.specs.declared.session.NoSuch.{NoSuch}
use Rattle.session_desk.specs.declared.session.RowsFull.{RowsFull}
use Rattle.session_desk.specs.declared.session.ReserveFault.TheVariants as reserve
use Rattle.session_desk.specs.Sessions.{is_at}
use Rattle.session_desk.specs.Book.{Book}
use Rattle.session_desk.specs.Fits.{BookFits}
use Rattle.session_desk.specs.Going.{DeskWent}
use Rattle.session_desk.specs.Makes.{Makes, BookCall, reserves, keeps_row, starts, abandons, closes, ticks}

-- ---- reserved sessions

abbrev pub IsReservedAt : Book → Place → Type 0
IsReservedAt b p = list_any (is_at p) b.reserved ≡ true

-- the call has started the session of the place, or given it up
abbrev pub LeavesPlace : BookCall → Place → Type 0
LeavesPlace (starts q now (Ok u)) p = q ≡ p
LeavesPlace (abandons q (Ok u)) p = q ≡ p
LeavesPlace _ p = ⊥

-- What was reserved stays so until it is started or given up, and until then its start is not refused
pub record PlacesStay : Type 0 where
  pub reserved : (t : Table) (k : Key) (x : Extra) (c : ConfigParts) (wait : ℕ) (p : Place) (b d : Book) → Makes t (reserves k x c wait (Ok p)) b d → IsReservedAt d p
  pub stays : (t : Table) (call : BookCall) (b d : Book) (p : Place) → BookFits b → Makes t call b d → IsReservedAt b p → LeavesPlace call p ⊎ IsReservedAt d p
  pub starts : (t : Table) (p : Place) (now : ℕ) (f : NoSuch) (b d : Book) → IsReservedAt b p → ¬ Makes t (starts p now (Err f)) b d

-- ---- rows

-- A row that is kept stays that of its configuration. No session with it is refused for want of rows, and none that needs no
-- HMAC key for want of one
pub record RowsServe : Type 0 where
  pub kept : (t : Table) (c : ConfigParts) (u : Unit {0}) (b d : Book) → Makes t (keeps_row c (Ok u)) b d → (row : ℕ) × IsRow d.rows c row
  pub stays : (t : Table) (c : ConfigParts) (row : ℕ) (b d : Book) → DeskWent t b d → IsRow b.rows c row → IsRow d.rows c row
  pub row : (t : Table) (k : Key) (x : Extra) (c : ConfigParts) (wait row : ℕ) (b d : Book) → IsRow b.rows c row → ¬ Makes t (reserves k x c wait (Err reserve.RowsFull)) b d
  pub key : (t : Table) (k : Key) (x : Extra) (c : ConfigParts) (wait : ℕ) (b d : Book) → is_auth k ≡ false → ¬ Makes t (reserves k x c wait (Err reserve.NoKey)) b d

-- ---- live sessions

-- the call may change which sessions are live
abbrev pub ChangesLive : BookCall → Type 0
ChangesLive (starts p now (Ok u)) = Unit {0}
ChangesLive (closes k (Ok n)) = Unit {0}
ChangesLive (ticks now ticked) = Unit {0}
ChangesLive _ = ⊥

-- no other call does
abbrev pub LiveStay : Type 0
LiveStay = (t : Table) (call : BookCall) (b d : Book) → Makes t call b d → ChangesLive call ⊎ (map (λ s. s.key) d.live ≡ map (λ s. s.key) b.live)
