-- The book at first, and workers that are split off by it and joined by it (this project's own).
use Rattle.std.specs.Prelude.{◌≡◌, []}
use Rattle.session_world.specs.declared.steps.TableSize.{TableSize}
use Rattle.session_world.specs.Sizes.{IsWithinLimits}
use Rattle.session_rule.specs.declared.seats.Table.{Table}
use Rattle.session_rule.specs.declared.seats.Seat.{Seat}
use Rattle.session_rule.specs.declared.seats.WorkerSeat.{WorkerSeat}
use Rattle.session_rule.specs.Seats.{desk_steps, joined_parts, IsDeskOfOneSchedule, HasSplitOff, HasJoined}
use Rattle.session_desk.specs.Book.{Book}

-- the seat is that of a table that was never used
abbrev pub IsUnused : TableSize → Seat → Type 0
IsUnused z s = IsWithinLimits z × (desk_steps s ≡ []) × (joined_parts s ≡ []) × IsDeskOfOneSchedule z [] []

-- no row, no session
abbrev pub first_book : Seat → TableSize → Book
first_book seat size = record { seat = seat; size = size; rows = record { configs = []; limit = size.rows }; live = []; reserved = []; keys = [] }

-- the desk's seat has split the worker off, and all else is as before
pub record HasSplit (t : Table) (before after : Book) (w : WorkerSeat) : Type 0 where
  pub seat : HasSplitOff t before.seat after.seat w
  pub book : after ≡ record before { seat = after.seat }

-- the desk's seat has joined the worker, and all else is as before
pub record IsJoined (t : Table) (before : Book) (w : WorkerSeat) (after : Book) : Type 0 where
  pub seat : HasJoined t before.seat w after.seat
  pub book : after ≡ record before { seat = after.seat }
