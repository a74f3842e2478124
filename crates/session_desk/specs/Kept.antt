-- What always holds of the book (this project's own).
use Rattle.std.specs.Prelude.{◌≡◌, ℕ, ◌*◌, ◌≤◌, List, length, map, slice_index_or}
use Rattle.refl_types.specs.declared.config.ConfigParts.{ConfigParts}
use Rattle.config_rows.specs.Rows.{Rows, IsRow}
use Rattle.session_world.specs.declared.steps.TableSize.{TableSize}
use Rattle.session_world.specs.declared.steps.Step.{Step}
use Rattle.session_world.specs.Sizes.{IsWithinLimits}
use Rattle.session_world.specs.Desk.{rows_written, config_at}
use Rattle.session_world.specs.Answers.{desk_answers}
use Rattle.session_rule.specs.declared.seats.Seat.{Seat}
use Rattle.session_rule.specs.Seats.{desk_steps, joined_parts, IsDeskOfOneSchedule}
use Rattle.session_desk.specs.declared.session.Slot.{Slot}
use Rattle.session_desk.specs.Book.{Book, line_of, lines_left}
use Rattle.session_desk.specs.Slots.{AreSlots, IsOrder, Reaches, session_in, key_in, is_live, is_reserving, is_taken}

-- the rows are those that the desk has written, with their configurations
pub record RowsFit (z : TableSize) (ds : List Step) (rows : Rows) : Type 0 where
  pub limit : rows.limit ≡ z.rows
  pub written : rows_written ds ≡ 12 * length rows.configs
  pub configs : (c : ConfigParts) (row : ℕ) → IsRow rows c row → config_at ds row ≡ c

-- of the desk's list, the slots and the three orders
pub record IsKept (z : TableSize) (ds : List Step) (book : Rows) (ss : List Slot) (started_in reserved_in all far : List ℕ) : Type 0 where
  pub limits : IsWithinLimits z
  pub slots : AreSlots z ds ss
  pub live : IsOrder is_live ss started_in
  pub reserved : IsOrder is_reserving ss reserved_in
  pub taken : IsOrder is_taken ss all
  pub rows : RowsFit z ds book
  pub lines : map (λ i. line_of (session_in ss i)) started_in ≡ lines_left (desk_answers ds)
  pub reach : Reaches z ss far
  pub width : length far ≡ z.slots
  pub range : (i : ℕ) → slice_index_or far i 0 ≤ z.slots

-- what contracts see of the parts
abbrev pub book_of : Seat → TableSize → Rows → List Slot → (live reserved taken : List ℕ) → Book
book_of seat size rows slots live reserved taken = record {
  seat = seat;
  size = size;
  rows = rows;
  live = map (session_in slots) live;
  reserved = map (session_in slots) reserved;
  keys = map (key_in slots) taken;
}

abbrev pub IsScheduled : TableSize → Seat → Type 0
IsScheduled z seat = IsDeskOfOneSchedule z (desk_steps seat) (joined_parts seat)
