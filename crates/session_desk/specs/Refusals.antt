-- Why a session is not reserved, and why one is not set to another configuration (this project's own).
use Rattle.std.specs.Prelude.{◌≡◌, ℕ, ◌+◌, ◌<◌, ◌≤◌, ◌==◌, nat_lt, Bool, true, false, ◌&&◌, not, List, length, count_by, find, Some}
use Rattle.std.specs.List.{Contains, list_any, range_with_len}
use Rattle.refl_types.specs.declared.types.Key.{Key}
use Rattle.refl_types.specs.declared.config.ConfigParts.{ConfigParts}
use Rattle.refl_types.specs.Same.{same_key}
use Rattle.slot_word.specs.Fields.{greatest_generation}
use Rattle.session_world.specs.Desk.{generation_of}
use Rattle.session_rule.specs.declared.seats.Table.{Table}
use Rattle.session_desk.specs.declared.session.ReserveFault.{ReserveFault}
use Rattle.session_desk.specs.declared.session.ReserveFault.TheVariants.{Duplicate, ModeClash, NoKey, RowsFull, Full}
use Rattle.session_desk.specs.declared.session.SetFault.{SetFault}
use Rattle.session_desk.specs.declared.session.SetFault.TheVariants as set
use Rattle.session_desk.specs.Sessions.{is_of, has_mode_clash}
use Rattle.session_desk.specs.Book.{Book, steps_of}
use Rattle.session_desk.specs.Writes.{scans_of, is_named, HasAdded}
use Rattle.session_desk.specs.Calls.{IsNotLive, IsAloneIn, IsKeyed, IsUnkeyed, HasNoRoom, NoCause, has_session, is_free_in}

-- Why a reserve is refused: the first cause of these, in this order. A session in another mode is the earliest reserved one
abbrev pub IsRefused : Book → Key → ConfigParts → ReserveFault → Type 0
IsRefused b k c (Duplicate j) = (j ≡ k) × Contains b.keys k
IsRefused b k c (ModeClash j) = (list_any (λ i. same_key i k) b.keys ≡ false) × (find (λ i. has_mode_clash i k) b.keys ≡ Some j)
IsRefused b k c NoKey = IsAloneIn b k × IsUnkeyed k c
IsRefused b k c RowsFull = IsAloneIn b k × IsKeyed k c × HasNoRoom b c
IsRefused b k c (Full live reserved retired held) = NoCause b k c

-- the same, where the slots are not asked
abbrev pub IsNotAdmitted : Book → Key → ConfigParts → ReserveFault → Type 0
IsNotAdmitted b k c (Full live reserved retired held) = ⊥
IsNotAdmitted b k c f = IsRefused b k c f

-- why another configuration is refused: the first cause of these, in this order
abbrev pub IsSetRefused : Book → Key → ConfigParts → SetFault → Type 0
IsSetRefused b k c set.NoSuch = IsNotLive b k
IsSetRefused b k c set.NoKey = (list_any (is_of k) b.live ≡ true) × IsUnkeyed k c
IsSetRefused b k c set.RowsFull = (list_any (is_of k) b.live ≡ true) × IsKeyed k c × HasNoRoom b c

-- ---- want of slots

-- how many slots pass a test
abbrev pub slots_that : Book → (ℕ → Bool) → ℕ
slots_that b p = count_by p (range_with_len 0 b.size.slots)

-- no session is in the slot, and no generation is left for another one
abbrev pub is_retired : Book → ℕ → Bool
is_retired b i = not (has_session b i) && not (nat_lt (generation_of (steps_of b) i) greatest_generation)

-- No session is in the slot, a generation is left, and of these words, which are announcements, one names it
abbrev pub is_held_in : Book → List ℕ → ℕ → Bool
is_held_in b words i = not (has_session b i) && not (generation_of (steps_of b) i == 0)
    && nat_lt (generation_of (steps_of b) i) greatest_generation && is_named b.size.workers words i

-- The announcements were scanned, and by what they read no slot is free. The four numbers are those of the live and the
-- reserved sessions, of the retired and the held slots; these are all slots, and each worker holds one at most
pub record IsFull (t : Table) (before : Book) (live reserved retired held : ℕ) (after : Book) : Type 0 where
  pub words : List ℕ
  pub added : HasAdded t before.seat after.seat (scans_of before.size.workers words)
  pub none : (i : ℕ) → i < before.size.slots → is_free_in before words i ≡ false
  pub live_number : live ≡ length before.live
  pub reserved_number : reserved ≡ length before.reserved
  pub retired_number : retired ≡ slots_that before (is_retired before)
  pub held_number : held ≡ slots_that before (is_held_in before words)
  pub all : live + reserved + retired + held ≡ before.size.slots
  pub few : held ≤ before.size.workers
  pub book : after ≡ record before { seat = after.seat }

-- What stands after a refusal: all as before, but for the scans of a refusal for want of slots
abbrev pub IsUnmoved : Table → Book → ReserveFault → Book → Type 0
IsUnmoved t before (Full live reserved retired held) after = IsFull t before live reserved retired held after
IsUnmoved t before _ after = after ≡ before
