-- How live sessions have passed a tick, by the parts of the book (this project's own).
use Rattle.std.specs.Prelude.{◌≡◌, ℕ, List, [], ◌∷◌, map, count_by, slice_set}
use Rattle.session_rule.specs.declared.seats.Table.{Table}
use Rattle.session_rule.specs.declared.seats.Seat.{Seat}
use Rattle.session_desk.specs.declared.session.Slot.{Slot}
use Rattle.session_desk.specs.declared.session.Ticked.{Ticked}
use Rattle.session_desk.specs.declared.ticking.Passed.{Passed}
use Rattle.session_desk.specs.declared.ticking.Passed.TheVariants.{Stays, Closed, Expired}
use Rattle.session_desk.specs.Slots.{slot_in, session_in, freed, noted_slot}
use Rattle.session_desk.specs.Ticking.{Fate, is_closed, keeps, renews, expires, escapes, IsFate, fate_steps, goes_by_moment, goes_by_wait, Fated, AreFates, all_steps}
use Rattle.session_desk.specs.Writes.{HasAdded}

abbrev pub passed_by : Fate → Passed
passed_by (is_closed w) = Closed
passed_by (keeps w) = Stays
passed_by (renews w) = Stays
passed_by (expires w) = Expired
passed_by (escapes w found) = Stays

abbrev pub once_closed : Passed → ℕ
once_closed Stays = 0
once_closed Closed = 1
once_closed Expired = 0

abbrev pub once_expired : Passed → ℕ
once_expired Stays = 0
once_expired Closed = 0
once_expired Expired = 1

-- what the slot holds afterwards
abbrev pub slot_passed : List Slot → (i now : ℕ) → Fate → Slot
slot_passed slots i now (is_closed w) = freed slots i
slot_passed slots i now (keeps w) = slot_in slots i
slot_passed slots i now (renews w) = noted_slot slots i w now
slot_passed slots i now (expires w) = freed slots i
slot_passed slots i now (escapes w found) = noted_slot slots i found now

pub record HasPassed (t : Table) (before : Seat) (slots : List Slot) (i now : ℕ) (passed : Passed) (after : Seat) (slots' : List Slot) : Type 0 where
  pub fate : Fate
  pub due : IsFate now (session_in slots i) fate
  pub added : HasAdded t before after (fate_steps i fate)
  pub slots_new : slots' ≡ slice_set slots i (slot_passed slots i now fate)
  pub answer : passed ≡ passed_by fate

-- the slots after these, in their order
abbrev pub slots_passed : (now : ℕ) → List Fated → List Slot → List Slot
slots_passed now [] slots = slots
slots_passed now (f ∷ fs) slots = slots_passed now fs (slice_set slots f.session.place.slot (slot_passed slots f.session.place.slot now f.fate))

-- the sessions of these slots have passed
pub record HavePassed (t : Table) (before : Seat) (slots : List Slot) (order : List ℕ) (now : ℕ) (ticked : Ticked) (after : Seat) (slots' : List Slot) : Type 0 where
  pub fates : List Fated
  pub sessions : map (λ f. f.session) fates ≡ map (session_in slots) order
  pub each : AreFates now fates
  pub added : HasAdded t before after (all_steps fates)
  pub slots_new : slots' ≡ slots_passed now fates slots
  pub closed_number : ticked.closed ≡ count_by (λ f. goes_by_moment f.fate) fates
  pub expired_number : ticked.expired ≡ count_by (λ f. goes_by_wait f.fate) fates
