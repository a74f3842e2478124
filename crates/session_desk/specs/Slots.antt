-- What the book keeps for each slot, and how it fits the desk's list of steps (this project's own).
use Rattle.std.specs.Prelude.{◌≡◌, ℕ, suc, ◌<◌, ◌==◌, Bool, true, false, ◌&&◌, ◌||◌, not, nat_lt, if◌then◌else◌, List, [], ◌∷◌, length, slice_index_or, None}
use Rattle.std.specs.List.{sum_by}
use Rattle.refl_types.specs.declared.types.Address.TheVariants.{V4}
use Rattle.refl_types.specs.declared.types.Mode.TheVariants.{Plain}
use Rattle.slot_word.specs.Fields.{greatest_generation}
use Rattle.slot_word.specs.Fields.{is_open_word}
use Rattle.session_key.specs.Matching.{excludes}
use Rattle.session_world.specs.declared.steps.TableSize.{TableSize}
use Rattle.session_world.specs.declared.steps.Step.{Step}
use Rattle.session_world.specs.Keys.{Key, distance}
use Rattle.session_world.specs.Desk.{is_open, generation_of, row_of, key_of_slot, extra_of_slot, is_reserved, IsComplete, KeyedFor, start_of_key}
use Rattle.session_desk.specs.Writes.{is_named}
use Rattle.session_desk.specs.Sessions.{started, with_row, with_closing, noted}
use Rattle.session_desk.specs.declared.session.Use.{Use}
use Rattle.session_desk.specs.declared.session.Use.TheVariants.{Free, Reserved, Live}
use Rattle.session_desk.specs.declared.session.Session.{Session}
use Rattle.session_desk.specs.declared.session.Slot.{Slot}

abbrev pub is_live : Use → Bool
is_live Live = true
is_live Free = false
is_live Reserved = false

abbrev pub is_reserving : Use → Bool
is_reserving Reserved = true
is_reserving Free = false
is_reserving Live = false

abbrev pub is_taken : Use → Bool
is_taken Free = false
is_taken Reserved = true
is_taken Live = true

-- a slot that was never used
abbrev pub free_slot_of : ℕ → Slot
free_slot_of i = record {
  taken = Free;
  session = record {
    key = record { local = 0; peer = record { address = V4 (0 ∷ 0 ∷ 0 ∷ 0 ∷ []); port = 0 }; mode = Plain; ssid = 0 };
    extra = record { symmetrical = false; reflect = 0 };
    row = 0;
    place = record { slot = i; generation = 0 };
    wait = 0;
    note = record { word = 0; moment = 0 };
    closing = None;
  };
}

-- a slot to name where a list has none
abbrev pub no_slot : Slot
no_slot = free_slot_of 0

abbrev pub slot_in : List Slot → ℕ → Slot
slot_in slots i = slice_index_or slots i no_slot

abbrev pub session_in : List Slot → ℕ → Session
session_in slots i = (slot_in slots i).session

abbrev pub key_in : List Slot → ℕ → Key
key_in slots i = (session_in slots i).key

abbrev pub taken_in : List Slot → ℕ → Use
taken_in slots i = (slot_in slots i).taken

-- so many slots that were never used
pub record AreUnused (slots : List Slot) (count : ℕ) : Type 0 where
  pub length_is : length slots ≡ count
  pub each : (i : ℕ) → i < count → slot_in slots i ≡ free_slot_of i

-- ---- what calls make of slot i

abbrev pub freed : List Slot → ℕ → Slot
freed slots i = record (slot_in slots i) { taken = Free }

abbrev pub started_slot : List Slot → (i word now : ℕ) → Slot
started_slot slots i word now = record { taken = Live; session = started word now (session_in slots i) }

abbrev pub set_slot : List Slot → (i row : ℕ) → Slot
set_slot slots i row = record (slot_in slots i) { session = with_row row (session_in slots i) }

abbrev pub closing_slot : List Slot → (i moment : ℕ) → Slot
closing_slot slots i moment = record (slot_in slots i) { session = with_closing moment (session_in slots i) }

abbrev pub noted_slot : List Slot → (i word now : ℕ) → Slot
noted_slot slots i word now = record (slot_in slots i) { session = noted word now (session_in slots i) }

-- ---- how a slot fits the desk's list

-- the session is the one that the desk's words of slot i stand for
pub record SessionFits (ds : List Step) (i : ℕ) (s : Session) : Type 0 where
  pub key : key_of_slot ds i ≡ s.key
  pub extra : extra_of_slot ds i ≡ s.extra
  pub row : row_of ds i ≡ s.row
  pub complete : IsComplete ds s.row
  pub keyed : KeyedFor ds i s.row

pub record SlotFits (ds : List Step) (i : ℕ) (s : Slot) : Type 0 where
  pub place : s.session.place.slot ≡ i
  pub generation : generation_of ds i ≡ s.session.place.generation
  pub live : is_open ds i ≡ is_live s.taken
  pub reserved : is_reserving s.taken ≡ true → is_reserved ds i ≡ true
  pub session : is_taken s.taken ≡ true → SessionFits ds i s.session
  pub noted : is_live s.taken ≡ true → is_open_word s.session.note.word ≡ true

-- each slot fits, and no two sessions exclude each other
pub record AreSlots (z : TableSize) (ds : List Step) (slots : List Slot) : Type 0 where
  pub count : length slots ≡ z.slots
  pub fits : (i : ℕ) → i < z.slots → SlotFits ds i (slot_in slots i)
  pub alone : (i j : ℕ) → i < z.slots → j < z.slots → is_taken (taken_in slots i) ≡ true → is_taken (taken_in slots j) ≡ true
      → excludes (session_in slots i).key (session_in slots j).key ≡ true → i ≡ j

-- how often a number stands in a list
abbrev pub times : ℕ → List ℕ → ℕ
times i [] = 0
times i (x ∷ xs) = if x == i then suc (times i xs) else times i xs

abbrev pub once : Bool → ℕ
once true = 1
once false = 0

abbrev pub taken_once : (Use → Bool) → Slot → ℕ
taken_once test s = once (test s.taken)

-- the list names just the slots that pass the test, each once
pub record IsOrder (test : Use → Bool) (slots : List Slot) (xs : List ℕ) : Type 0 where
  pub each : (i : ℕ) → times i xs ≡ once (test (taken_in slots i))
  pub count : length xs ≡ sum_by (taken_once test) slots

-- each session lies within the reach of the slot at which walks for it start
abbrev pub Reaches : TableSize → List Slot → List ℕ → Type 0
Reaches z slots reach = (i : ℕ) → i < z.slots → is_taken (taken_in slots i) ≡ true
    → distance z.slots (start_of_key z (session_in slots i).key) i < slice_index_or reach (start_of_key z (session_in slots i).key) 0

-- ---- which slots a reserve may take

-- No session is in the slot; it was never used, or a generation is left and none of the announcements names it
abbrev pub may_take : List Slot → (workers : ℕ) → List ℕ → ℕ → Bool
may_take slots workers words i = not (is_taken (taken_in slots i))
    && (((session_in slots i).place.generation == 0)
    || (nat_lt ((session_in slots i).place.generation) greatest_generation && not (is_named workers words i)))

-- a free slot that has had all its generations, and one that has a generation left
abbrev pub is_spent : Slot → Bool
is_spent s = not (is_taken s.taken) && not (nat_lt (s.session.place.generation) greatest_generation)

abbrev pub is_left_over : Slot → Bool
is_left_over s = not (is_taken s.taken) && nat_lt (s.session.place.generation) greatest_generation

-- the first such slot from the start on
pub record IsFirst (slots : List Slot) (workers : ℕ) (words : List ℕ) (start i : ℕ) : Type 0 where
  pub inside : i < length slots
  pub free : may_take slots workers words i ≡ true
  pub before : (j : ℕ) → j < length slots → distance (length slots) start j < distance (length slots) start i → may_take slots workers words j ≡ false

-- no session in a slot excludes the key
abbrev pub IsAlone : TableSize → List Slot → Key → Type 0
IsAlone z slots k = (j : ℕ) → j < z.slots → is_taken (taken_in slots j) ≡ true → ¬ (excludes (session_in slots j).key k ≡ true)
