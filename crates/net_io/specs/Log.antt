-- Logs: what an object of the outside tells of all that it did.
use Rattle.std.specs.Prelude.{◌≡◌, ℕ, ◌+◌, ◌&&◌, nat_lt, nat_le, List, [], ◌∷◌, ◌++◌, length, take, drop, Option, Some, None, option_and_then, slice_get, if◌then◌else◌, ⊤}

-- A log grew by these entries. Of one that isn't told after the call nothing is said; one that wasn't told before isn't told after
abbrev pub Grows : {E : Type 0} → Option (List E) → Option (List E) → List E → Type 0
Grows old None entries = ⊤
Grows None (Some new) entries = ⊥
Grows (Some old) (Some new) entries = new ≡ old ++ entries

-- the first of a list, or this where it is empty
abbrev pub first_or : {A : Type 0} → A → List A → A
first_or other [] = other
first_or other (x ∷ xs) = x

-- What a call took from what is still to come, where that is told: the first of it, or an end where nothing is left
abbrev pub TakesNext : {E : Type 0} → (E → Type 0) → Option (List E) → Option (List E) → E → Type 0
TakesNext IsEnd None new item = ⊤
TakesNext IsEnd (Some old) None item = ⊥
TakesNext IsEnd (Some []) (Some new) item = IsEnd item × (new ≡ [])
TakesNext IsEnd (Some (first ∷ rest)) (Some new) item = (item ≡ first) × (new ≡ rest)

-- ---- a log in memory

-- entries with their octets, where the log is told, and how many entries and octets it may hold in all
pub record LogState (E : Type 0) : Type 0 where
  pub told : Option (List (E × List ℕ))
  pub entries : ℕ
  pub octets : ℕ

-- how many octets stand in a log
abbrev pub octets_in : {E : Type 0} → List (E × List ℕ) → ℕ
octets_in [] = 0
octets_in (entry ∷ log) = length entry.1 + octets_in log

-- what a log with room for so many entries and octets tells after one entry more: nothing any longer where there is no room
abbrev pub told_after : {E : Type 0} → ℕ → ℕ → Option (List (E × List ℕ)) → E × List ℕ → Option (List (E × List ℕ))
told_after entries octets None entry = None
told_after entries octets (Some log) entry =
    if nat_lt (length log) entries && nat_le (octets_in log + length entry.1) octets then Some (log ++ entry ∷ []) else None

-- a log after one entry more
abbrev pub noted : {E : Type 0} → LogState E → E → List ℕ → LogState E
noted s entry octets = record s { told = told_after s.entries s.octets s.told (entry, octets) }

-- the entry at a place of a log, where it is told and has one there
abbrev pub entry_at : {E : Type 0} → LogState E → ℕ → Option (E × List ℕ)
entry_at s at = option_and_then (λ log. slice_get log at) s.told

-- entries, each with its count of octets, and all octets in a row
abbrev pub entries_of : {E : Type 0} → List (E × ℕ) → List ℕ → List (E × List ℕ)
entries_of [] octets = []
entries_of (entry ∷ entries) octets = (entry.0, take entry.1 octets) ∷ entries_of entries (drop entry.1 octets)
