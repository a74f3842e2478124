-- The sessions that the desk keeps, and which of them a key or a place names (this project's own).
use Rattle.std.specs.Prelude.{ℕ, ◌^◌, ◌-◌, ◌==◌, Bool, ◌&&◌, not, if◌then◌else◌, List, Some, None, map, bit_and}
use Rattle.std.specs.List.{filter}
use Rattle.refl_types.specs.declared.types.Key.{Key}
use Rattle.refl_types.specs.declared.types.Extra.{Extra}
use Rattle.refl_types.specs.declared.outcome.Place.{Place}
use Rattle.refl_types.specs.Same.{same_key, same_endpoint, same_mode}
use Rattle.session_desk.specs.declared.session.Session.{Session}

abbrev pub is_in_slot : ℕ → Session → Bool
is_in_slot i s = s.place.slot == i

abbrev pub is_at : Place → Session → Bool
is_at p s = (s.place.slot == p.slot) && (s.place.generation == p.generation)

abbrev pub is_of : Key → Session → Bool
is_of k s = same_key s.key k

-- a session with the same ends in another mode
unfoldable pub has_mode_clash : Key → Key → Bool
has_mode_clash j k = (j.local == k.local) && same_endpoint j.peer k.peer && not (same_mode j.mode k.mode)

-- all keys but this one
abbrev pub without_key : Key → List Key → List Key
without_key k = filter (λ j. not (same_key j k))

-- all sessions but that in slot i
abbrev pub without : ℕ → List Session → List Session
without i = filter (λ s. not (is_in_slot i s))

-- the session in slot i, changed
abbrev pub changed_at : ℕ → (Session → Session) → Session → Session
changed_at i f s = if is_in_slot i s then f s else s

abbrev pub with_change : ℕ → (Session → Session) → List Session → List Session
with_change i f = map (changed_at i f)

-- ---- what calls make of a session

-- a session that was reserved: nothing was noted yet, and no closing moment is set
abbrev pub new_session : Key → Extra → (row : ℕ) → Place → (wait : ℕ) → Session
new_session k x row p wait = record { key = k; extra = x; row = row; place = p; wait = wait; note = record { word = 0; moment = 0 }; closing = None }

-- the word that a start leaves of the word n is noted
abbrev pub started : (n now : ℕ) → Session → Session
started n now s = record s { note = record { word = bit_and n (2 ^ 64 - 2); moment = now }; closing = None }

abbrev pub with_row : ℕ → Session → Session
with_row row s = record s { row = row }

abbrev pub with_closing : ℕ → Session → Session
with_closing moment s = record s { closing = Some moment }

abbrev pub noted : (word now : ℕ) → Session → Session
noted word now s = record s { note = record { word = word; moment = now } }
