-- What the calls of the book do (this project's own).
use Rattle.std.specs.Prelude.{◌≡◌, ℕ, suc, ◌&&◌, ◌||◌, not, nat_lt, ◌<◌, ◌==◌, Bool, true, false, List, [], ◌∷◌, ◌++◌}
use Rattle.std.specs.List.{Contains, list_any}
use Rattle.refl_types.specs.declared.types.Key.{Key}
use Rattle.refl_types.specs.declared.outcome.Place.{Place}
use Rattle.slot_word.specs.Fields.{sequence_in}
use Rattle.session_world.specs.declared.steps.Step.TheVariants.{Start, Reconfigure, Close, Peek}
use Rattle.refl_types.specs.declared.types.Extra.{Extra}
use Rattle.refl_types.specs.declared.config.ConfigParts.{ConfigParts}
use Rattle.slot_word.specs.Fields.{greatest_generation}
use Rattle.session_key.specs.Words.{key_words}
use Rattle.session_world.specs.declared.steps.Step.{Step}
use Rattle.session_key.specs.Matching.{excludes}
use Rattle.config_rows.specs.Rows.{IsSought}
use Rattle.config_rows.specs.declared.book.Sought.TheVariants.{RowsFull}
use Rattle.session_world.specs.Keys.{is_auth, has_key, distance}
use Rattle.session_world.specs.Desk.{generation_of, start_of_key}
use Rattle.session_world.specs.Answers.{opened, configured, counted, closed}
use Rattle.session_rule.specs.declared.seats.Table.{Table}
use Rattle.session_rule.specs.Seats.{DeskHasMade}
use Rattle.session_desk.specs.declared.session.Session.{Session}
use Rattle.session_desk.specs.Sessions.{is_in_slot, is_at, is_of, without, without_key, with_change, new_session, started, with_row, with_closing}
use Rattle.session_desk.specs.Book.{Book, steps_of, answers_of}
use Rattle.session_desk.specs.Writes.{key_writes, scans_of, is_named, reserve_step, HasRow, HasAdded}

-- no reserved session has the place
abbrev pub HasNoPlace : Book → Place → Type 0
HasNoPlace b p = list_any (is_at p) b.reserved ≡ false

-- the key isn't live
abbrev pub IsNotLive : Book → Key → Type 0
IsNotLive b k = list_any (is_of k) b.live ≡ false

-- the session in the place was opened: one step and one answer; its word is noted
pub record HasStarted (t : Table) (before : Book) (p : Place) (now : ℕ) (after : Book) : Type 0 where
  pub session : Session
  pub found : Contains before.reserved session
  pub place : session.place ≡ p
  pub word : ℕ
  pub made : DeskHasMade t before.seat after.seat (Start p.slot word)
  pub answers : answers_of after ≡ opened session.key session.extra session.row ∷ answers_of before
  pub live : after.live ≡ before.live ++ started word now session ∷ []
  pub reserved : after.reserved ≡ without p.slot before.reserved
  pub keys : after.keys ≡ before.keys
  pub rows : after.rows ≡ before.rows
  pub size : after.size ≡ before.size

-- the reserved session in the place is gone; no step was made
pub record HasAbandoned (before : Book) (p : Place) (after : Book) : Type 0 where
  pub session : Session
  pub found : Contains before.reserved session
  pub place : session.place ≡ p
  pub seat : after.seat ≡ before.seat
  pub live : after.live ≡ before.live
  pub reserved : after.reserved ≡ without p.slot before.reserved
  pub keys : after.keys ≡ without_key session.key before.keys
  pub rows : after.rows ≡ before.rows
  pub size : after.size ≡ before.size

-- the live session of the key was closed: one step and one answer, with its count of draws modulo 2 ^ 32
pub record HasClosed (t : Table) (before : Book) (k : Key) (after : Book) (n : ℕ) : Type 0 where
  pub session : Session
  pub found : Contains before.live session
  pub key : session.key ≡ k
  pub word : ℕ
  pub made : DeskHasMade t before.seat after.seat (Close session.place.slot word)
  pub answers : answers_of after ≡ closed k n ∷ answers_of before
  pub count : n ≡ sequence_in word
  pub live : after.live ≡ without session.place.slot before.live
  pub reserved : after.reserved ≡ before.reserved
  pub keys : after.keys ≡ without_key k before.keys
  pub rows : after.rows ≡ before.rows
  pub size : after.size ≡ before.size

-- the live session of the key was counted: one step and one answer
pub record HasCounted (t : Table) (before : Book) (k : Key) (after : Book) (n : ℕ) : Type 0 where
  pub session : Session
  pub found : Contains before.live session
  pub key : session.key ≡ k
  pub word : ℕ
  pub made : DeskHasMade t before.seat after.seat (Peek session.place.slot word)
  pub answers : answers_of after ≡ counted k n session.row ∷ answers_of before
  pub live : after.live ≡ before.live
  pub reserved : after.reserved ≡ before.reserved
  pub keys : after.keys ≡ before.keys
  pub rows : after.rows ≡ before.rows
  pub size : after.size ≡ before.size

-- the live session of the key will be closed by a tick from that moment on; no step was made
pub record ClosesLater (before : Book) (k : Key) (moment : ℕ) (after : Book) : Type 0 where
  pub session : Session
  pub found : Contains before.live session
  pub key : session.key ≡ k
  pub seat : after.seat ≡ before.seat
  pub live : after.live ≡ with_change session.place.slot (with_closing moment) before.live
  pub reserved : after.reserved ≡ before.reserved
  pub keys : after.keys ≡ before.keys
  pub rows : after.rows ≡ before.rows
  pub size : after.size ≡ before.size

-- ---- causes of refusals

-- no live or reserved session has the key, or its ends in another mode
abbrev pub IsAloneIn : Book → Key → Type 0
IsAloneIn b k = list_any (λ j. excludes j k) b.keys ≡ false

-- sessions of mode Auth have an HMAC key (RFC 8762, section 4.2.2)
abbrev pub IsKeyed : Key → ConfigParts → Type 0
IsKeyed k c = is_auth k ≡ true → has_key c ≡ true

abbrev pub IsUnkeyed : Key → ConfigParts → Type 0
IsUnkeyed k c = (is_auth k ≡ true) × (has_key c ≡ false)

-- no row has the configuration, and none is left
abbrev pub HasNoRoom : Book → ConfigParts → Type 0
HasNoRoom b c = IsSought b.rows c RowsFull

-- nothing but a want of slots stands against a reserve
pub record NoCause (b : Book) (k : Key) (c : ConfigParts) : Type 0 where
  pub alone : IsAloneIn b k
  pub keyed : IsKeyed k c
  pub room : ¬ HasNoRoom b c

-- nothing stands against another configuration of a live session
pub record HasNoSetCause (b : Book) (k : Key) (c : ConfigParts) : Type 0 where
  pub keyed : IsKeyed k c
  pub room : ¬ HasNoRoom b c

-- ---- reserving

abbrev pub has_session : Book → ℕ → Bool
has_session b i = list_any (is_in_slot i) b.live || list_any (is_in_slot i) b.reserved

-- A reserve may take the slot, where these words are the announcements that it has loaded: no session is in it, and it was
-- never used, or a generation is left and no announcement names it
abbrev pub is_free_in : Book → List ℕ → ℕ → Bool
is_free_in b words i = not (has_session b i)
    && ((generation_of (steps_of b) i == 0)
    || (nat_lt (generation_of (steps_of b) i) greatest_generation && not (is_named b.size.workers words i)))

-- it is the first such slot on a walk for the key
pub record IsFirstFree (b : Book) (words : List ℕ) (k : Key) (i : ℕ) : Type 0 where
  pub inside : i < b.size.slots
  pub free : is_free_in b words i ≡ true
  pub before : (j : ℕ) → j < b.size.slots → distance b.size.slots (start_of_key b.size k) j < distance b.size.slots (start_of_key b.size k) i → is_free_in b words j ≡ false

-- The place is the first free slot under its next generation. The announcements were scanned, the row was written where it is
-- new, then the key words, and last the slot word. Nothing was answered
pub record HasReserved (t : Table) (before : Book) (k : Key) (x : Extra) (c : ConfigParts) (wait : ℕ) (p : Place) (after : Book) : Type 0 where
  pub words : List ℕ
  pub row : ℕ
  pub made : List Step
  pub first : IsFirstFree before words k p.slot
  pub next : p.generation ≡ suc (generation_of (steps_of before) p.slot)
  pub no_cause : NoCause before k c
  pub kept : HasRow before.rows after.rows c row made
  pub added : HasAdded t before.seat after.seat (reserve_step p row ∷ (key_writes p.slot (key_words k x) 4 ++ (made ++ scans_of before.size.workers words)))
  pub answers : answers_of after ≡ answers_of before
  pub reserved : after.reserved ≡ before.reserved ++ new_session k x row p wait ∷ []
  pub live : after.live ≡ before.live
  pub keys : after.keys ≡ before.keys ++ k ∷ []
  pub size : after.size ≡ before.size

-- the configuration has a row, which was written where it is new; no other step was made
pub record HasKeptRow (t : Table) (before : Book) (c : ConfigParts) (after : Book) : Type 0 where
  pub row : ℕ
  pub made : List Step
  pub room : ¬ HasNoRoom before c
  pub kept : HasRow before.rows after.rows c row made
  pub added : HasAdded t before.seat after.seat made
  pub answers : answers_of after ≡ answers_of before
  pub live : after.live ≡ before.live
  pub reserved : after.reserved ≡ before.reserved
  pub keys : after.keys ≡ before.keys
  pub size : after.size ≡ before.size

-- the live session of the key has another configuration: its row was written where it is new, and the rows were exchanged
pub record HasSet (t : Table) (before : Book) (k : Key) (c : ConfigParts) (after : Book) : Type 0 where
  pub session : Session
  pub found : Contains before.live session
  pub key : session.key ≡ k
  pub row : ℕ
  pub word : ℕ
  pub made : List Step
  pub no_cause : HasNoSetCause before k c
  pub kept : HasRow before.rows after.rows c row made
  pub added : HasAdded t before.seat after.seat (Reconfigure session.place.slot session.row row word ∷ made)
  pub answers : answers_of after ≡ configured k row ∷ answers_of before
  pub live : after.live ≡ with_change session.place.slot (with_row row) before.live
  pub reserved : after.reserved ≡ before.reserved
  pub keys : after.keys ≡ before.keys
  pub size : after.size ≡ before.size
