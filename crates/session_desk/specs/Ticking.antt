-- What a tick does: each live session, in the order of starting, has one fate (this project's own).
use Rattle.std.specs.Prelude.{◌≡◌, ℕ, nat_le, Bool, true, false, ◌||◌, if◌then◌else◌, List, [], ◌∷◌, ◌++◌, map, count_by, Option, Some, None}
use Rattle.refl_types.specs.declared.types.Key.{Key}
use Rattle.slot_word.specs.Fields.{sequence_in}
use Rattle.session_world.specs.declared.steps.Step.{Step}
use Rattle.session_world.specs.declared.steps.Step.TheVariants.{Close, Peek, Expire}
use Rattle.session_world.specs.Answers.{Answer, counted, closed, expired}
use Rattle.session_rule.specs.declared.seats.Table.{Table}
use Rattle.expiry.specs.declared.Verdict.TheVariants as verdicts
use Rattle.expiry.specs.Verdicts.{verdict}
use Rattle.session_desk.specs.declared.session.Session.{Session}
use Rattle.session_desk.specs.declared.session.Ticked.{Ticked}
use Rattle.session_desk.specs.Sessions.{noted, without_key}
use Rattle.session_desk.specs.Book.{Book, answers_of}
use Rattle.session_desk.specs.Writes.{HasAdded}

-- a closing moment has come
abbrev pub is_due : ℕ → Option ℕ → Bool
is_due now None = false
is_due now (Some moment) = nat_le moment now

-- with the words that were read
pub data Fate : Type 0 where
  -- its closing moment has come: it is closed
  is_closed : ℕ → Fate
  -- its word is as noted, and its wait hasn't passed
  keeps : ℕ → Fate
  -- its word has changed
  renews : ℕ → Fate
  -- its word is as noted, its wait has passed, and the exchange found that word still: it is closed
  expires : ℕ → Fate
  -- the exchange found another word
  escapes : (peeked found : ℕ) → Fate

-- the fate is the one that the session has at the moment: an escape and an expiry are told apart by what the exchange found
abbrev pub IsFate : (now : ℕ) → Session → Fate → Type 0
IsFate now s (is_closed w) = is_due now s.closing ≡ true
IsFate now s (keeps w) = (is_due now s.closing ≡ false) × (verdict s.note w now s.wait ≡ verdicts.Keep)
IsFate now s (renews w) = (is_due now s.closing ≡ false) × (verdict s.note w now s.wait ≡ verdicts.Renew)
IsFate now s (expires w) = (is_due now s.closing ≡ false) × (verdict s.note w now s.wait ≡ verdicts.Expire)
IsFate now s (escapes w found) = (is_due now s.closing ≡ false) × (verdict s.note w now s.wait ≡ verdicts.Expire) × ¬ (found ≡ w)

-- the steps on its slot, the latest first
abbrev pub fate_steps : (slot : ℕ) → Fate → List Step
fate_steps i (is_closed w) = Close i w ∷ []
fate_steps i (keeps w) = Peek i w ∷ []
fate_steps i (renews w) = Peek i w ∷ []
fate_steps i (expires w) = Expire i w w ∷ Peek i w ∷ []
fate_steps i (escapes w found) = Expire i w found ∷ Peek i w ∷ []

-- what they answer, the latest first
abbrev pub fate_answers : Session → Fate → List (Answer ℕ)
fate_answers s (is_closed w) = closed s.key (sequence_in w) ∷ []
fate_answers s (keeps w) = counted s.key (sequence_in w) s.row ∷ []
fate_answers s (renews w) = counted s.key (sequence_in w) s.row ∷ []
fate_answers s (expires w) = expired s.key (sequence_in w) s.row ∷ counted s.key (sequence_in w) s.row ∷ []
fate_answers s (escapes w found) = counted s.key (sequence_in found) s.row ∷ counted s.key (sequence_in w) s.row ∷ []

-- what is left of the session: nothing, itself, or itself under a new note
abbrev pub session_left : (now : ℕ) → Session → Fate → List Session
session_left now s (is_closed w) = []
session_left now s (keeps w) = s ∷ []
session_left now s (renews w) = noted w now s ∷ []
session_left now s (expires w) = []
session_left now s (escapes w found) = noted found now s ∷ []

abbrev pub goes_by_moment : Fate → Bool
goes_by_moment (is_closed w) = true
goes_by_moment (keeps w) = false
goes_by_moment (renews w) = false
goes_by_moment (expires w) = false
goes_by_moment (escapes w found) = false

abbrev pub goes_by_wait : Fate → Bool
goes_by_wait (is_closed w) = false
goes_by_wait (keeps w) = false
goes_by_wait (renews w) = false
goes_by_wait (expires w) = true
goes_by_wait (escapes w found) = false

abbrev pub is_gone : Fate → Bool
is_gone f = goes_by_moment f || goes_by_wait f

-- ---- of all live sessions, each with its fate

pub record Fated : Type 0 where
  pub session : Session
  pub fate : Fate

abbrev pub AreFates : (now : ℕ) → List Fated → Type 0
AreFates now [] = Unit {0}
AreFates now (f ∷ fs) = IsFate now f.session f.fate × AreFates now fs

-- the steps on the first session came first
abbrev pub all_steps : List Fated → List Step
all_steps [] = []
all_steps (f ∷ fs) = all_steps fs ++ fate_steps f.session.place.slot f.fate

abbrev pub all_answers : List Fated → List (Answer ℕ)
all_answers [] = []
all_answers (f ∷ fs) = all_answers fs ++ fate_answers f.session f.fate

abbrev pub all_left : (now : ℕ) → List Fated → List Session
all_left now [] = []
all_left now (f ∷ fs) = session_left now f.session f.fate ++ all_left now fs

-- a session that is gone frees its key
abbrev pub keys_left : List Fated → List Key → List Key
keys_left [] ks = ks
keys_left (f ∷ fs) ks = keys_left fs (if is_gone f.fate then without_key f.session.key ks else ks)

-- Each live session had one fate, and the steps are those of the fates in the order of starting. The live sessions are what
-- is left. The two numbers are those of the sessions that were closed for their moment, and of those that expired
pub record HasTicked (t : Table) (before : Book) (now : ℕ) (ticked : Ticked) (after : Book) : Type 0 where
  pub fates : List Fated
  pub sessions : map (λ f. f.session) fates ≡ before.live
  pub each : AreFates now fates
  pub added : HasAdded t before.seat after.seat (all_steps fates)
  pub answers : answers_of after ≡ all_answers fates ++ answers_of before
  pub live : after.live ≡ all_left now fates
  pub keys : after.keys ≡ keys_left fates before.keys
  pub closed_number : ticked.closed ≡ count_by (λ f. goes_by_moment f.fate) fates
  pub expired_number : ticked.expired ≡ count_by (λ f. goes_by_wait f.fate) fates
  pub reserved : after.reserved ≡ before.reserved
  pub rows : after.rows ≡ before.rows
  pub size : after.size ≡ before.size
