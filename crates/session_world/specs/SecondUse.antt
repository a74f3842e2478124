-- A run in which a slot is used a second time (this project's own): that the definitions allow what they are for. Two sessions
-- of one sender lie on a walk that begins at the last slot; a worker finds one of them, reads its row and draws; its row is
-- exchanged; both are closed, the one by its expiry; the worker is joined, and one slot goes to a third session, which a
-- second part of the worker's list finds.
use Rattle.std.specs.Prelude.{◌≡◌, ℕ, zero, suc, ◌+◌, ◌-◌, ◌*◌, ◌^◌, true, false, List, [], ◌∷◌, map, slice_index, Some, None}
use Rattle.slot_word.specs.Fields.{word_of}
use Rattle.refl_types.specs.declared.types.Address.TheVariants.{V4}
use Rattle.refl_types.specs.declared.types.Endpoint.{Endpoint}
use Rattle.refl_types.specs.declared.types.Mode.TheVariants.{Plain}
use Rattle.refl_types.specs.declared.config.Clock.TheVariants.{Ntp}
use Rattle.session_world.specs.declared.steps.TableSize.{TableSize}
use Rattle.session_world.specs.declared.steps.Part.{Part}
use Rattle.session_world.specs.declared.steps.Step.TheVariants.{WriteRow, WriteKey, ReserveNew, Start, Look, LoadKey, Draw, Split, LoadRow, Reconfigure, Close, Peek, Expire, Join, Announce, Retire, Scan, ReserveUsed}
use Rattle.session_world.specs.Keys.{Query, Key, Extra, ConfigParts}
use Rattle.session_world.specs.Desk.{config_at}
use Rattle.session_world.specs.Answers.{opened, configured, counted, closed, expired, seen, drew, desk_answers, worker_answers}
use Rattle.session_world.specs.Runs.{ScheduledStep, run, Runs}
use Rattle.session_world.specs.WholeRun.{by_desk, by_worker}

-- ---- the table, the sender's sessions, and the configurations

abbrev pub small_table : TableSize
small_table = record { slots = 2; rows = 2; workers = 1 }

-- for 192.0.2.1, port 5000, walks over two slots begin at slot 1
abbrev pub sender : Endpoint
sender = record { address = V4 (192 ∷ 0 ∷ 2 ∷ 1 ∷ []); port = 5000 }

abbrev pub key_with : ℕ → Key
key_with ssid = record { local = 0; peer = sender; mode = Plain; ssid = ssid }

abbrev pub no_extra : Extra
no_extra = record { symmetrical = false; reflect = 0 }

abbrev pub query_with : ℕ → Query
query_with ssid = record { local = 0; peer = sender; plain = Some ssid; auth = None }

-- stateful, in NTP format, with an Error Estimate of this Multiplier
abbrev pub config_with : ℕ → ConfigParts
config_with multiplier = record {
  stateful = true;
  clock = Ntp;
  offset = 0;
  synced = false;
  scale = 0;
  multiplier = multiplier;
  info = 0 ∷ 0 ∷ 0 ∷ 0 ∷ [];
  tlvs = 0;
  key = None;
}

-- their words, counted from 1
abbrev pub key_word : ℕ → ℕ → ℕ
key_word ssid k = slice_index (0xC000020100000000 ∷ 0 ∷ (5000 * 2 ^ 48 + ssid * 2 ^ 32) ∷ 0 ∷ []) (k - 1)

abbrev pub row_word : ℕ → ℕ → ℕ
row_word multiplier k = slice_index ((2 ^ 24 + multiplier) ∷ 0 ∷ 0 ∷ 0 ∷ 0 ∷ 0 ∷ 0 ∷ 0 ∷ 0 ∷ 0 ∷ 0 ∷ 0 ∷ []) (k - 1)

-- ---- the steps, the latest first: each function puts its steps after those that went before

-- the first words of a row, of a key, and loads of them
abbrev pub written_row : ℕ → ℕ → ℕ → List ScheduledStep → List ScheduledStep
written_row row multiplier zero before = before
written_row row multiplier (suc k) before = by_desk (WriteRow row (suc k) (row_word multiplier (suc k))) ∷ written_row row multiplier k before

abbrev pub written_key : ℕ → ℕ → ℕ → List ScheduledStep → List ScheduledStep
written_key slot ssid zero before = before
written_key slot ssid (suc k) before = by_desk (WriteKey slot (suc k) (key_word ssid (suc k))) ∷ written_key slot ssid k before

abbrev pub loaded_key : ℕ → ℕ → ℕ → List ScheduledStep → List ScheduledStep
loaded_key slot ssid zero before = before
loaded_key slot ssid (suc k) before = by_worker (LoadKey slot (suc k) (key_word ssid (suc k))) ∷ loaded_key slot ssid k before

abbrev pub loaded_row : ℕ → ℕ → ℕ → List ScheduledStep → List ScheduledStep
loaded_row row multiplier zero before = before
loaded_row row multiplier (suc k) before = by_worker (LoadRow row (suc k) (row_word multiplier (suc k))) ∷ loaded_row row multiplier k before

abbrev pub looked : ℕ → ℕ → ℕ → List ScheduledStep → List ScheduledStep
looked slot ssid read before = by_worker (Look slot (query_with ssid) read) ∷ by_worker (Announce slot) ∷ before

-- both rows, and sessions 7 and 8 in slots 1 and 0 under row 1
abbrev pub with_rows : List ScheduledStep
with_rows = written_row 2 2 12 (written_row 1 1 12 [])

abbrev pub with_sessions : List ScheduledStep
with_sessions =
    by_desk (Start 0 (word_of 0 1 1 true))
    ∷ by_desk (ReserveNew 0 1)
    ∷ written_key 0 8 4 (by_desk (Start 1 (word_of 0 1 1 true)) ∷ by_desk (ReserveNew 1 1) ∷ written_key 1 7 4 with_rows)

-- a worker looks for session 8, first at slot 1 and then past the last slot at slot 0, loads its row and draws
abbrev pub with_draw : List ScheduledStep
with_draw =
    by_worker Retire
    ∷ by_worker (Draw 0 (word_of 0 1 1 false))
    ∷ loaded_row 1 1 12 (loaded_key 0 8 4 (looked 0 8 (word_of 0 1 1 false) (loaded_key 1 7 4 (looked 1 8 (word_of 0 1 1 false) (by_desk (Split 1 (word_of 0 1 1 false)) ∷ with_sessions)))))

-- session 8 gets row 2, is counted and closed, session 7 expires, and the worker is joined
abbrev pub with_ends : List ScheduledStep
with_ends =
    by_desk (Join 1 (word_of 1 1 2 true))
    ∷ by_desk (Expire 1 (word_of 0 1 1 false) (word_of 0 1 1 false))
    ∷ by_desk (Close 0 (word_of 1 1 2 false))
    ∷ by_desk (Peek 0 (word_of 1 1 2 false))
    ∷ by_desk (Reconfigure 0 1 2 (word_of 1 1 1 false))
    ∷ with_draw

-- the worker's announcement is read, and slot 0 goes to session 9 under row 2
abbrev pub with_second_use : List ScheduledStep
with_second_use =
    by_desk (Start 0 (word_of 0 2 2 true))
    ∷ by_desk (ReserveUsed 0 2 2)
    ∷ written_key 0 9 4 (by_desk (Scan 1 0) ∷ with_ends)

-- the worker is split off again, goes past slot 1, finds session 9 and draws, and is joined
abbrev pub second_use : List ScheduledStep
second_use =
    by_desk (Join 1 (word_of 1 2 2 false))
    ∷ by_worker (Draw 0 (word_of 0 2 2 false))
    ∷ loaded_key 0 9 4 (looked 0 9 (word_of 0 2 2 false) (looked 1 9 (word_of 0 1 1 true) (by_desk (Split 1 (word_of 0 2 2 false)) ∷ with_second_use)))

-- ---- what comes of them

-- It runs. The answers of the desk and of both parts of the worker's list, and the configurations of the rows
pub record UsesTwice (ms : List ScheduledStep) : Type 0 where
  pub runs : Runs small_table ms
  pub desk : desk_answers (run small_table ms).desk
      ≡ opened (key_with 9) no_extra 2
      ∷ expired (key_with 7) 0 1
      ∷ closed (key_with 8) 1
      ∷ counted (key_with 8) 1 2
      ∷ configured (key_with 8) 2
      ∷ opened (key_with 8) no_extra 1
      ∷ opened (key_with 7) no_extra 1
      ∷ []
  pub parts : map (λ (p : Part). worker_answers 2 p.steps) (run small_table ms).ended_parts
      ≡ (drew (key_with 9) 0 2 ∷ seen (query_with 9) (key_with 9) no_extra 2 ∷ [])
      ∷ (drew (key_with 8) 0 1 ∷ seen (query_with 8) (key_with 8) no_extra 1 ∷ [])
      ∷ []
  pub first_row : config_at (run small_table ms).desk 1 ≡ config_with 1
  pub second_row : config_at (run small_table ms).desk 2 ≡ config_with 2

abbrev pub SecondUse : Type 0
SecondUse = UsesTwice second_use
