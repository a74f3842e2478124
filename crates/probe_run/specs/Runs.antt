-- A whole measurement: its turns, its end, and what is counted (this project's own).
use Rattle.std.specs.Prelude.{◌≡◌, ◌⊎◌, ℕ, ◌+◌, ◌-◌, ◌^◌, ◌≤◌, min, List, [], ◌∷◌, ◌++◌, Option, Some, None}
use Rattle.refl_types.specs.declared.types.Endpoint.{Endpoint}
use Rattle.net_io.specs.Log.{Grows}
use Rattle.net_io.specs.Port.{PortEntry, read, done}
use Rattle.net_io.specs.PortShown.{PortShown}
use Rattle.sender_core.specs.declared.types.SendPlan.{SendPlan}
use Rattle.sender_core.specs.declared.types.Counts.{Counts}
use Rattle.sender_core.specs.declared.types.Due.TheVariants.{Finished}
use Rattle.sender_core.specs.Deeds.{Deed, sendings}
use Rattle.sender_core.specs.Sending.{due_at}
use Rattle.sender_core.specs.Counting.{counts_of, strangers, capped}
use Rattle.probe_run.specs.declared.progress.ProbeEnd.{ProbeEnd}
use Rattle.probe_run.specs.declared.progress.ProbeEnd.TheVariants as end
use Rattle.probe_run.specs.Ends.{end_due, foreigns}
use Rattle.probe_run.specs.Turns.{Turn, Outgoing, none, sent, lost, Incoming, idle, over, failed, reply, foreign, AreTurns, all_deeds, all_entries}

-- ---- the end

-- no end is due after any of these turns
abbrev pub NoneDue : List Turn → Type 0
NoneDue turns = (before after : List Turn) (turn : Turn) → turns ≡ before ++ turn ∷ after → end_due (before ++ turn ∷ []) turn.incoming ≡ None

-- after these turns a moment was read at which nothing is due any more
pub record IsFinished (plan : SendPlan) (start : ℕ) (turns : List Turn) (last : List PortEntry) : Type 0 where
  pub none : NoneDue turns
  pub moment : ℕ
  pub reading : last ≡ read moment ∷ []
  pub finished : due_at plan start (sendings (all_deeds [] turns)) moment ≡ Finished

-- this end is due after the last of the turns, and none before; nothing is read behind it
pub record EndsAfter (turns : List Turn) (last : List PortEntry) (e : ProbeEnd) : Type 0 where
  pub before : List Turn
  pub turn : Turn
  pub whole : turns ≡ before ++ turn ∷ []
  pub none : NoneDue before
  pub due : end_due turns turn.incoming ≡ Some e
  pub nothing : last ≡ []

-- `last` is what was read after the last turn
abbrev pub EndsBy : SendPlan → ℕ → List Turn → List PortEntry → ProbeEnd → Type 0
EndsBy plan start turns last end.Finished = IsFinished plan start turns last
EndsBy plan start turns last end.End = EndsAfter turns last end.End
EndsBy plan start turns last end.PortFault = EndsAfter turns last end.PortFault
EndsBy plan start turns last end.Budget = EndsAfter turns last end.Budget

-- ---- what is counted

-- the counts of the sender, where each datagram of another is a stranger
abbrev pub counts_with : ℕ → List Deed → ℕ → Counts
counts_with ssid ds others = record (counts_of ssid ds) { strangers = capped (strangers ssid ds + others) }

-- ---- failures of the port

abbrev pub lost_in : Outgoing → ℕ
lost_in none = 0
lost_in sent = 0
lost_in lost = 1

abbrev pub failed_in : Incoming → ℕ
failed_in idle = 0
failed_in over = 0
failed_in failed = 1
failed_in (reply meta octets) = 0
failed_in (foreign meta octets) = 0

abbrev pub failures : List Turn → ℕ
failures [] = 0
failures (t ∷ ts) = (lost_in t.outgoing + failed_in t.incoming) + failures ts

-- without a failure the count stays; each raises it, until it stands still at the last value of 64 bits
pub record RisesBy (failures old new : ℕ) : Type 0 where
  pub none : failures ≡ 0 → new ≡ old
  pub each : min (old + failures) (2 ^ 64 - 1) ≤ new

-- ---- a whole measurement

-- A measurement by this plan from its first moment on: its turns, what was read behind them, and the port's log
pub record Measures (plan : SendPlan) (peer : Endpoint) (log log' : Option (List PortEntry)) (faults faults' : ℕ) (counts : Counts) (e : ProbeEnd) : Type 0 where
  pub start : ℕ
  pub turns : List Turn
  pub last : List PortEntry
  pub are : AreTurns plan start peer [] turns
  pub ends : EndsBy plan start turns last e
  pub written : Grows log log' (read start ∷ [] ++ all_entries plan.ssid peer [] turns ++ last ++ done ∷ [])
  pub counted : counts ≡ counts_with plan.ssid (all_deeds [] turns) (foreigns turns)
  pub rises : RisesBy (failures turns) faults faults'

-- Nothing was sent or received: nothing was done at all; or the port was opened at the local address, the start was read, and it
-- is done
abbrev pub HasNotBegun : {S : Type 0} → Endpoint → PortShown S → PortShown S → Type 0
HasNotBegun local old new =
    ((new.log ≡ old.log) × (new.bound ≡ old.bound)) ⊎ (((start : ℕ) × Grows old.log new.log (read start ∷ done ∷ [])) × (new.bound ≡ local ∷ []))
