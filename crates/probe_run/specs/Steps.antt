-- The two halves of a turn, and all turns (this project's own).
use Rattle.std.specs.Prelude.{◌≡◌, ℕ, List, [], ◌∷◌, ◌++◌, length, Option}
use Rattle.refl_types.specs.declared.types.Endpoint.{Endpoint}
use Rattle.net_io.specs.Log.{Grows}
use Rattle.net_io.specs.Port.{PortEntry}
use Rattle.sender_core.specs.Deeds.{Deed}
use Rattle.sender_core.specs.Sending.{due_at, request_octets}
use Rattle.sender_core.specs.State.{Measurement, IsAfter}
use Rattle.probe_run.specs.declared.progress.Came.{Came}
use Rattle.probe_run.specs.declared.progress.ProbeEnd.{ProbeEnd}
use Rattle.probe_run.specs.Ends.{foreigns}
use Rattle.probe_run.specs.Counters.{kind_of}
use Rattle.probe_run.specs.Turns.{Outgoing, Incoming, Turn, outgoing_entries, incoming_entry, sent_then, got_then, Fits, IsFrom, AreTurns, all_deeds, all_entries}
use Rattle.probe_run.specs.Runs.{EndsBy, lost_in, failed_in, failures, RisesBy}

-- the plan and the start stay
pub record HasSamePlan (before after : Measurement) : Type 0 where
  pub plan : after.plan ≡ before.plan
  pub start : after.start ≡ before.start

-- the sender sent what was due at a moment
pub record HasSent (peer : Endpoint) (now : ℕ) (before after : Measurement) (log log' : Option (List PortEntry)) (faults faults' : ℕ) : Type 0 where
  pub outgoing : Outgoing
  pub fits : Fits (due_at before.plan before.start before.sendings now) outgoing
  pub deeds : (ds : List Deed) → IsAfter ds before → IsAfter (sent_then outgoing now ds) after
  pub written : Grows log log' (outgoing_entries peer (request_octets before.plan.ssid (length before.sendings) now) outgoing)
  pub rises : RisesBy (lost_in outgoing) faults faults'
  pub same : HasSamePlan before after

-- a call of `recv` gave this, and the sender took it where it was the peer's
pub record HasReceived (peer : Endpoint) (before after : Measurement) (log log' : Option (List PortEntry)) (faults faults' : ℕ) (came : Came) : Type 0 where
  pub incoming : Incoming
  pub kind : came ≡ kind_of incoming
  pub from : IsFrom peer incoming
  pub deeds : (ds : List Deed) → IsAfter ds before → IsAfter (got_then incoming ds) after
  pub written : Grows log log' (incoming_entry incoming ∷ [])
  pub rises : RisesBy (failed_in incoming) faults faults'
  pub same : HasSamePlan before after

-- a new sender took these turns, up to the end that was due
pub record HasTaken (peer : Endpoint) (before after : Measurement) (log log' : Option (List PortEntry)) (faults faults' : ℕ) (e : ProbeEnd) (foreign : ℕ) : Type 0 where
  pub turns : List Turn
  pub last : List PortEntry
  pub are : AreTurns before.plan before.start peer [] turns
  pub ends : EndsBy before.plan before.start turns last e
  pub deeds : IsAfter (all_deeds [] turns) after
  pub written : Grows log log' (all_entries before.plan.ssid peer [] turns ++ last)
  pub others : foreign ≡ foreigns turns
  pub rises : RisesBy (failures turns) faults faults'
  pub same : HasSamePlan before after
