-- What a scripted port holds, and what each call leaves.
use Rattle.std.specs.Prelude.{◌≡◌, ℕ, ◌≤◌, List, [], length, drop, map, take, Option, option_map, Result, Ok, Err}
use Rattle.refl_types.specs.Limits.{datagram_limit}
use Rattle.refl_types.specs.declared.types.Endpoint.{Endpoint}
use Rattle.port_io.specs.declared.outside.Failed.{Failed}
use Rattle.net_io.specs.declared.port.Got.{Got}
use Rattle.net_io.specs.declared.port.Got.TheVariants as got
use Rattle.net_io.specs.declared.script_port.PortItem.{PortItem}
use Rattle.net_io.specs.declared.script_port.PortItem.TheVariants as item
use Rattle.net_io.specs.declared.script_port.PortDeed.{PortDeed}
use Rattle.net_io.specs.declared.script_port.PortDeed.TheVariants as deed
use Rattle.port_io.specs.Outside.{counted}
use Rattle.net_io.specs.Log.{LogState, first_or, noted}
use Rattle.port_io.specs.Memory.{PlannedFailures, one_call_on}
use Rattle.net_io.specs.Port.{PortEntry, took, quiet, ended, recv_failed, read, sent, send_failed, done}

-- what an item of a script makes a receive give
abbrev pub item_entry : PortItem → PortEntry
item_entry (item.Datagram meta octets) = took meta octets.items
item_entry item.Nothing = quiet
item_entry item.End = ended

-- a datagram has as many octets as it says, and no more than fit a UDP datagram over IPv4
abbrev pub IsWhole : PortItem → Type 0
IsWhole (item.Datagram meta octets) = (meta.len ≡ length octets.items) × (length octets.items ≤ datagram_limit)
IsWhole item.Nothing = Unit {0}
IsWhole item.End = Unit {0}

-- an entry of a log, of what was done and its octets
abbrev pub port_entry : PortDeed × List ℕ → PortEntry
port_entry (deed.Took meta, octets) = took meta octets
port_entry (deed.Quiet, octets) = quiet
port_entry (deed.Ended, octets) = ended
port_entry (deed.RecvFailed, octets) = recv_failed
port_entry (deed.Read moment, octets) = read moment
port_entry (deed.Sent from to, octets) = sent from to octets
port_entry (deed.SendFailed from to, octets) = send_failed from to octets
port_entry (deed.Done, octets) = done

-- the local addresses it is bound to; what is still to come; the moments that are still to be read, and the last that was,
-- 0 before; its log; which calls fail
pub record ScriptPortState : Type 0 where
  pub bound : List Endpoint
  pub coming : List PortEntry
  pub moments : List ℕ
  pub last : ℕ
  pub log : LogState PortDeed
  pub opens : PlannedFailures
  pub shares : PlannedFailures
  pub receives : PlannedFailures
  pub sends : PlannedFailures
  pub faults : ℕ

-- its log, where it is told
abbrev pub told_log : ScriptPortState → Option (List PortEntry)
told_log s = option_map (map port_entry) s.log.told

abbrev pub opened : ScriptPortState → List Endpoint → Result (Unit {0}) Failed → ScriptPortState
opened s locals (Ok u) = record s { bound = locals; opens = one_call_on s.opens }
opened s locals (Err f) = record s { opens = one_call_on s.opens; faults = counted s.faults }

abbrev pub shared : ScriptPortState → List Endpoint → Result (Unit {0}) Failed → ScriptPortState
shared s locals (Ok u) = record s { bound = locals; shares = one_call_on s.shares }
shared s locals (Err f) = record s { shares = one_call_on s.shares; faults = counted s.faults }

abbrev pub got_deed : Got → PortDeed
got_deed (got.Datagram meta) = deed.Took meta
got_deed got.Nothing = deed.Quiet
got_deed got.End = deed.Ended

abbrev pub got_octets : Got → List ℕ → List ℕ
got_octets (got.Datagram meta) buf = take meta.len buf
got_octets got.Nothing buf = []
got_octets got.End buf = []

-- after a receive that gave this with these octets in the buffer
abbrev pub received : ScriptPortState → List ℕ → Result Got Failed → ScriptPortState
received s buf (Ok g) = record s { coming = drop 1 s.coming; log = noted s.log (got_deed g) (got_octets g buf); receives = one_call_on s.receives }
received s buf (Err f) = record s { log = noted s.log deed.RecvFailed []; receives = one_call_on s.receives; faults = counted s.faults }

-- the next moment: the last again, where none is left
abbrev pub next_moment : ScriptPortState → ℕ
next_moment s = first_or s.last s.moments

abbrev pub moment_read : ScriptPortState → ScriptPortState
moment_read s = record s { moments = drop 1 s.moments; last = next_moment s; log = noted s.log (deed.Read (next_moment s)) [] }

abbrev pub sent_on : ScriptPortState → ℕ → Endpoint → List ℕ → Result (Unit {0}) Failed → ScriptPortState
sent_on s from to octets (Ok u) = record s { log = noted s.log (deed.Sent from to) octets; sends = one_call_on s.sends }
sent_on s from to octets (Err f) = record s { log = noted s.log (deed.SendFailed from to) octets; sends = one_call_on s.sends; faults = counted s.faults }

abbrev pub ended_work : ScriptPortState → ScriptPortState
ended_work s = record s { log = noted s.log deed.Done [] }
