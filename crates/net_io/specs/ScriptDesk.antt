-- What a scripted desk holds, and what each call leaves.
use Rattle.std.specs.Prelude.{◌≡◌, ℕ, ◌≤◌, Bool, true, List, [], length, drop, map, take, Option, option_map, Result, Ok, Err}
use Rattle.refl_types.specs.declared.types.Endpoint.{Endpoint}
use Rattle.port_io.specs.declared.outside.Failed.{Failed}
use Rattle.net_io.specs.declared.desk.Timed.{Timed}
use Rattle.net_io.specs.declared.desk.DeskEvent.TheVariants.{End}
use Rattle.net_io.specs.declared.script_desk.DeskItem.{DeskItem}
use Rattle.net_io.specs.declared.script_desk.DeskDeed.{DeskDeed}
use Rattle.net_io.specs.declared.script_desk.DeskDeed.TheVariants as deed
use Rattle.port_io.specs.Outside.{counted}
use Rattle.port_io.specs.Memory.{PlannedFailures, one_call_on}
use Rattle.net_io.specs.Log.{LogState, noted}
use Rattle.net_io.specs.Desk.{DeskEntry, opened, open_failed, gave, next_failed, sent, send_failed, hung_up, finished, octet_count, piece_limit}

-- the event of an item, with its moment
abbrev pub timed : DeskItem → Timed
timed i = record { moment = i.moment; event = i.event }

-- what an item of a script makes the desk give
abbrev pub item_entry : DeskItem → DeskEntry
item_entry i = gave (timed i) i.octets.items

-- an event comes with as many octets as it says, and with at most 4,096
abbrev pub IsWhole : DeskItem → Type 0
IsWhole i = (octet_count i.event ≡ length i.octets.items) × (length i.octets.items ≤ piece_limit)

-- an entry of a log, of what was done and its octets
abbrev pub desk_entry : DeskDeed × List ℕ → DeskEntry
desk_entry (deed.Opened control operator, octets) = opened control operator
desk_entry (deed.OpenFailed, octets) = open_failed
desk_entry (deed.Gave t, octets) = gave t octets
desk_entry (deed.NextFailed, octets) = next_failed
desk_entry (deed.Sent conn, octets) = sent conn octets
desk_entry (deed.SendFailed conn, octets) = send_failed conn octets
desk_entry (deed.HungUp conn, octets) = hung_up conn
desk_entry (deed.Finished, octets) = finished

-- whether it is open; what is still to come; the moment of the last event, 0 before; its log; which calls fail
pub record ScriptDeskState : Type 0 where
  pub is_open : Bool
  pub coming : List DeskEntry
  pub last : ℕ
  pub log : LogState DeskDeed
  pub opens : PlannedFailures
  pub nexts : PlannedFailures
  pub sends : PlannedFailures
  pub faults : ℕ

-- its log, where it is told
abbrev pub told_log : ScriptDeskState → Option (List DeskEntry)
told_log s = option_map (map desk_entry) s.log.told

-- the end, which comes where nothing is left, at the moment of the last event
abbrev pub end_at : ℕ → Timed
end_at moment = record { moment = moment; event = End }

abbrev pub after_open : ScriptDeskState → Option Endpoint → Option Endpoint → Result (Unit {0}) Failed → ScriptDeskState
after_open s control operator (Ok u) = record s { is_open = true; log = noted s.log (deed.Opened control operator) []; opens = one_call_on s.opens }
after_open s control operator (Err f) = record s { log = noted s.log deed.OpenFailed []; opens = one_call_on s.opens; faults = counted s.faults }

abbrev pub after_next : ScriptDeskState → List ℕ → Result Timed Failed → ScriptDeskState
after_next s buf (Ok t) = record s { coming = drop 1 s.coming; last = t.moment; log = noted s.log (deed.Gave t) (take (octet_count t.event) buf); nexts = one_call_on s.nexts }
after_next s buf (Err f) = record s { log = noted s.log deed.NextFailed []; nexts = one_call_on s.nexts; faults = counted s.faults }

abbrev pub after_send : ScriptDeskState → ℕ → List ℕ → Result (Unit {0}) Failed → ScriptDeskState
after_send s conn octets (Ok u) = record s { log = noted s.log (deed.Sent conn) octets; sends = one_call_on s.sends }
after_send s conn octets (Err f) = record s { log = noted s.log (deed.SendFailed conn) octets; sends = one_call_on s.sends; faults = counted s.faults }

-- after a call that does nothing but this
abbrev pub after_deed : ScriptDeskState → DeskDeed → ScriptDeskState
after_deed s d = record s { log = noted s.log d [] }
