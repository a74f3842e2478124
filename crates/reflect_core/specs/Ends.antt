-- From where and to whom a reply is sent (RFC 8762, section 4.3; RFC 9503, sections 3 and 4). That a tail whose integrity
-- failed is asked nothing is this project's own.
use Rattle.std.specs.Prelude.{ℕ, Bool, ◌||◌, true, false, if◌then◌else◌, List, drop, Option, Some, None}
use Rattle.octet_format.specs.Octets.{field}
use Rattle.refl_types.specs.declared.types.Mode.{Mode}
use Rattle.refl_types.specs.declared.types.Mode.TheVariants.{Plain, Auth, Twamp}
use Rattle.refl_types.specs.declared.types.Meta.{Meta}
use Rattle.refl_types.specs.declared.config.ConfigParts.{ConfigParts}
use Rattle.tlv_chain.specs.Tlv.{destination_node_address, return_path}
use Rattle.tlv_actions.specs.declared.facts.Plan.{Plan}
use Rattle.tlv_actions.specs.Rows.{is_understood}
use Rattle.tlv_actions.specs.Planned.{planned}
use Rattle.tlv_integrity.specs.declared.integrity.Integrity.{Integrity}
use Rattle.tlv_integrity.specs.declared.integrity.Integrity.TheVariants.{Absent, Passed, Failed}
use Rattle.tlv_integrity.specs.Integrity.{integrity}
use Rattle.reflect_core.specs.declared.ends.Ends.{Ends}
use Rattle.reflect_core.specs.Arrived.{Arrived}

abbrev pub is_intact : Integrity → Bool
is_intact Failed = false
is_intact Absent = true
is_intact (Passed at) = true

-- the integrity of the tail behind a base packet of as many octets hasn't failed
abbrev pub has_intact_tail : ℕ → Mode → ConfigParts → List ℕ → Bool
has_intact_tail len mode c octets = is_intact (integrity mode c (field 0 4 octets) (drop len octets))

-- a tail may say from where and to whom its reply is sent
abbrev pub may_redirect : ConfigParts → Bool
may_redirect c = is_understood c destination_node_address || is_understood c return_path

-- from where the datagram arrived, to its sender
abbrev pub usual_ends : Meta → Ends
usual_ends m = record { from = m.local; to = m.peer }

abbrev pub planned_ends : Plan → Ends
planned_ends plan = record { from = plan.from; to = plan.to }

-- the ends that are told, or from where the datagram arrived to its sender where none are
abbrev pub ends_told : Option Ends → Meta → Ends
ends_told None m = usual_ends m
ends_told (Some e) m = e

-- what the tail behind a base packet of as many octets asks for
abbrev pub plan_after : ℕ → ConfigParts → Arrived → Plan
plan_after len c d = planned c d.locals d.meta (drop len d.octets)

abbrev pub ends_after : ℕ → Mode → ConfigParts → Arrived → Ends
ends_after len mode c d =
    if has_intact_tail len mode c d.octets then planned_ends (plan_after len c d) else usual_ends d.meta

unfoldable pub ends_of : Mode → ConfigParts → Arrived → Ends
ends_of Plain c d = ends_after 44 Plain c d
ends_of Auth c d = ends_after 112 Auth c d
ends_of Twamp c d = usual_ends d.meta
