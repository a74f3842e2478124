use Rattle.std.proofs.Common.{◌≡◌, codes, drop, true}
use Rattle.toml.specs.View.{items_view, array_view}
use Rattle.refl_types.specs.Configs.{are_known_tlvs}
use Rattle.conf_text.specs.Configs.{tlv_of}
use Rattle.conf_text.specs.Tables.{places}
use Rattle.conf_text.proofs.configs.tlv_places.Given as goal

-- reading on from here gives what reading all does
abbrev pub invariant-loop-index : goal.invariant-loop-index
invariant-loop-index l =
    (are_known_tlvs l.found ≡ true)
    × (places tlv_of (codes "tlvs") 0 0 (array_view l.list) ≡ places tlv_of (codes "tlvs") l.index l.found (items_view (drop l.index l.list.items)))
