-- What a scripted desk logs.
use Rattle.std.proofs.Common.{◌≡◌, ℕ, List, [], ◌∷◌}
use Rattle.std.specs.Prelude.{map, option_map}
use Rattle.net_io.specs.declared.script_desk.DeskDeed.{DeskDeed}
use Rattle.net_io.specs.Log.{LogState, Grows, noted}
use Rattle.net_io.specs.ScriptDesk.{desk_entry}
use Rattle.net_io.proofs.LogFacts.{noted_grows}

-- the log tells what was done
pub desk_log_grows : (old new : LogState DeskDeed) (deed : DeskDeed) (octets : List ℕ) → new ≡ noted old deed octets
    → Grows (option_map (map desk_entry) old.told) (option_map (map desk_entry) new.told) (desk_entry (deed, octets) ∷ [])
desk_log_grows old new deed octets e = noted_grows desk_entry old new deed octets e
