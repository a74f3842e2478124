-- What an allowed list of the desk says of slots and rows.
use Rattle.std.proofs.Common.{inl, inr, subst}
use Rattle.session_world.specs.Allowed.{DeskDid}
use Rattle.session_world.specs.DeskLists.{DeskIsAllowed, SlotsAreSound, StepsKeepRows}
use Rattle.session_world.proofs.DeskFacts.{run_did, reserved_used, open_used, generation_low, reserved_closed, reserved_inside, open_inside, split_inside, complete_low, row_complete, still_complete, complete_config}
use Rattle.session_world.proofs.SlotFacts.{use_sound}
use Rattle.session_world.proofs.Rows.{words_stay}

pub desk_is_allowed : DeskIsAllowed
desk_is_allowed z ds ps schedule = subst (DeskDid z) schedule.2 (run_did z schedule.0 schedule.1)

pub slots_are_sound : SlotsAreSound
slots_are_sound z ds did = record {
  generation_low = generation_low z ds did;
  open_used = open_used z ds did;
  open_inside = open_inside z ds did;
  reserved_used = reserved_used z ds did;
  reserved_inside = reserved_inside z ds did;
  reserved_closed = reserved_closed z ds did;
  reserved_key = λ i r. use_sound z ds did i (inl r);
  open_key = λ i o. use_sound z ds did i (inr o);
  used_row = row_complete z ds did;
  complete_inside = complete_low z ds did;
  complete_config = complete_config z ds did;
  split_inside = split_inside z ds did;
}

pub steps_keep_rows : StepsKeepRows
steps_keep_rows z ds s r may full = (still_complete ds s r full, words_stay z ds s r may full)
