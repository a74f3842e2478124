-- A row that is kept.
use Rattle.std.proofs.Common.{◌≡◌, ℕ, suc, List, ◌++◌, sym, refl, ap, ◌∙◌, arith}
use Rattle.refl_types.specs.declared.config.ConfigParts.{ConfigParts}
use Rattle.refl_types.specs.Spelling.{FitsConfig}
use Rattle.config_rows.specs.Rows.{Rows}
use Rattle.config_rows.specs.Words.{row_words, config_of_words}
use Rattle.session_world.specs.declared.steps.TableSize.{TableSize}
use Rattle.session_world.specs.declared.steps.Step.{Step}
use Rattle.session_world.specs.Allowed.{DeskDid}
use Rattle.session_world.specs.Answers.{desk_answers}
use Rattle.session_rule.specs.declared.seats.Table.{Table}
use Rattle.session_rule.specs.declared.seats.Seat.{Seat}
use Rattle.session_rule.specs.Seats.{desk_steps}
use Rattle.session_desk.specs.declared.session.Slot.{Slot}
use Rattle.session_desk.specs.Book.{lines_left}
use Rattle.session_desk.specs.Slots.{slot_in}
use Rattle.session_desk.specs.Kept.{IsKept, book_of}
use Rattle.session_desk.specs.Writes.{HasRow, HasAdded}
use Rattle.session_desk.specs.Calls.{HasKeptRow}
use Rattle.session_desk.proofs.Keeping.{fits_else}
use Rattle.session_desk.proofs.Written.{made_quiet, has_row_left}
use Rattle.session_desk.proofs.Reserving.{only_quiet, same_answers}
use Rattle.session_desk.proofs.Seated.{rows_after}

pub row_kept : (z : TableSize) (ds made : List Step) (rb rc : Rows) (ss : List Slot) (ls rs ks far : List ℕ) (c : ConfigParts) (row : ℕ) → IsKept z ds rb ss ls rs ks far → HasRow rb rc c row made → DeskDid z (made ++ ds) → (FitsConfig c → config_of_words (row_words c) ≡ c)
    → IsKept z (made ++ ds) rc ss ls rs ks far
row_kept z ds made rb rc ss ls rs ks far c row k h did cb = record {
  limits = k.limits;
  slots = record { count = k.slots.count; fits = λ j l. fits_else ds (made ++ ds) (suc j) j (slot_in ss j) (only_quiet z (suc j) made ds (made_quiet {i = suc j} rb rc c row made h) did) (λ e. omega (arith, e)) (k.slots.fits j l); alone = k.slots.alone };
  live = k.live;
  reserved = k.reserved;
  taken = k.taken;
  rows = (rows_after z ds made rb rc c row k.rows h cb).0;
  lines = k.lines ∙ ap lines_left (sym (same_answers {i = 0} made ds (made_quiet rb rc c row made h)));
  reach = k.reach;
  width = k.width;
  range = k.range;
}

pub row_does : (t : Table) (z : TableSize) (seat seat' : Seat) (made : List Step) (rb rc : Rows) (ss : List Slot) (ls rs ks : List ℕ) (c : ConfigParts) (row : ℕ) → HasRow rb rc c row made → HasAdded t seat seat' made
    → HasKeptRow t (book_of seat z rb ss ls rs ks) c (book_of seat' z rc ss ls rs ks)
row_does t z seat seat' made rb rc ss ls rs ks c row h added = record {
  row = row;
  made = made;
  room = has_row_left rb rc c row made h;
  kept = h;
  added = added;
  answers = ap desk_answers added.steps ∙ same_answers {i = 0} made (desk_steps seat) (made_quiet rb rc c row made h);
  live = refl;
  reserved = refl;
  keys = refl;
  size = refl;
}
