use Rattle.std.proofs.Common.{◌≡◌, ℕ, ◌≤◌, length, get_or, take}
use Rattle.session_rule.specs.Seats.{size_of}
use Rattle.session_desk.specs.Slots.{Reaches}
use Rattle.session_desk.specs.Passing.{HavePassed}
use Rattle.session_desk.proofs.ticking.pass_all.Given as goal

abbrev pub invariant-loop-at : goal.invariant-loop-at
invariant-loop-at l = record {
  passed : HavePassed l.table l.fn.seat l.fn.slots.items (take l.at-index l.live) l.now l.ticked l.seat l.slots.items;
  count : length l.slots.items ≡ length l.fn.slots.items;
  width : length l.reach.items ≡ length l.fn.slots.items;
  range : (i : ℕ) → get_or l.reach.items i 0 ≤ length l.fn.slots.items;
  reaches : Reaches (size_of l.table) l.fn.slots.items l.fn.reach.items → Reaches (size_of l.table) l.slots.items l.reach.items;
}
