use Rattle.std.proofs.Common.{◌≡◌, ◌+◌, ◌∙◌, ℕ, List, [], length, drop, refl, ap, arith}
use Rattle.std.specs.Prelude.{map, min}
use Rattle.net_io.specs.declared.script_port.PortDeed.TheVariants.{RecvFailed}
use Rattle.net_io.specs.declared.script_port.PortItem.{PortItem}
use Rattle.net_io.specs.Log.{first_or}
use Rattle.net_io.specs.Port.{ended}
use Rattle.net_io.specs.ScriptPort.{item_entry}
use Rattle.net_io.proofs.LogFacts.{takes_first, map-drop_next}
use Rattle.net_io.proofs.PortFacts.{log_grows, log_grows_got}
use Rattle.net_io.proofs.script_port.ScriptPortPort.recv.Goals as goal

pub returns-then-next_fails-clause-log : goal.returns-then-next_fails-clause-log
returns-then-next_fails-clause-log c = rw (← c.self.view_is) (log_grows c.self.inside.log c.note.new.self RecvFailed [] c.note.ensures)

pub returns-clause-coming : goal.returns-clause-coming
returns-clause-coming c =
    let items = c.self.inside.items.items in
    let at = c.self.inside.at in
    let place : c.min-self-inside.result ≡ min (length items) (at + 1) = omega arith in
    let rest : map item_entry (drop c.min-self-inside.result items) ≡ drop 1 (map item_entry (drop at items)) =
    ap (λ (n : ℕ). map item_entry (drop n items)) place ∙ map-drop_next item_entry items at (omega arith) in
    rw (← c.self.view_is) (takes_first (λ entry. entry ≡ ended) ended (map item_entry (drop at items)) _ _ refl (c.item_at-got.ensures.item ∙ ap (λ (l : List PortItem). first_or ended (map item_entry (drop at l))) c.deref.ensures.value) rest)

pub returns-clause-log : goal.returns-clause-log
returns-clause-log c = rw (← c.self.view_is) (log_grows_got c.self.inside.log c.note_got.new.log c.item_at-got.result c.item_at-got.new.buf c.note_got.ensures)

pub returns-clause-after : goal.returns-clause-after
returns-clause-after c =
    let items = c.self.inside.items.items in
    let at = c.self.inside.at in
    let place : c.min-self-inside.result ≡ min (length items) (at + 1) = omega arith in
    let rest : map item_entry (drop c.min-self-inside.result items) ≡ drop 1 (map item_entry (drop at items)) =
    ap (λ (n : ℕ). map item_entry (drop n items)) place ∙ map-drop_next item_entry items at (omega arith) in
    rw (← c.self.view_is, rest, c.note_got.ensures, c.next_fails.ensures.after) refl
