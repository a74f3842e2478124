use Rattle.std.proofs.Common.{◌≡◌, ◌+◌, ◌∙◌, ℕ, List, [], length, take, drop, refl, ap, arith}
use Rattle.std.specs.Prelude.{map, min}
use Rattle.net_io.specs.declared.script_desk.DeskDeed.TheVariants.{Gave, NextFailed}
use Rattle.net_io.specs.declared.script_desk.DeskItem.{DeskItem}
use Rattle.net_io.specs.Log.{first_or, noted}
use Rattle.net_io.specs.Desk.{gave, octet_count, IsEnd}
use Rattle.net_io.specs.ScriptDesk.{item_entry, end_at}
use Rattle.net_io.proofs.LogFacts.{takes_first, map-drop_next}
use Rattle.net_io.proofs.DeskFacts.{desk_log_grows}
use Rattle.net_io.proofs.script_desk.ScriptDeskDesk.next.Goals as goal

pub returns-then-next_fails-clause-log : goal.returns-then-next_fails-clause-log
returns-then-next_fails-clause-log c = rw (← c.self.view_is) (desk_log_grows c.self.inside.log c.note.new.self NextFailed [] c.note.ensures)

pub returns-clause-coming : goal.returns-clause-coming
returns-clause-coming c =
    let items = c.self.inside.items.items in
    let at = c.self.inside.at in
    let end = gave (end_at c.self.inside.last) [] in
    let place : c.min-self-inside.result ≡ min (length items) (at + 1) = omega arith in
    let rest : map item_entry (drop c.min-self-inside.result items) ≡ drop 1 (map item_entry (drop at items)) =
    ap (λ (n : ℕ). map item_entry (drop n items)) place ∙ map-drop_next item_entry items at (omega arith) in
    let first = c.item_at-len.ensures.item ∙ ap (λ (l : List DeskItem). first_or end (map item_entry (drop at l))) c.deref.ensures.value in
    rw (← c.self.view_is) (takes_first IsEnd end (map item_entry (drop at items)) _ _ (c.self.inside.last, refl) first rest)

pub returns-clause-log : goal.returns-clause-log
returns-clause-log c =
    let t = c.item_at-len.result.0 in
    let buf = c.item_at-len.new.buf in
    let note = c.note-2.ensures ∙ ap (λ (n : ℕ). noted c.self.inside.log (Gave t) (take n buf)) c.item_at-len.ensures.len in
    rw (← c.self.view_is) (desk_log_grows c.self.inside.log c.note-2.new.self (Gave t) (take (octet_count t.event) buf) note)

pub returns-clause-after : goal.returns-clause-after
returns-clause-after c =
    let items = c.self.inside.items.items in
    let at = c.self.inside.at in
    let place : c.min-self-inside.result ≡ min (length items) (at + 1) = omega arith in
    let rest : map item_entry (drop c.min-self-inside.result items) ≡ drop 1 (map item_entry (drop at items)) =
    ap (λ (n : ℕ). map item_entry (drop n items)) place ∙ map-drop_next item_entry items at (omega arith) in
    rw (← c.self.view_is, rest, c.note-2.ensures, c.item_at-len.ensures.len, c.next_fails.ensures.after) refl
