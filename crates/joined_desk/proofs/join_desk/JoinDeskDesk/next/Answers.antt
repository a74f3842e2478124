use Rattle.std.proofs.Common.{◌∙◌, ℕ, drop, take, ap}
use Rattle.net_io.specs.declared.script_desk.DeskDeed.TheVariants.{Gave}
use Rattle.net_io.specs.Log.{noted}
use Rattle.net_io.specs.Desk.{octet_count}
use Rattle.net_io.proofs.DeskFacts.{desk_log_grows}
use Rattle.joined_desk.proofs.Carries.{next_goes}
use Rattle.joined_desk.proofs.join_desk.JoinDeskDesk.next.Goals as goal

pub returns-clause-log : goal.returns-clause-log
returns-clause-log c =
    let t = c.give-len.result.0 in
    let buf = c.give-len.new.buf in
    let note = c.note.ensures ∙ ap (λ (n : ℕ). noted c.self.inside.log (Gave t) (take n buf)) c.give-len.ensures.count in
    rw (← c.self.view_is) (desk_log_grows c.self.inside.log c.note.new.self (Gave t) (take (octet_count t.event) buf) note)

pub returns-clause-goes : goal.returns-clause-goes
returns-clause-goes c =
    let s = c.self.inside in
    let pending = c.rest_of-pending.ensures ∙ ap (drop s.at) c.deref.ensures.value in
    rw (← c.self.view_is)
    (next_goes s.setup s.client s.written.items s.at s.stage s.log c.give-len.result.0 c.give-len.result.1 c.give-len.new.buf c.rest_of-pending.result.now c.stage_behind-self-inside.result c.note.new.self pending
    c.give-len.ensures.event c.give-len.ensures.count c.give-len.ensures.len c.give-len.ensures.octets c.stage_behind-self-inside.ensures c.note.ensures)
