use Rattle.std.proofs.Common.{◌≡◌, ◌<◌, ◌≤◌, ◌+◌, ◌-◌, ◌⊎◌, length, ap, arith, inl, inr}
use Rattle.net_io.proofs.LogFacts.{told_more, told_full}
use Rattle.net_io.proofs.log.Log.note.Goals as goal
use Rattle.net_io.proofs.log.Log.note.Goals.{then-len-self-via-then-len-self, then-len-self-via-else-len-self+then-self-len}

pub returns-then-len-self : goal.returns-then-len-self
returns-then-len-self g c =
    let s = c.self.inside in
    let full : (length s.entries.items ≡ s.entry_room) ⊎ (s.octet_room - length s.octets.items < length c.args.octets.now) = elim c.then-len-self.branch [
      | then-len-self-via-then-len-self w ↦ inl (omega arith)
      | then-len-self-via-else-len-self+then-self-len w ↦ inr (omega arith)
    ] in
    rw (← c.self.view_is, c.if-not-self.false) (ap (λ t. record { told = t; entries = s.entry_room; octets = s.octet_room }) (told_full s.entries.items s.octets.items s.entry_room s.octet_room c.args.entry c.args.octets.now c.self.invariant.4 full))

pub returns : goal.returns
returns g c =
    let s = c.self.inside in
    let some : length s.entries.items < s.entry_room = omega arith in
    let enough : length s.octets.items + length c.args.octets.now ≤ s.octet_room = omega arith in
    rw (← c.self.view_is, c.if-not-self.false, c.push_within.ensures.items, c.extend_within.ensures.items)
    (ap (λ t. record { told = t; entries = s.entry_room; octets = s.octet_room }) (told_more s.entries.items s.octets.items s.entry_room s.octet_room c.args.entry c.args.octets.now c.self.invariant.4 some enough))
