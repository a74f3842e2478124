use Rattle.std.proofs.Common.{refl, arith}
use Rattle.std.proofs.lemmas.Option.{slice_get_past}
use Rattle.net_io.specs.Log.{entries_of}
use Rattle.net_io.proofs.LogFacts.{length-entries_of}
use Rattle.net_io.proofs.log.Log.get.Goals as goal
use Rattle.net_io.proofs.log.Log.get.Goals.{then-not-self-via-then-not-self, then-not-self-via-else-not-self+then-at-len}

pub returns-then-not-self : goal.returns-then-not-self
returns-then-not-self g c =
    let entries = c.self.inside.entries.items in
    let octets = c.self.inside.octets.items in
    elim c.then-not-self.branch [
      | then-not-self-via-then-not-self w ↦ rw (← c.self.view_is, w.if-not-self.true) refl
      | then-not-self-via-else-not-self+then-at-len w ↦ rw (← c.self.view_is, w.if-not-self.false) (slice_get_past (entries_of entries octets) c.args.at (omega (arith, length-entries_of entries octets)))
    ]

pub returns : goal.returns
returns g c = rw (← c.self.view_is, c.if-not-self.false, ← c.deref.ensures.value, ← c.deref-2.ensures.value) c.entry_of.ensures
