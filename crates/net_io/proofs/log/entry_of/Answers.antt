use Rattle.std.proofs.Common.{ℕ, List, Some, ap, sym}
use Rattle.net_io.proofs.LogFacts.{slice_get-entries_of}
use Rattle.net_io.proofs.log.entry_of.Goals as goal

pub returns : goal.returns
returns g c =
    let e = c.index-entries-at.result in
    rw (slice_get-entries_of c.args.entries.now c.args.octets.now c.args.at e c.requires.within, ← c.index-entries-at.is, ← c.octets_before-from.ensures)
    (ap (λ (l : List ℕ). Some (e.0, l)) (sym c.part_of.ensures))
