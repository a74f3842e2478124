use Rattle.std.proofs.Common.{◌≡◌, codes, drop, []}
use Rattle.toml.specs.View.{items_view, array_view}
use Rattle.conf_text.specs.File.{local_of}
use Rattle.conf_text.specs.Tables.{places}
use Rattle.conf_text.proofs.root.local_places.Given as goal

-- reading on from here gives what reading all does
abbrev pub invariant-loop-index : goal.invariant-loop-index
invariant-loop-index l = places local_of (codes "locals") 0 [] (array_view l.list) ≡ places local_of (codes "locals") l.index l.found.items (items_view (drop l.index l.list.items))
