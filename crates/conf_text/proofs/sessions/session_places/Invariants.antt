use Rattle.std.proofs.Common.{◌≡◌, codes, drop, []}
use Rattle.toml.specs.View.{items_view, array_view}
use Rattle.conf_text.specs.Sessions.{session_of}
use Rattle.conf_text.specs.Tables.{places}
use Rattle.conf_text.specs.Taken.{TakenBy}
use Rattle.conf_text.proofs.sessions.session_places.Given as goal

-- reading on from here gives what reading all does, and the tables are those of what was found
abbrev pub invariant-loop-index : goal.invariant-loop-index
invariant-loop-index l =
    TakenBy l.taken l.found.items
    × (places (session_of l.locals l.configs) (codes "sessions") 0 [] (array_view l.list) ≡ places (session_of l.locals l.configs) (codes "sessions") l.index l.found.items (items_view (drop l.index l.list.items)))
