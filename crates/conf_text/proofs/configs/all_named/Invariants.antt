use Rattle.std.proofs.Common.{◌≡◌, []}
use Rattle.toml.specs.View.{members_view, table_view}
use Rattle.conf_text.specs.Configs as spec
use Rattle.conf_text.proofs.configs.all_named.Given as goal

-- reading on from here gives what reading all does
abbrev pub invariant-loop-name : goal.invariant-loop-name
invariant-loop-name l =
    (goal.iterator-loop-name).can_next l.name-iterator ×
    (goal.iterator-loop-name).is_finite l.name-iterator ×
    (spec.all_named [] (table_view l.table) ≡ spec.all_named l.found.items (members_view l.name-iterator))
