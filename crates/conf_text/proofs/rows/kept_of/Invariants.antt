use Rattle.std.proofs.Common.{drop}
use Rattle.conf_text.specs.Rows.{session_configs, Keeps}
use Rattle.conf_text.proofs.rows.kept_of.Given as goal

-- the configurations from here on are kept
abbrev pub invariant-loop-index : goal.invariant-loop-index
invariant-loop-index l = Keeps l.kept.items (session_configs (drop l.index l.sessions))
