use Rattle.std.proofs.Common.{◌≡◌, drop}
use Rattle.conf_text.specs.Configs as spec
use Rattle.conf_text.proofs.configs.find_config.Given as goal

-- the name is none of those before
abbrev pub invariant-loop-named : goal.invariant-loop-named
invariant-loop-named l = spec.find_config l.name l.configs ≡ spec.find_config l.name (drop l.named-index l.configs)
