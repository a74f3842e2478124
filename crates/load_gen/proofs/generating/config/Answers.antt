use Rattle.std.proofs.Common.{rules}
use Rattle.refl_types.specs.Configs.{are_known_tlvs}
use Rattle.load_gen.specs.Generator.{config}
use Rattle.load_gen.proofs.generating.config.Goals as goal

pub unreachable-requires : goal.unreachable-requires
unfolding are_known_tlvs
unreachable-requires c = search rules

pub returns : goal.returns
unfolding are_known_tlvs config
returns c = search rules
