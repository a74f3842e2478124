use Rattle.refl_types.proofs.SameFacts.{octets_same, same_octets-refl, endpoint_same, same_endpoint-refl, mode_same, same_mode-refl, key_same, same_key-refl, config_same, same_config-refl}
use Rattle.refl_types.proofs.laws.law_same.Goals as goal

pub returns : goal.returns
returns c = record {
  octets = octets_same;
  octets_self = same_octets-refl;
  endpoint = endpoint_same;
  endpoint_self = same_endpoint-refl;
  mode = mode_same;
  mode_self = same_mode-refl;
  key = key_same;
  key_self = same_key-refl;
  config = config_same;
  config_self = same_config-refl;
}
