use Rattle.conf_text.proofs.configs.tlvs_at.Goals as goal
use Rattle.conf_text.proofs.TlvFacts.{known_defaults}

pub returns-in-None-clause-known : goal.returns-in-None-clause-known
returns-in-None-clause-known c = known_defaults
