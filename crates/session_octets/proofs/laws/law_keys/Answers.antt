use Rattle.session_octets.proofs.Formats.{key_obeys}
use Rattle.session_octets.proofs.laws.law_keys.Goals as goal

pub returns-clause-read : goal.returns-clause-read
returns-clause-read c = λ x rest fits. key_obeys.again x rest fits

pub returns-clause-spelled : goal.returns-clause-spelled
returns-clause-spelled c = λ octets rest x bytes e. key_obeys.got octets x rest bytes e
