use Rattle.session_octets.proofs.Formats.{endpoint_obeys}
use Rattle.session_octets.proofs.laws.law_endpoints.Goals as goal

pub returns-clause-read : goal.returns-clause-read
returns-clause-read c = λ x rest fits. endpoint_obeys.again x rest fits

pub returns-clause-spelled : goal.returns-clause-spelled
returns-clause-spelled c = λ octets rest x bytes e. endpoint_obeys.got octets x rest bytes e
