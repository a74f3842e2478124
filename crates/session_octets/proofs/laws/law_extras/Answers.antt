use Rattle.session_octets.proofs.Formats.{extra_obeys}
use Rattle.session_octets.proofs.laws.law_extras.Goals as goal

pub returns-clause-read : goal.returns-clause-read
returns-clause-read c = λ m x rest fits. (extra_obeys m).again x rest fits

pub returns-clause-spelled : goal.returns-clause-spelled
returns-clause-spelled c = λ m octets rest x bytes e. (extra_obeys m).got octets x rest bytes e
