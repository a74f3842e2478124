-- What an Accept field says (RFC 4656, section 3.3).
use Rattle.std.specs.Prelude.{ℕ}
use Rattle.control_msgs.specs.declared.codes.Accept.{Accept}
use Rattle.control_msgs.specs.declared.codes.Accept.TheVariants.{Accepted, Failure, InternalError, NotSupported, PermanentLimit, TemporaryLimit}

abbrev pub accept_code : Accept → ℕ
accept_code Accepted = 0
accept_code Failure = 1
accept_code InternalError = 2
accept_code NotSupported = 3
accept_code PermanentLimit = 4
accept_code TemporaryLimit = 5
