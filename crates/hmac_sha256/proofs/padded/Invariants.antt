use Rattle.std.proofs.Common.{◌≡◌, ◌++◌, take, drop}
use Rattle.hmac_sha256.specs.Hmac.{pad}
use Rattle.hmac_sha256.proofs.padded.Given as goal

abbrev pub invariant-loop-i : goal.invariant-loop-i
invariant-loop-i l = l.out ≡ pad l.octet (take l.i l.block) ++ drop l.i l.block
