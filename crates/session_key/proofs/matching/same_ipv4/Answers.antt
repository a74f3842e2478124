use Rattle.std.proofs.Common.{arith}
use Rattle.session_key.proofs.AddressFacts.{four}
use Rattle.session_key.proofs.matching.same_ipv4.Goals as goal

pub returns : goal.returns
returns c = four c.args.a.now c.args.b.now c.from_be_bytes.result c.from_be_bytes-2.result (omega arith) (omega arith) (λ i. omega (arith, c.fits-a i)) (λ i. omega (arith, c.fits-b i)) c.from_be_bytes.ensures c.from_be_bytes-2.ensures
