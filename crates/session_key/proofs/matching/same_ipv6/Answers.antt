use Rattle.std.proofs.Common.{◌∙◌, ap, arith}
use Rattle.std.specs.Int.{w64, from_be_bytes}
use Rattle.session_key.proofs.AddressFacts.{sixteen, front_same, front_other}
use Rattle.session_key.proofs.matching.same_ipv6.Goals as goal

pub returns-then-front : goal.returns-then-front
returns-then-front c =
    front_same c.from_be_bytes.result c.from_be_bytes-2.result _ _
    (sixteen c.args.a.now c.args.b.now c.from_be_bytes.result c.from_be_bytes-2.result c.from_be_bytes-3.result c.from_be_bytes-4.result (omega arith) (omega arith) (λ i. omega (arith, c.fits-a i)) (λ i. omega (arith, c.fits-b i))
    (c.from_be_bytes.ensures ∙ ap (from_be_bytes w64) c.field8.ensures) (c.from_be_bytes-2.ensures ∙ ap (from_be_bytes w64) c.field8-2.ensures) (c.from_be_bytes-3.ensures ∙ ap (from_be_bytes w64) c.field8-3.ensures) (c.from_be_bytes-4.ensures ∙ ap (from_be_bytes w64) c.field8-4.ensures))
    c.if-front.true

pub returns-else-front : goal.returns-else-front
returns-else-front c =
    front_other c.from_be_bytes.result c.from_be_bytes-2.result _ _
    (sixteen c.args.a.now c.args.b.now c.from_be_bytes.result c.from_be_bytes-2.result c.from_be_bytes-3.result c.from_be_bytes-4.result (omega arith) (omega arith) (λ i. omega (arith, c.fits-a i)) (λ i. omega (arith, c.fits-b i))
    (c.from_be_bytes.ensures ∙ ap (from_be_bytes w64) c.field8.ensures) (c.from_be_bytes-2.ensures ∙ ap (from_be_bytes w64) c.field8-2.ensures) (c.from_be_bytes-3.ensures ∙ ap (from_be_bytes w64) c.field8-3.ensures) (c.from_be_bytes-4.ensures ∙ ap (from_be_bytes w64) c.field8-4.ensures))
    c.if-front.false
