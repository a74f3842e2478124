use Rattle.std.proofs.Common.{◌∙◌, ap, arith}
use Rattle.std.specs.Int.{w16, w32, from_be_bytes}
use Rattle.stamp_packet.proofs.Requests.{is_request}
use Rattle.stamp_packet.proofs.plain.read_plain.Goals as goal

pub returns-clause-table : goal.returns-clause-table
returns-clause-table c =
    is_request c.args.octets.now _ (λ i. omega (arith, c.type_inv.octets i)) (omega arith)
    (c.from_be_bytes.ensures ∙ ap (from_be_bytes w32) c.field4.ensures)
    c.field8.ensures
    c.field2.ensures
    (c.from_be_bytes-2.ensures ∙ ap (from_be_bytes w16) c.field2-2.ensures)
