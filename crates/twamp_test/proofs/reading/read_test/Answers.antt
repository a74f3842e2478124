use Rattle.std.proofs.Common.{◌∙◌, ap, arith}
use Rattle.std.specs.Int.{w32, from_be_bytes}
use Rattle.twamp_test.proofs.Requests.{is_test_request}
use Rattle.twamp_test.proofs.reading.read_test.Goals as goal

pub returns-clause-table : goal.returns-clause-table
returns-clause-table c =
    is_test_request c.args.octets.now _ (λ i. omega (arith, c.type_inv.octets i)) (omega arith)
    (c.from_be_bytes.ensures ∙ ap (from_be_bytes w32) c.field4.ensures)
    c.field8.ensures
    c.field2.ensures
