use Rattle.std.proofs.Common.{arith}
use Rattle.replay_format.specs.View.{item_of}
use Rattle.replay_format.proofs.RecordFacts.{rest_shorter, is_front, is_begun, is_foreign}
use Rattle.replay_format.proofs.record.read_record.Goals as goal

pub overflow_sub-result : goal.overflow_sub-result
overflow_sub-result c = rest_shorter c.args.octets.now c.in-Ok.rest.now (item_of c.in-Ok.record) (λ i. omega (arith, c.type_inv.octets i)) c.in-Ok.ensures.value

pub returns-in-Ok : goal.returns-in-Ok
returns-in-Ok c = (is_front c.args.octets.now c.in-Ok.rest.now (item_of c.in-Ok.record) (λ i. omega (arith, c.type_inv.octets i)) c.in-Ok.ensures.value, c.in-Ok.ensures.measured)

pub returns-in-Err-More : goal.returns-in-Err-More
returns-in-Err-More c = is_begun c.args.octets.now (λ i. omega (arith, c.type_inv.octets i)) ((rw c.in-Err-More.field-0-is at c.in-Err-More.ensures.value))

pub returns-in-Err-Bad : goal.returns-in-Err-Bad
returns-in-Err-Bad c = is_foreign c.args.octets.now (λ i. omega (arith, c.type_inv.octets i)) ((rw c.in-Err-Bad.field-0-is at c.in-Err-Bad.ensures.value))
