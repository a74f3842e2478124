use Rattle.std.proofs.Common.{sym, subst, arith}
use Rattle.stamp_packet.specs.declared.fields.SenderBase.{SenderBase}
use Rattle.stamp_auth.specs.Request.{IsAuthRequest}
use Rattle.stamp_auth.proofs.Requests.{is_auth_request}
use Rattle.stamp_auth.proofs.reading.read_auth_keyed.Goals as goal

pub returns-clause-table : goal.returns-clause-table
returns-clause-table c = subst (λ (s : SenderBase). IsAuthRequest c.args.octets.now s) (sym c.auth_sender.ensures) (is_auth_request c.args.octets.now (λ i. omega (arith, c.type_inv.octets i)) (omega arith))
