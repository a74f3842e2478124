use Rattle.std.proofs.Common.{refl, ◌∙◌, ap, arith}
use Rattle.std.specs.Int.{w16, w64, from_be_bytes}
use Rattle.replay_format.proofs.WholeFacts.{two_octets}
use Rattle.replay_format.proofs.whole.meta_of.Goals as goal

pub returns-clause-some : goal.returns-clause-some
returns-clause-some c = record {
  local = c.from_be_bytes.ensures ∙ ap (from_be_bytes w16) c.field2.ensures;
  address = c.in_ok-address.ensures.some;
  port = c.from_be_bytes-2.ensures ∙ ap (from_be_bytes w16) c.field2-2.ensures;
  ttl = two_octets 26 c.args.octets.now (omega (arith, c.requires)) ∙ c.in_ok-ttl.ensures.some;
  arrival = c.from_be_bytes-3.ensures ∙ ap (from_be_bytes w64) c.field8.ensures;
  len = refl;
}
