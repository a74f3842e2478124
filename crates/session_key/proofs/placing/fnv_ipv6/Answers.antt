use Rattle.session_key.proofs.PlaceLaws.{fnv_two}
use Rattle.session_key.proofs.placing.fnv_ipv6.Goals as goal

pub returns : goal.returns
returns c = fnv_two c.args.start 6 c.fnv_from-hash.result c.fnv_from.result c.args.octets c.fnv_from-hash.ensures c.fnv_from.ensures
