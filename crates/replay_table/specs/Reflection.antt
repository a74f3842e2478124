-- The reply to a datagram of a session, under the count of the session.
use Rattle.std.specs.Prelude.{ℕ, ◌%◌, ◌^◌, List, length}
use Rattle.refl_types.specs.declared.types.Endpoint.{Endpoint}
use Rattle.refl_types.specs.declared.types.Meta.{Meta}
use Rattle.reflect_core.specs.Reflection.{Reflected, reflection}
use Rattle.replay_format.specs.Records.{Datagram}
use Rattle.replay_format.specs.Answers.{Sending}
use Rattle.replay_table.specs.Table.{Entry}

-- what is told of a datagram besides its octets
abbrev pub meta_of : Datagram → Meta
meta_of d = record { local = d.local; peer = d.peer; len = length d.octets; ttl = d.ttl; arrival = d.arrival }

-- a reply that is sent under a number
abbrev pub sent_under : ℕ → Reflected → Sending
sent_under n r = record { from = r.from; to = r.to; number = n; octets = r.octets }

-- the number is the count modulo 2^32
unfoldable pub sending : List Endpoint → Entry → Datagram → Sending
sending locals e d = sent_under (e.count % 2 ^ 32) (reflection e.key.mode e.extra e.config (record { number = e.count % 2 ^ 32; sending = d.t3 }) (record { meta = meta_of d; octets = d.octets; locals = locals }))
