-- What is handed in with a datagram.
use Rattle.std.specs.Prelude.{ℕ, List}
use Rattle.refl_types.specs.declared.types.Endpoint.{Endpoint}
use Rattle.refl_types.specs.declared.types.Meta.{Meta}
use Rattle.reflect_core.specs.declared.session.Datagram as datagrams

-- a datagram: what is told of it, its octets, and the reflector's own addresses
pub record Arrived : Type 0 where
  pub meta : Meta
  pub octets : List ℕ
  pub locals : List Endpoint

abbrev pub arrived : datagrams.Datagram → Arrived
arrived d = record { meta = d.meta.now; octets = d.octets.now; locals = d.locals.now }
