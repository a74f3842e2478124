-- What a port shows of itself.
use Rattle.std.specs.Prelude.{ℕ, List, Option}
use Rattle.refl_types.specs.declared.types.Endpoint.{Endpoint}
use Rattle.net_io.specs.Port.{PortEntry}

-- S is the type of what it was made with
pub record PortShown (S : Type 0) : Type 0 where
  -- the local addresses that it is bound to; none at first. A datagram's local number is its place among them
  pub bound : List Endpoint
  -- what is still to come, where this is told: datagrams with their octets, nothing, the end
  pub coming : Option (List PortEntry)
  -- all that it did, where this is told
  pub log : Option (List PortEntry)
  -- what it was made with
  pub made : S
  -- how often it has failed
  pub faults : ℕ
