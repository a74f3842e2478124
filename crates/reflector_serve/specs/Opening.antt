-- A port as the opening leaves it (this project's own).
use Rattle.std.specs.Prelude.{◌≡◌, List}
use Rattle.refl_types.specs.declared.types.Endpoint.{Endpoint}
use Rattle.net_io.specs.Port.{PortEntry}
use Rattle.reflector_serve.specs.Ports.{PortView}
use Rattle.reflector_serve.specs.Served.{IsQuiet}

-- it is bound to these local addresses, and has told these entries
pub record IsOpening {P S : Type 0} (v : PortView P S) (locals : List Endpoint) (told : List PortEntry) (p q : P) : Type 0 where
  pub quiet : IsQuiet v told p q
  pub bound : (v q).bound ≡ locals
  pub still : (v q).faults ≡ (v p).faults
