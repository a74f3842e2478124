-- The definitions, computed on small cases.
use Rattle.std.proofs.Common.{◌≡◌, ℕ, true, false, [], ◌∷◌, None, refl}
use Rattle.refl_types.specs.declared.types.Address.TheVariants.{V4}
use Rattle.refl_types.specs.declared.types.Endpoint.{Endpoint}
use Rattle.refl_types.specs.declared.types.Mode.TheVariants.{Twamp}
use Rattle.net_io.specs.declared.desk.ConnKind.TheVariants as kinds
use Rattle.twamp_control.specs.Connection.{opened}
use Rattle.control_desk.specs.declared.own.OwnSession.{OwnSession}
use Rattle.control_desk.specs.declared.sides.ControlSide.{ControlSide}
use Rattle.control_desk.specs.State.{Setting, DeskState}
use Rattle.control_desk.specs.Control.{Candidate, candidates, closing_moment}
use Rattle.control_desk.specs.Run.{is_idle, is_refused}

abbrev local : ℕ → ℕ → Endpoint
local last port = record { address = V4 (192 ∷ 0 ∷ 2 ∷ last ∷ []); port = port }

abbrev candidate : ℕ → ℕ → Candidate
candidate number port = record { local = number; port = port }

-- the wanted port comes first, then the others in the order of their numbers
wanted_first : candidates (local 10 862 ∷ local 10 5001 ∷ local 11 5001 ∷ []) false (V4 (192 ∷ 0 ∷ 2 ∷ 10 ∷ [])) 5001 ≡ candidate 1 5001 ∷ candidate 0 862 ∷ []
wanted_first = refl

-- a local with the all-zero address of the family receives for any address
any_local : candidates (record { address = V4 (0 ∷ 0 ∷ 0 ∷ 0 ∷ []); port = 862 } ∷ []) false (V4 (192 ∷ 0 ∷ 2 ∷ 10 ∷ [])) 5001 ≡ candidate 0 862 ∷ []
any_local = refl

abbrev own : ℕ → OwnSession
own timeout = record {
  place = record { slot = 0; generation = 1 };
  key = record { local = 0; peer = local 1 6000; mode = Twamp; ssid = 0 };
  timeout = timeout;
}

closing : closing_moment 7000000000 (own 2000000000) ≡ 9000000000
closing = refl

closing_last : closing_moment 18446744073709551615 (own 1) ≡ 18446744073709551615
closing_last = refl

abbrev silent : ControlSide
silent = record { machine = opened 0; peer = V4 (192 ∷ 0 ∷ 2 ∷ 1 ∷ []); local = V4 (192 ∷ 0 ∷ 2 ∷ 10 ∷ []); heard = 0; sessions = [] }

not_idle : is_idle 899999999999 silent ≡ false
not_idle = refl

idle : is_idle 900000000000 silent ≡ true
idle = refl

-- without `twamp` no control connection is kept
abbrev without_twamp : Setting
without_twamp = record { locals = local 10 862 ∷ []; twamp = None }

abbrev nobody : DeskState
nobody = record { names = []; connections = []; started = None }

no_clients : is_refused without_twamp nobody kinds.Control ≡ true
no_clients = refl

operators : is_refused without_twamp nobody kinds.Operator ≡ false
operators = refl
