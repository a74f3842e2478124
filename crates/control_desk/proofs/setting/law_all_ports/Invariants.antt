use Rattle.std.proofs.Common.{ℕ, ◌<◌, ◌^◌}
use Rattle.std.specs.Prelude.{slice_index_or}
use Rattle.refl_types.specs.declared.types.Endpoint.{Endpoint}
use Rattle.control_desk.proofs.setting.law_all_ports.Given as goal

abbrev pub invariant-loop-local : goal.invariant-loop-local
invariant-loop-local l = (k : ℕ) (d : Endpoint) → k < l.local-index → (slice_index_or l.locals k d).port < 2 ^ 16
