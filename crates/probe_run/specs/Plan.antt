-- What is measured (this project's own).
use Rattle.std.specs.Prelude.{◌≤◌}
use Rattle.sender_core.specs.declared.types.SendPlan.{SendPlan}
use Rattle.sender_core.specs.Sending.{count_limit}
use Rattle.probe_run.specs.declared.probe.Probe.{Probe}

-- a request every 10 ms, and a second after the last
abbrev pub plan_of : Probe → SendPlan
plan_of p = record { ssid = p.ssid; count = p.count; gap = 10000000; wait = 1000000000 }

-- it has a request, and not too many
pub record IsProbe (p : Probe) : Type 0 where
  pub some : 1 ≤ p.count
  pub few : p.count ≤ count_limit
