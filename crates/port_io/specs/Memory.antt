-- What objects in memory hold, which of their calls fail, and what a call leaves.
use Rattle.std.specs.Prelude.{ℕ, Bool, ◌==◌, List, ◌++◌, drop}
use Rattle.std.specs.List.{list_any}
use Rattle.port_io.specs.Outside.{counted}

-- the numbers of the calls that fail, counted from 1, and how many calls were made
pub record PlannedFailures : Type 0 where
  pub failing : List ℕ
  pub calls : ℕ

-- whether the next call fails
abbrev pub next_fails : PlannedFailures → Bool
next_fails p = list_any (λ n. n == counted p.calls) p.failing

-- after one call more the same calls are planned
abbrev pub one_call_on : PlannedFailures → PlannedFailures
one_call_on p = record p { calls = counted p.calls }

-- a source: the octets left
pub record SourceState : Type 0 where
  pub left : List ℕ
  pub plan : PlannedFailures
  pub faults : ℕ

-- a sink: the octets written, and how many it may hold in all
pub record SinkState : Type 0 where
  pub written : List ℕ
  pub room : ℕ
  pub plan : PlannedFailures
  pub faults : ℕ

-- a source after a read of its next n octets
abbrev pub source_read : SourceState → ℕ → SourceState
source_read s n = record s { left = drop n s.left; plan = one_call_on s.plan }

-- a source after a call that failed
abbrev pub source_failed : SourceState → SourceState
source_failed s = record s { plan = one_call_on s.plan; faults = counted s.faults }

-- a sink after a write of these octets
abbrev pub sink_written : SinkState → List ℕ → SinkState
sink_written s octets = record s { written = s.written ++ octets; plan = one_call_on s.plan }

-- a sink after a call that failed
abbrev pub sink_failed : SinkState → SinkState
sink_failed s = record s { plan = one_call_on s.plan; faults = counted s.faults }
