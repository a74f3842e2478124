-- What a sink of octets shows of itself.
use Rattle.std.specs.Prelude.{ℕ, List, Option}

pub record SinkShown : Type 0 where
  -- the octets written, where this is told
  pub written : Option (List ℕ)
  -- how often it has failed
  pub faults : ℕ
