-- What an object over a reader or a writer is.
use Rattle.std.specs.Prelude.{ℕ}

-- a reader or a writer, and how often it has failed
pub record Stream (T : Type 0) : Type 0 where
  pub inner : T
  pub faults : ℕ
