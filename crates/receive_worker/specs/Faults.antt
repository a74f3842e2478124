-- How a port's count of faults rises by several failures (this project's own).
use Rattle.std.specs.Prelude.{◌≡◌, ℕ, ◌+◌, ◌-◌, ◌^◌, ◌≤◌, min}

-- Without a failure the count stays. Each failure raises it, until it stands still at the last value of 64 bits
pub record RisesBy (failures old new : ℕ) : Type 0 where
  pub none : failures ≡ 0 → new ≡ old
  pub each : min (old + failures) (2 ^ 64 - 1) ≤ new
