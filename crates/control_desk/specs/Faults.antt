-- A desk's own count of faults, beside what its tally counts.
use Rattle.std.specs.Prelude.{◌≡◌, ℕ, ◌+◌, ◌-◌, ◌^◌, ◌≤◌, min}

-- The count has risen by at least as many faults, or stands still at its last value; and where there were none, it stays
pub record AreFaultsTold (old new faults : ℕ) : Type 0 where
  pub rises : min (old + faults) (2 ^ 64 - 1) ≤ new
  pub stays : faults ≡ 0 → new ≡ old
