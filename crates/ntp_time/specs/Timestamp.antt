-- The two formats of timestamps: NTP (RFC 5905, section 6) and truncated PTP (IEEE 1588; RFC 8186, section 2).
use Rattle.std.specs.Prelude.{ℕ, ◌+◌, ◌*◌, ◌/◌, ◌%◌, ◌^◌, List, ◌++◌}
use Rattle.std.specs.Int.{w32, to_be_bytes}
use Rattle.refl_types.specs.declared.config.Clock.{Clock}
use Rattle.refl_types.specs.declared.config.Clock.TheVariants.{Ntp, Ptp}

-- nanoseconds of a second
abbrev pub second : ℕ
second = 1000000000

-- seconds from the start of 1900 to the start of 1970
abbrev pub ntp_epoch : ℕ
ntp_epoch = 2208988800

-- A moment in nanoseconds since the start of 1970: seconds, then their fraction, in 2^32nds (NTP) or in nanoseconds
-- (PTP). The offset is added to PTP seconds alone. That seconds are modulo 2^32 is RFC 5905's era; that fractions are
-- rounded down is this project's own.
abbrev pub timestamp : Clock → ℕ → ℕ → List ℕ
timestamp Ntp offset nanos = to_be_bytes w32 ((nanos / second + ntp_epoch) % 2 ^ 32) ++ to_be_bytes w32 (nanos % second * 2 ^ 32 / second)
timestamp Ptp offset nanos = to_be_bytes w32 ((nanos / second + offset) % 2 ^ 32) ++ to_be_bytes w32 (nanos % second)
