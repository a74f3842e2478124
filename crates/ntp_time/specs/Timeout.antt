-- The Timeout field (RFC 4656, section 3.5), in the 64-bit NTP timestamp format (RFC 5905, section 6).
use Rattle.std.specs.Prelude.{ℕ, ◌+◌, ◌*◌, ◌/◌, ◌^◌, List, take, drop}
use Rattle.std.specs.Int.{w32, from_be_bytes}

-- nanoseconds: whole seconds, and a fraction in parts of 2 ^ 32, rounded down
abbrev pub timeout_span : List ℕ → ℕ
timeout_span field =
    let seconds = from_be_bytes w32 (take 4 field) in
    let fraction = from_be_bytes w32 (drop 4 field) in
    seconds * 10 ^ 9 + fraction * 10 ^ 9 / 2 ^ 32
