-- Decimal numbers, without a sign or a leading zero (this project's own).
use Rattle.std.specs.Prelude.{ℕ, ◌&&◌, if◌then◌else◌, List, Option, Some, None, nat_le, bytes_eq, decimal}
use Rattle.std.specs.Str.Parse.{digits_value}

-- the number of the range whose decimal spelling this text is
abbrev pub number_from : ℕ → ℕ → List ℕ → Option ℕ
number_from low high s =
    let n = digits_value 10 s in
    if bytes_eq (decimal n) s && nat_le low n && nat_le n high then Some n else None
