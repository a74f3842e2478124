-- Octets as numbers below 256.
use Rattle.std.specs.Prelude.{◌≡◌, ℕ, ◌<◌, List, length, get_or, take, drop}

-- each number is an octet
abbrev pub IsBytes : List ℕ → Type 0
IsBytes bytes = (i : ℕ) → get_or bytes i 0 < 256

-- just n octets
abbrev pub IsArray : ℕ → List ℕ → Type 0
IsArray n bytes = (length bytes ≡ n) × IsBytes bytes

-- n octets at a place
abbrev pub field : ℕ → ℕ → List ℕ → List ℕ
field at n octets = take n (drop at octets)
