-- What a buffer holds that is read ahead.
use Rattle.std.specs.Prelude.{ℕ, ◌-◌, ◌^◌, List, take, drop}
use Rattle.read_ahead.specs.declared.ahead.ReadAhead.{ReadAhead}

-- the octets of the longest stream that is read
abbrev pub stream_limit : ℕ
stream_limit = 2 ^ 30

-- the octets between two places
abbrev pub between : List ℕ → ℕ → ℕ → List ℕ
between octets from to = take (to - from) (drop from octets)

-- octets that were read and are not taken yet
abbrev pub pending : ReadAhead → List ℕ
pending r = between r.octets.items r.from r.to
