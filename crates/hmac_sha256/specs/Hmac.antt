-- HMAC with SHA-256 (RFC 2104).
use Rattle.std.specs.Prelude.{ℕ, ◌-◌, List, ◌++◌, length, take, replicate, map, bit_xor, nat_lt, if◌then◌else◌}
use Rattle.sha2.specs.Sha256.{sha256}

-- a key of at most 64 octets, filled with zeros
abbrev pub filled : List ℕ → List ℕ
filled key = key ++ replicate (64 - length key) 0

-- the block form of a key (RFC 2104, section 2, and section 3 for long keys)
abbrev pub block_of : List ℕ → List ℕ
block_of key = filled (if nat_lt 64 (length key) then sha256 key else key)

abbrev pub pad : ℕ → List ℕ → List ℕ
pad octet block = map (λ b. bit_xor b octet) block

-- H (K xor opad, H (K xor ipad, text)) (RFC 2104, section 2)
unfoldable pub hmac : List ℕ → List ℕ → List ℕ
hmac block text = sha256 (pad 0x5C block ++ sha256 (pad 0x36 block ++ text))

-- its leftmost 128 bits (RFC 2104, section 5; RFC 8762, section 4.4)
unfoldable pub mac128_of : List ℕ → List ℕ → List ℕ
mac128_of block text = take 16 (hmac block text)
