-- The HMAC TLV of a reply (RFC 8972, section 4.8). What it covers is this project's reading of that section.
use Rattle.std.specs.Prelude.{ℕ, ◌+◌, List, ◌∷◌, ◌++◌, take, drop}
use Rattle.octet_format.specs.Octets.{field}
use Rattle.hmac_sha256.specs.Hmac.{mac128_of}

-- The TLV at a place of a reply's tail gets flags 0, and as its value the HMAC of the reply's Sequence Number and of
-- the tail before it.
abbrev pub sealed : List ℕ → List ℕ → ℕ → List ℕ → List ℕ
sealed block sequence at tail =
    take at tail ++ (0 ∷ field (at + 1) 3 tail) ++ mac128_of block (sequence ++ take at tail) ++ drop (at + 20) tail
