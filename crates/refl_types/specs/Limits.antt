-- How long a datagram may be.
use Rattle.std.specs.Prelude.{ℕ}

-- the greatest payload of UDP over IPv4 (RFC 768, RFC 791): 65,535 octets less a header of 20 and one of 8
abbrev pub datagram_limit : ℕ
datagram_limit = 65507
