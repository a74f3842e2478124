-- The packet of a TWAMP-Test reflector (RFC 5357, section 4.2.1) with reflected octets and symmetrical size (RFC 6038,
-- sections 4 and 5). That padding is zeros is this project's own.
use Rattle.std.specs.Prelude.{ℕ, ◌+◌, ◌-◌, if◌then◌else◌, List, [], ◌∷◌, ◌++◌, length, take, drop, replicate, min, max}
use Rattle.std.specs.Int.{w32, to_be_bytes}
use Rattle.refl_types.specs.declared.types.Extra.{Extra}
use Rattle.stamp_packet.specs.declared.fields.ReplyBase.{ReplyBase}

-- the 41 octets before the padding, in the order of the wire: two octets that must be zero stand after each Error
-- Estimate
unfoldable pub test_fields : ReplyBase → List ℕ
test_fields r =
    to_be_bytes w32 r.sequence ++ r.timestamp ++ r.error ++ (0 ∷ 0 ∷ []) ++ r.received
    ++ to_be_bytes w32 r.sender.sequence ++ r.sender.timestamp ++ r.sender.error ++ (0 ∷ 0 ∷ r.ttl ∷ [])

-- where the padding of a request begins: with symmetrical size its first 41 octets are as many as a reply's (RFC 6038,
-- section 5.1)
abbrev pub padding_at : Extra → ℕ
padding_at x = if x.symmetrical then 41 else 14

-- how many octets of a request's padding are reflected (RFC 6038, section 4.2): no more than there are, and than a
-- datagram has room for
abbrev pub reflected_len : Extra → ℕ → ℕ
reflected_len x len = min (min x.reflect (len - padding_at x)) 65466

-- a reply is no shorter than its request
abbrev pub reply_len : Extra → ℕ → ℕ
reply_len x len = max (41 + reflected_len x len) len

-- the octets that are reflected, then zeros
abbrev pub reply_padding : Extra → List ℕ → List ℕ
reply_padding x input =
    take (reflected_len x (length input)) (drop (padding_at x) input)
    ++ replicate (reply_len x (length input) - (41 + reflected_len x (length input))) 0

abbrev pub test_reply : Extra → ReplyBase → List ℕ → List ℕ
test_reply x r input = test_fields r ++ reply_padding x input
