-- The authenticated base packet of a reply (RFC 8762, section 4.3.2) with the SSID (RFC 8972, section 3).
use Rattle.std.specs.Prelude.{ℕ, List, ◌∷◌, ◌++◌, replicate}
use Rattle.std.specs.Int.{w16, w32, to_be_bytes}
use Rattle.hmac_sha256.specs.Hmac.{mac128_of}
use Rattle.stamp_packet.specs.declared.fields.ReplyBase.{ReplyBase}

-- ---- the 96 octets that the HMAC covers, in the order of the wire

-- what is the reflector's own
unfoldable pub own_fields : ReplyBase → List ℕ
own_fields r =
    to_be_bytes w32 r.sequence ++ replicate 12 0 ++ r.timestamp ++ r.error ++ to_be_bytes w16 r.ssid ++ replicate 4 0
    ++ r.received

-- what is copied of the request, after eight octets that must be zero
unfoldable pub copied_fields : ReplyBase → List ℕ
copied_fields r =
    replicate 8 0 ++ to_be_bytes w32 r.sender.sequence ++ replicate 12 0 ++ r.sender.timestamp ++ r.sender.error
    ++ replicate 6 0 ++ (r.ttl ∷ replicate 15 0)

abbrev pub auth_fields : ReplyBase → List ℕ
auth_fields r = own_fields r ++ copied_fields r

-- ---- the whole packet, with the HMAC at its end (RFC 8762, section 4.4)

abbrev pub auth_reply : List ℕ → ReplyBase → List ℕ
auth_reply block r = auth_fields r ++ mac128_of block (auth_fields r)
