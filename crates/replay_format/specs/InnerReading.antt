-- Records are read from left to right: each part gives its value and the octets after it. But for `ttl_at`, only functions and proofs
-- inside this crate cite these words; what a caller is told is in View.antt.
use Rattle.std.specs.Prelude.{ℕ, zero, suc, ◌+◌, ◌-◌, ◌*◌, ◌/◌, ◌%◌, Bool, ◌&&◌, not, ◌==◌, nat_le, if◌then◌else◌, List, [], ◌∷◌, ◌++◌, Option, Some, None, Result, Ok, Err}
use Rattle.std.specs.List.{list_any}
use Rattle.std.specs.Int.{w16, w64}
use Rattle.octet_format.specs.declared.reading.Unread.{Unread}
use Rattle.octet_format.specs.declared.reading.Unread.TheVariants.{Bad}
use Rattle.refl_types.specs.declared.types.Endpoint.{Endpoint}
use Rattle.refl_types.specs.declared.types.Key.{Key}
use Rattle.refl_types.specs.Same.{same_endpoint}
use Rattle.octet_format.specs.Reading.{◌>>=◌, octet_at, octet_in, number_at, octets_at, zeros_at}
use Rattle.session_octets.specs.Reading.{endpoint_at, key_at, extra_at, config_at}
use Rattle.replay_format.specs.Records.{Item, Opens, Sets, Closes, Arrives, Lists, Opening, Setting, Datagram}

-- the length of a datagram's body, from 39 to 65,546
unfoldable pub body_len_at : List ℕ → Result (ℕ × List ℕ) Unread
body_len_at octets = do
  a ← octet_in 0 0 octets
  b ← octet_in 0 1 a.1
  c ← octet_in 0 (if b.0 == 0 then 255 else 0) b.1
  d ← octet_in (if b.0 == 0 && c.0 == 0 then 39 else 0) (if b.0 == 0 then 255 else 10) c.1
  Ok (b.0 * 65536 + c.0 * 256 + d.0, d.1)

unfoldable pub ttl_at : List ℕ → Result (Option ℕ × List ℕ) Unread
ttl_at octets = do
  t ← octet_in 0 1 octets
  n ← octet_in 0 (if t.0 == 0 then 0 else 255) t.1
  Ok ((if t.0 == 0 then None else Some n.0), n.1)

unfoldable pub datagram_at : List ℕ → Result (Datagram × List ℕ) Unread
datagram_at octets = do
  len ← body_len_at octets
  local ← number_at w16 len.1
  peer ← endpoint_at local.1
  ttl ← ttl_at peer.1
  arrival ← number_at w64 ttl.1
  t3 ← number_at w64 arrival.1
  text ← octets_at (len.0 - 39) t3.1
  Ok (record { local = local.0; peer = peer.0; ttl = ttl.0; arrival = arrival.0; t3 = t3.0; octets = text.0 }, text.1)

-- the length 103, and then the body
unfoldable pub opening_at : List ℕ → Result (Opening × List ℕ) Unread
opening_at octets = do
  high ← zeros_at 3 octets
  len ← octet_in 103 103 high.1
  k ← key_at len.1
  x ← extra_at k.0.mode k.1
  c ← config_at x.1
  Ok (record { key = k.0; extra = x.0; config = c.0 }, c.1)

-- the length 100, and then the body
unfoldable pub setting_at : List ℕ → Result (Setting × List ℕ) Unread
setting_at octets = do
  high ← zeros_at 3 octets
  len ← octet_in 100 100 high.1
  k ← key_at len.1
  c ← config_at k.1
  Ok (record { key = k.0; config = c.0 }, c.1)

-- the length 24, and then the body
unfoldable pub closing_at : List ℕ → Result (Key × List ℕ) Unread
closing_at octets = do
  high ← zeros_at 3 octets
  len ← octet_in 24 24 high.1
  key_at len.1

-- ---- lists of local addresses

-- as many octets have 0 to 16 endpoints behind their count
abbrev pub is_list_len : ℕ → Bool
is_list_len n = n % 19 == 1 && nat_le n 305

-- the length of the body, and how many endpoints it has
unfoldable pub count_at : List ℕ → Result (ℕ × List ℕ) Unread
count_at octets = do
  high ← zeros_at 2 octets
  b ← octet_in 0 1 high.1
  c ← octet_at (λ c. is_list_len (b.0 * 256 + c)) b.1
  octet_in ((b.0 * 256 + c.0) / 19) ((b.0 * 256 + c.0) / 19) c.1

-- an endpoint with a port, other than those before it
abbrev pub is_new : List Endpoint → Endpoint → Bool
is_new earlier e = not (e.port == 0) && not (list_any (λ x. same_endpoint x e) earlier)

unfoldable pub local_at : List Endpoint → List ℕ → Result (Endpoint × List ℕ) Unread
local_at earlier octets = do
  e ← endpoint_at octets
  if is_new earlier e.0 then Ok e else Err Bad

unfoldable pub locals_from : ℕ → List Endpoint → List ℕ → Result (List Endpoint × List ℕ) Unread
locals_from zero earlier octets = Ok ([], octets)
locals_from (suc n) earlier octets = do
  e ← local_at earlier octets
  more ← locals_from n (earlier ++ e.0 ∷ []) e.1
  Ok (e.0 ∷ more.0, more.1)

unfoldable pub locals_at : List ℕ → Result (List Endpoint × List ℕ) Unread
locals_at octets = do
  n ← count_at octets
  locals_from n.0 [] n.1

-- ---- the body of a record, by its tag

unfoldable pub body_at : ℕ → List ℕ → Result (Item × List ℕ) Unread
body_at tag octets =
    if tag == 1 then (opening_at octets >>= λ o. Ok (Opens o.0, o.1))
    else (if tag == 2 then (setting_at octets >>= λ s. Ok (Sets s.0, s.1))
    else (if tag == 3 then (closing_at octets >>= λ k. Ok (Closes k.0, k.1))
    else (if tag == 4 then (datagram_at octets >>= λ d. Ok (Arrives d.0, d.1))
    else (locals_at octets >>= λ l. Ok (Lists l.0, l.1)))))

unfoldable pub item_at : List ℕ → Result (Item × List ℕ) Unread
item_at octets = do
  tag ← octet_in 1 5 octets
  body_at tag.0 tag.1
