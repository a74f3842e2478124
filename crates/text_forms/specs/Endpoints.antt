-- Endpoints as texts (this project's own): `192.0.2.1:862`, `[2001:0db8:0000:0000:0000:0000:0000:0001]:862`.
use Rattle.std.specs.Prelude.{ℕ, ◌+◌, ◌-◌, ◌*◌, ◌/◌, ◌%◌, ◌≤◌, ◌&&◌, ◌==◌, if◌then◌else◌, List, [], ◌∷◌, ◌++◌, drop, slice_index, Option, Some, None, option_map, nat_le, nat_lt, decimal, codes}
use Rattle.refl_types.specs.declared.types.Address.{Address}
use Rattle.refl_types.specs.declared.types.Address.TheVariants.{V4, V6}
use Rattle.refl_types.specs.declared.types.Endpoint.{Endpoint}
use Rattle.refl_types.specs.Spelling.{FitsEndpoint}
use Rattle.text_forms.specs.Steps.{◌>>=◌}
use Rattle.text_forms.specs.Numbers.{number_from}

-- ---- how an endpoint is spelled

abbrev pub hex_digit : ℕ → ℕ
hex_digit n = if nat_lt n 10 then 48 + n else 87 + n

-- two lower-case hexadecimal digits
abbrev pub hex_octet : ℕ → List ℕ
hex_octet n = hex_digit (n / 16) ∷ hex_digit (n % 16) ∷ []

-- decimal numbers with dots between them
abbrev pub dotted : List ℕ → List ℕ
dotted [] = []
dotted (a ∷ []) = decimal a
dotted (a ∷ b ∷ rest) = decimal a ++ codes "." ++ dotted (b ∷ rest)

-- groups of two octets, each behind a colon
abbrev pub more_groups : List ℕ → List ℕ
more_groups [] = []
more_groups (a ∷ []) = []
more_groups (a ∷ b ∷ rest) = codes ":" ++ hex_octet a ++ hex_octet b ++ more_groups rest

-- groups of two octets with colons between them
abbrev pub grouped : List ℕ → List ℕ
grouped [] = []
grouped (a ∷ []) = []
grouped (a ∷ b ∷ rest) = hex_octet a ++ hex_octet b ++ more_groups rest

abbrev pub address_text : Address → List ℕ
address_text (V4 octets) = dotted octets
address_text (V6 octets) = codes "[" ++ grouped octets ++ codes "]"

abbrev pub endpoint_text : Endpoint → List ℕ
endpoint_text e = address_text e.address ++ codes ":" ++ decimal e.port

-- the endpoints that are read: port 0 is none
pub record HasText (e : Endpoint) : Type 0 where
  pub fits : FitsEndpoint e
  pub port : 1 ≤ e.port

-- the first so many bits of addresses of IPv4 (RFC 4632, section 3.1)
abbrev pub prefix_text : List ℕ → ℕ → List ℕ
prefix_text octets len = dotted octets ++ codes "/" ++ decimal len

-- ---- how it is read, from left to right

-- what stands before and after the first such octet
abbrev pub cut : ℕ → List ℕ → Option (List ℕ × List ℕ)
cut mark [] = None
cut mark (c ∷ cs) = if c == mark then Some ([], cs) else option_map (λ p. (c ∷ p.0, p.1)) (cut mark cs)

abbrev pub dot : ℕ
dot = 46

abbrev pub colon : ℕ
colon = 58

abbrev pub slash : ℕ
slash = 47

abbrev pub open_bracket : ℕ
open_bracket = 91

abbrev pub close_bracket : ℕ
close_bracket = 93

abbrev pub v4_from : List ℕ → Option (List ℕ)
v4_from s = do
  a ← cut dot s
  b ← cut dot a.1
  c ← cut dot b.1
  w ← number_from 0 255 a.0
  x ← number_from 0 255 b.0
  y ← number_from 0 255 c.0
  z ← number_from 0 255 c.1
  Some (w ∷ x ∷ y ∷ z ∷ [])

-- the octets and the length whose text this is: `law_prefix_texts` ties it to `prefix_text`
abbrev pub prefix_from : List ℕ → Option (List ℕ × ℕ)
prefix_from s = do
  p ← cut slash s
  octets ← v4_from p.0
  len ← number_from 0 32 p.1
  Some (octets, len)

-- the value of a digit; letters are lower case
abbrev pub nibble : ℕ → Option ℕ
nibble c =
    if nat_le 48 c && nat_le c 57 then Some (c - 48)
    else if nat_le 97 c && nat_le c 102 then Some (c - 87)
    else None

abbrev pub mark_at : ℕ → List ℕ → Option (List ℕ)
mark_at mark [] = None
mark_at mark (c ∷ rest) = if c == mark then Some rest else None

abbrev pub octet_at : List ℕ → Option (ℕ × List ℕ)
octet_at (c ∷ d ∷ rest) = do
  h ← nibble c
  l ← nibble d
  Some (16 * h + l, rest)
octet_at other = None

-- two groups
unfoldable pub groups_at : List ℕ → Option ((ℕ × ℕ × ℕ × ℕ) × List ℕ)
groups_at s = do
  a ← octet_at s
  b ← octet_at a.1
  r ← mark_at colon b.1
  c ← octet_at r
  d ← octet_at c.1
  Some ((a.0, b.0, c.0, d.0), d.1)

abbrev pub four : ℕ × ℕ × ℕ × ℕ → List ℕ → List ℕ
four g rest = g.0 ∷ g.1 ∷ g.2 ∷ g.3 ∷ rest

unfoldable pub v6_at : List ℕ → Option (List ℕ × List ℕ)
v6_at s = do
  a ← groups_at s
  r ← mark_at colon a.1
  b ← groups_at r
  t ← mark_at colon b.1
  c ← groups_at t
  u ← mark_at colon c.1
  d ← groups_at u
  Some (four a.0 (four b.0 (four c.0 (four d.0 []))), d.1)

abbrev pub v6_endpoint_from : List ℕ → Option Endpoint
v6_endpoint_from s = do
  a ← v6_at s
  r ← mark_at close_bracket a.1
  digits ← mark_at colon r
  port ← number_from 1 65535 digits
  Some (record { address = V6 a.0; port = port })

abbrev pub v4_endpoint_from : List ℕ → Option Endpoint
v4_endpoint_from s = do
  p ← cut colon s
  a ← v4_from p.0
  port ← number_from 1 65535 p.1
  Some (record { address = V4 a; port = port })

-- the endpoint whose text this is: `law_endpoint_texts` ties it to `endpoint_text`
abbrev pub endpoint_from : List ℕ → Option Endpoint
endpoint_from s = if slice_index s 0 == open_bracket then v6_endpoint_from (drop 1 s) else v4_endpoint_from s
