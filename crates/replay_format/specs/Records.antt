-- The records of a replay stream, and the one spelling of each. The stream is this project's own format.
use Rattle.std.specs.Prelude.{ℕ, ◌+◌, ◌*◌, ◌<◌, ◌≤◌, ◌^◌, false, List, [], ◌∷◌, ◌++◌, length, Option, Some, None}
use Rattle.std.specs.List.{flat_map, AllByRecursion, IsDistinct}
use Rattle.std.specs.Int.{w16, w32, w64, to_be_bytes}
use Rattle.octet_format.specs.Octets.{IsBytes}
use Rattle.refl_types.specs.Limits.{datagram_limit}
use Rattle.refl_types.specs.declared.types.Endpoint.{Endpoint}
use Rattle.refl_types.specs.declared.types.Key.{Key}
use Rattle.refl_types.specs.declared.types.Extra.{Extra}
use Rattle.refl_types.specs.declared.types.Meta.{Meta}
use Rattle.refl_types.specs.declared.config.ConfigParts.{ConfigParts}
use Rattle.refl_types.specs.Same.{same_endpoint}
use Rattle.refl_types.specs.Spelling.{endpoint_octets, key_octets, extra_octets, config_octets, FitsEndpoint, FitsSession, FitsConfig}

-- a session is opened
pub record Opening : Type 0 where
  pub key : Key
  pub extra : Extra
  pub config : ConfigParts

-- a session gets another configuration
pub record Setting : Type 0 where
  pub key : Key
  pub config : ConfigParts

-- a datagram arrives, and its reply leaves at the moment t3
pub record Datagram : Type 0 where
  pub local : ℕ
  pub peer : Endpoint
  pub ttl : Option ℕ
  pub arrival : ℕ
  pub t3 : ℕ
  pub octets : List ℕ

pub data Item : Type 0 where
  Opens : Opening → Item
  Sets : Setting → Item
  -- the session of a key is closed
  Closes : Key → Item
  Arrives : Datagram → Item
  -- these are the reflector's own addresses from now on
  Lists : List Endpoint → Item

-- what was told of a datagram, and its octets
abbrev pub datagram_of : Meta → ℕ → List ℕ → Datagram
datagram_of m t3 octets = record { local = m.local; peer = m.peer; ttl = m.ttl; arrival = m.arrival; t3 = t3; octets = octets }

-- ---- spelling

-- whether it is told, and the TTL, which is 0 where it isn't
abbrev pub ttl_octets : Option ℕ → List ℕ
ttl_octets None = 0 ∷ 0 ∷ []
ttl_octets (Some n) = 1 ∷ n ∷ []

abbrev pub opening_octets : Opening → List ℕ
opening_octets o = key_octets o.key ++ extra_octets o.extra ++ config_octets o.config

abbrev pub setting_octets : Setting → List ℕ
setting_octets s = key_octets s.key ++ config_octets s.config

abbrev pub datagram_octets : Datagram → List ℕ
datagram_octets d = to_be_bytes w16 d.local ++ endpoint_octets d.peer ++ ttl_octets d.ttl ++ to_be_bytes w64 d.arrival ++ to_be_bytes w64 d.t3 ++ d.octets

-- how many there are, and each
abbrev pub locals_octets : List Endpoint → List ℕ
locals_octets ls = length ls ∷ flat_map endpoint_octets ls

-- a tag, the length of the body in four octets, and the body
abbrev pub framed : ℕ → List ℕ → List ℕ
framed tag body = tag ∷ to_be_bytes w32 (length body) ++ body

abbrev pub spelling : Item → List ℕ
spelling (Opens o) = framed 1 (opening_octets o)
spelling (Sets s) = framed 2 (setting_octets s)
spelling (Closes k) = framed 3 (key_octets k)
spelling (Arrives d) = framed 4 (datagram_octets d)
spelling (Lists ls) = framed 5 (locals_octets ls)

-- how many octets it has
abbrev pub record_len : Item → ℕ
record_len (Opens o) = 108
record_len (Sets s) = 105
record_len (Closes k) = 29
record_len (Arrives d) = 44 + length d.octets
record_len (Lists ls) = 6 + 19 * length ls

-- ---- what has a spelling

abbrev pub FitsTtl : Option ℕ → Type 0
FitsTtl None = Unit {0}
FitsTtl (Some n) = n < 256

pub record FitsDatagram (d : Datagram) : Type 0 where
  pub local : d.local < 2 ^ 16
  pub peer : FitsEndpoint d.peer
  pub ttl : FitsTtl d.ttl
  pub arrival : d.arrival < 2 ^ 64
  pub t3 : d.t3 < 2 ^ 64
  pub octets : IsBytes d.octets
  pub len : length d.octets ≤ datagram_limit

pub record FitsOpening (o : Opening) : Type 0 where
  pub session : FitsSession o.key o.extra
  pub config : FitsConfig o.config

-- where a key stands without an extra, it is sound with none
abbrev pub no_extra : Extra
no_extra = record { symmetrical = false; reflect = 0 }

pub record FitsSetting (s : Setting) : Type 0 where
  pub session : FitsSession s.key no_extra
  pub config : FitsConfig s.config

-- an address of the reflector's own has a port
pub record FitsLocal (e : Endpoint) : Type 0 where
  pub fits : FitsEndpoint e
  pub port : 0 < e.port

pub record FitsLocals (ls : List Endpoint) : Type 0 where
  pub count : length ls ≤ 16
  pub each : AllByRecursion FitsLocal ls
  pub distinct : IsDistinct same_endpoint ls

abbrev pub Fits : Item → Type 0
Fits (Opens o) = FitsOpening o
Fits (Sets s) = FitsSetting s
Fits (Closes k) = FitsSession k no_extra
Fits (Arrives d) = FitsDatagram d
Fits (Lists ls) = FitsLocals ls

-- ---- streams

abbrev pub spellings : List Item → List ℕ
spellings items = flat_map spelling items

abbrev pub AllFit : List Item → Type 0
AllFit items = AllByRecursion Fits items
