-- A named configuration of the file (this project's own).
use Rattle.std.specs.Prelude.{ℕ, pos, ◌+◌, ◌^◌, true, false, Bool, ◌&&◌, not, ◌==◌, if◌then◌else◌, List, [], ◌∷◌, ◌++◌, length, Option, Some, None, Result, Ok, Err, bytes_eq, bit_or, codes, replicate}
use Rattle.toml.specs.Data.{Data, integer, Members, no_members, member, get_member}
use Rattle.hex.specs.Hex.{decode_of, decode_sized}
use Rattle.hex.specs.declared.error.FromHexError.{FromHexError}
use Rattle.hmac_sha256.specs.Hmac.{block_of}
use Rattle.refl_types.specs.declared.config.Clock.{Clock}
use Rattle.refl_types.specs.declared.config.Clock.TheVariants.{Ntp, Ptp}
use Rattle.refl_types.specs.declared.config.ConfigParts.{ConfigParts}
use Rattle.refl_types.specs.Configs.{supports, may_be_supported}
use Rattle.text_forms.specs.Names.{is_name}
use Rattle.conf_text.specs.declared.configs.Named.{Named}
use Rattle.conf_text.specs.Faults.{Fault, BadValue, ◌>>=◌, within}
use Rattle.conf_text.specs.Tables.{known_keys, number_at, flag_at, text_of, list_of, table_of, or_default, maybe, places, counted, members_len}

abbrev pub config_keys : List (List ℕ)
config_keys = codes "stateful" ∷ codes "format" ∷ codes "offset" ∷ codes "synced" ∷ codes "scale" ∷ codes "multiplier" ∷ codes "key" ∷ codes "info" ∷ codes "tlvs" ∷ []

abbrev pub clock_from : List ℕ → Option Clock
clock_from s = if bytes_eq s (codes "ntp") then Some Ntp else if bytes_eq s (codes "ptp") then Some Ptp else None

-- ---- hexadecimal octets

abbrev pub decoded : Result (List ℕ) FromHexError → Option (List ℕ)
decoded (Ok octets) = Some octets
decoded (Err e) = None

abbrev pub hex_from : List ℕ → Option (List ℕ)
hex_from s = decoded (decode_of s)

-- a key of 1 to 256 octets, in its block form
abbrev pub key_of : List ℕ → Data → Result (List ℕ) Fault
key_of path d = text_of hex_from path d >>= (λ k. counted path 1 256 (length k) >>= (λ u. Ok (block_of k)))

-- four octets
abbrev pub info_from : List ℕ → Option (List ℕ)
info_from s = decoded (decode_sized s 4)

-- ---- TLV types as bits

-- a type that may be supported, and that wasn't named before
abbrev pub tlv_of : ℕ → List ℕ → Data → Result ℕ Fault
tlv_of found path (integer (pos n)) = if may_be_supported n && not (supports found n) then Ok (bit_or found (2 ^ n)) else Err (BadValue path)
tlv_of found path _ = Err (BadValue path)

abbrev pub tlvs_of : List ℕ → Data → Result ℕ Fault
tlvs_of path d = list_of path d >>= (λ ds. places tlv_of path 0 0 ds)

-- Timestamp Information (3) and Direct Measurement (5)
abbrev pub default_tlvs : ℕ
default_tlvs = 2 ^ 3 + 2 ^ 5

unfoldable pub config_of : Members → Result ConfigParts Fault
config_of t = do
  known ← known_keys config_keys t
  stateful ← flag_at (codes "stateful") true t
  clock ← or_default Ntp (text_of clock_from (codes "format")) (get_member (codes "format") t)
  offset ← number_at (codes "offset") 0 255 0 t
  synced ← flag_at (codes "synced") false t
  scale ← number_at (codes "scale") 0 63 0 t
  multiplier ← number_at (codes "multiplier") 1 255 1 t
  key ← maybe (key_of (codes "key")) (get_member (codes "key") t)
  info ← or_default (replicate 4 0) (text_of info_from (codes "info")) (get_member (codes "info") t)
  tlvs ← or_default default_tlvs (tlvs_of (codes "tlvs")) (get_member (codes "tlvs") t)
  Ok (record { stateful = stateful; clock = clock; offset = offset; synced = synced; scale = scale; multiplier = multiplier; info = info; tlvs = tlvs; key = key })

-- ---- all configurations

abbrev pub config_at : List ℕ → Data → Result ConfigParts Fault
config_at name d = table_of name d >>= (λ t. within name (config_of t))

-- a key that is no name is at fault as a key of `configs`, and not as a path of its own
unfoldable pub named_of : List ℕ → Data → Result Named Fault
named_of name d =
    if is_name name then within (codes "configs") (config_at name d) >>= (λ c. Ok (record { name = name; config = c }))
    else Err (BadValue (codes "configs"))

-- in byte order of their names
unfoldable pub all_named : List Named → Members → Result (List Named) Fault
all_named found no_members = Ok found
all_named found (member name d ms) = named_of name d >>= (λ n. all_named (found ++ n ∷ []) ms)

abbrev pub configs_of : Data → Result (List Named) Fault
configs_of d = table_of (codes "configs") d >>= (λ t. counted (codes "configs") 1 256 (members_len t) >>= (λ u. all_named [] t))

-- the configuration of a name
abbrev pub find_config : List ℕ → List Named → Option ConfigParts
find_config name [] = None
find_config name (c ∷ cs) = if bytes_eq name c.name then Some c.config else find_config name cs

-- a text that is both a name and a key of `configs`
abbrev pub config_from : List Named → List ℕ → Option ConfigParts
config_from configs s = if is_name s then find_config s configs else None
