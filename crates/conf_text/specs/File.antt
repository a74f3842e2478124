-- What the text of a configuration file stands for, or its first fault (this project's own; TOML 1.1, as the crate `toml` reads it).
use Rattle.std.specs.Prelude.{◌≡◌, ℕ, ◌-◌, ◌^◌, Bool, false, ◌&&◌, if◌then◌else◌, List, [], ◌∷◌, ◌++◌, length, Option, Some, None, Result, Ok, Err, codes, is_some}
use Rattle.std.specs.Str.{is_utf8}
use Rattle.std.specs.List.{list_any}
use Rattle.toml.specs.Data.{Data, Members, get_member, table}
use Rattle.toml.specs.Parse.{parse_document}
use Rattle.refl_types.specs.declared.types.Endpoint.{Endpoint}
use Rattle.refl_types.specs.declared.config.ConfigParts.{ConfigParts}
use Rattle.refl_types.specs.Same.{same_endpoint}
use Rattle.text_forms.specs.Endpoints.{endpoint_from}
use Rattle.text_forms.specs.Names.{is_name}
use Rattle.conf_text.specs.declared.root.Numbers.{Numbers}
use Rattle.conf_text.specs.declared.configs.Named.{Named}
use Rattle.conf_text.specs.declared.sessions.Provided.{Provided}
use Rattle.conf_text.specs.Faults.{Fault, NotToml, BadValue, ◌>>=◌}
use Rattle.conf_text.specs.Tables.{known_keys, needed, number_at, text_of, list_of, or_default, maybe, required, places, counted, items_len}
use Rattle.conf_text.specs.Configs.{configs_of, find_config}
use Rattle.conf_text.specs.Sessions.{sessions_of}
use Rattle.conf_text.specs.Rows.{distinct, in_use}

pub record File : Type 0 where
  pub locals : List Endpoint
  pub workers : ℕ
  pub slots : ℕ
  pub rows : ℕ
  pub limit : ℕ
  pub turns : ℕ
  pub control : Option Endpoint
  pub operator : Option Endpoint
  pub twamp : Option ConfigParts
  pub configs : List Named
  pub sessions : List Provided

abbrev pub file_keys : List (List ℕ)
file_keys = codes "locals" ∷ codes "workers" ∷ codes "slots" ∷ codes "rows" ∷ codes "limit" ∷ codes "turns" ∷ codes "control" ∷ codes "operator" ∷ codes "twamp" ∷ codes "configs" ∷ codes "sessions" ∷ []

-- ---- keys of the root

-- `twamp` is needed beside `control`
abbrev pub needed_with : Option Data → Option Data → Result (Unit {0}) Fault
needed_with None twamp = Ok tt
needed_with (Some control) twamp = needed (codes "twamp") twamp

abbrev pub keys_of : Members → Result (Unit {0}) Fault
keys_of t = do
  known ← known_keys file_keys t
  locals ← needed (codes "locals") (get_member (codes "locals") t)
  configs ← needed (codes "configs") (get_member (codes "configs") t)
  needed_with (get_member (codes "control") t) (get_member (codes "twamp") t)

-- ---- values of the root

-- a local address beside the earlier ones
abbrev pub local_of : List Endpoint → List ℕ → Data → Result (List Endpoint) Fault
local_of found path d = text_of endpoint_from path d >>= (λ e. if list_any (same_endpoint e) found then Err (BadValue path) else Ok (found ++ e ∷ []))

abbrev pub locals_of : Data → Result (List Endpoint) Fault
locals_of d = list_of (codes "locals") d >>= (λ ds. counted (codes "locals") 1 16 (items_len ds) >>= (λ u. places local_of (codes "locals") 0 [] ds))

unfoldable pub numbers_of : Members → Result Numbers Fault
numbers_of t = do
  workers ← number_at (codes "workers") 1 64 1 t
  slots ← number_at (codes "slots") 1 16384 1024 t
  rows ← number_at (codes "rows") 1 8191 64 t
  limit ← number_at (codes "limit") 0 (2 ^ 63 - 1) 0 t
  turns ← number_at (codes "turns") 0 (2 ^ 63 - 1) (2 ^ 63 - 1) t
  Ok (record { workers = workers; slots = slots; rows = rows; limit = limit; turns = turns })

abbrev pub has_config : Option Data → List ℕ → Bool
has_config (Some (table configs)) s = is_some (get_member s configs)
has_config other s = false

-- a name that is a key of `configs`, whatever stands there
abbrev pub twamp_from : Option Data → List ℕ → Option (List ℕ)
twamp_from configs s = if is_name s && has_config configs s then Some s else None

-- ---- the whole

abbrev pub config_named : List Named → Option (List ℕ) → Option ConfigParts
config_named configs None = None
config_named configs (Some name) = find_config name configs

unfoldable pub file_of : Members → Result File Fault
file_of t = do
  keys ← keys_of t
  locals ← required locals_of (codes "locals") (get_member (codes "locals") t)
  n ← numbers_of t
  control ← maybe (text_of endpoint_from (codes "control")) (get_member (codes "control") t)
  operator ← maybe (text_of endpoint_from (codes "operator")) (get_member (codes "operator") t)
  name ← maybe (text_of (twamp_from (get_member (codes "configs") t)) (codes "twamp")) (get_member (codes "twamp") t)
  configs ← required configs_of (codes "configs") (get_member (codes "configs") t)
  sessions ← or_default [] (sessions_of (length locals) n.slots configs) (get_member (codes "sessions") t)
  rows ← counted (codes "rows") 0 n.rows (length (distinct (in_use (config_named configs name) sessions)))
  Ok (record { locals = locals; workers = n.workers; slots = n.slots; rows = n.rows; limit = n.limit; turns = n.turns; control = control; operator = operator; twamp = config_named configs name; configs = configs; sessions = sessions })

-- ---- from the text

-- the table that the text is, by the grammar of TOML
abbrev pub in_document : Option Members → Result File Fault
in_document None = Err NotToml
in_document (Some t) = file_of t

abbrev pub file_in : List ℕ → Result File Fault
file_in text = if is_utf8 text then in_document (parse_document text) else Err NotToml

-- a file that some text stands for
abbrev pub IsSound : File → Type 0
IsSound f = (text : List ℕ) × (file_in text ≡ Ok f)
