-- A session of the file (this project's own).
use Rattle.std.specs.Prelude.{ℕ, ◌-◌, ◌*◌, Bool, false, ◌&&◌, ◌||◌, not, if◌then◌else◌, List, [], ◌∷◌, ◌++◌, Option, Some, None, Result, Ok, Err, bytes_eq, codes, min, is_none}
use Rattle.std.specs.List.{list_any}
use Rattle.toml.specs.Data.{Data, Members, get_member}
use Rattle.refl_types.specs.declared.types.Mode.{Mode}
use Rattle.refl_types.specs.declared.types.Mode.TheVariants.{Plain, Auth, Twamp}
use Rattle.refl_types.specs.Keys.{is_sound}
use Rattle.refl_types.specs.Same.{same_mode}
use Rattle.session_key.specs.Matching.{excludes}
use Rattle.text_forms.specs.Endpoints.{endpoint_from}
use Rattle.conf_text.specs.declared.configs.Named.{Named}
use Rattle.conf_text.specs.declared.sessions.Provided.{Provided}
use Rattle.conf_text.specs.Faults.{Fault, BadValue, ◌>>=◌, within}
use Rattle.conf_text.specs.Tables.{known_keys, needed, number_at, flag_at, text_of, list_of, table_of, or_default, required, places, counted, items_len}
use Rattle.conf_text.specs.Configs.{config_from}

abbrev pub session_keys : List (List ℕ)
session_keys = codes "local" ∷ codes "peer" ∷ codes "mode" ∷ codes "ssid" ∷ codes "config" ∷ codes "wait" ∷ codes "reflect" ∷ codes "symmetrical" ∷ []

abbrev pub mode_from : List ℕ → Option Mode
mode_from s = if bytes_eq s (codes "plain") then Some Plain else if bytes_eq s (codes "auth") then Some Auth else if bytes_eq s (codes "twamp") then Some Twamp else None

-- the file has seconds, the session nanoseconds
abbrev pub nanoseconds : ℕ → ℕ
nanoseconds seconds = seconds * 1000000000

-- the values of a session, each for itself
unfoldable pub values_of : ℕ → List Named → Members → Result Provided Fault
values_of locals configs t = do
  known ← known_keys session_keys t
  has_peer ← needed (codes "peer") (get_member (codes "peer") t)
  has_config ← needed (codes "config") (get_member (codes "config") t)
  local ← number_at (codes "local") 0 (locals - 1) 0 t
  peer ← required (text_of endpoint_from (codes "peer")) (codes "peer") (get_member (codes "peer") t)
  mode ← or_default Plain (text_of mode_from (codes "mode")) (get_member (codes "mode") t)
  ssid ← number_at (codes "ssid") 0 65535 0 t
  config ← required (text_of (config_from configs) (codes "config")) (codes "config") (get_member (codes "config") t)
  wait ← number_at (codes "wait") 0 31536000 0 t
  reflect ← number_at (codes "reflect") 0 65535 0 t
  symmetrical ← flag_at (codes "symmetrical") false t
  Ok (record { key = record { local = local; peer = peer; mode = mode; ssid = ssid }; extra = record { symmetrical = symmetrical; reflect = reflect }; config = config; wait = nanoseconds wait })

-- the values of the session that stands at a path
unfoldable pub values_at : ℕ → List Named → List ℕ → Data → Result Provided Fault
values_at locals configs path d = table_of path d >>= (λ t. within path (values_of locals configs t))

-- the mode wants an HMAC key, and the configuration has none
abbrev pub lacks_key : Provided → Bool
lacks_key s = same_mode s.key.mode Auth && is_none s.config.key

-- no two sessions can be there at once with these keys
abbrev pub is_excluded : Provided → List Provided → Bool
is_excluded s earlier = list_any (λ e. excludes s.key e.key) earlier

-- a session beside the earlier ones
abbrev pub is_refused : Provided → List Provided → Bool
is_refused s earlier = not (is_sound s.key s.extra) || lacks_key s || is_excluded s earlier

unfoldable pub session_of : ℕ → List Named → List Provided → List ℕ → Data → Result (List Provided) Fault
session_of locals configs earlier path d = values_at locals configs path d >>= (λ s. if is_refused s earlier then Err (BadValue path) else Ok (earlier ++ s ∷ []))

-- all sessions
abbrev pub sessions_of : ℕ → ℕ → List Named → Data → Result (List Provided) Fault
sessions_of locals slots configs d = list_of (codes "sessions") d >>= (λ ds. counted (codes "sessions") 0 (min 16384 slots) (items_len ds) >>= (λ u. places (session_of locals configs) (codes "sessions") 0 [] ds))
