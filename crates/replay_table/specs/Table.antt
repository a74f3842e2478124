-- The table that one thread keeps of a replay: a finite map from keys to sessions, by its entries in the order of opening;
-- beside it the configurations that were accepted, and the reflector's own addresses.
use Rattle.std.specs.Prelude.{ℕ, ◌+◌, Bool, ◌||◌, ◌&&◌, ◌==◌, nat_lt, not, List, [], ◌∷◌, ◌++◌, length, Option, find, if◌then◌else◌}
use Rattle.std.specs.List.{list_any}
use Rattle.refl_types.specs.declared.types.Endpoint.{Endpoint}
use Rattle.refl_types.specs.declared.types.Key.{Key}
use Rattle.refl_types.specs.declared.types.Extra.{Extra}
use Rattle.refl_types.specs.declared.config.ConfigParts.{ConfigParts}
use Rattle.refl_types.specs.Same.{same_endpoint, same_mode, same_key, same_config}
use Rattle.session_key.specs.declared.matching.Query.{Query}
use Rattle.session_key.specs.Matching.{matches}

-- a session: its count is how many numbers it has drawn, without a bound
pub record Entry : Type 0 where
  pub key : Key
  pub extra : Extra
  pub config : ConfigParts
  pub count : ℕ

pub record Table : Type 0 where
  pub sessions : List Entry
  -- the distinct configurations that were accepted, first of all the first
  pub configs : List ConfigParts
  pub locals : List Endpoint

abbrev pub empty_table : Table
empty_table = record { sessions = []; configs = []; locals = [] }

-- ---- sessions

-- a key is bound where the table has it
abbrev pub is_bound : Key → List Entry → Bool
is_bound k es = list_any (λ e. same_key e.key k) es

-- a session has the same ends in another mode
abbrev pub has_clash : Key → List Entry → Bool
has_clash k es = list_any (λ e. e.key.local == k.local && same_endpoint e.key.peer k.peer && not (same_mode e.key.mode k.mode)) es

-- the session that a query matches
abbrev pub session_for : Query → List Entry → Option Entry
session_for q es = find (λ e. matches q e.key) es

-- the session of a key
abbrev pub session_at : Key → List Entry → Option Entry
session_at k es = find (λ e. same_key e.key k) es

abbrev pub with_entry : Entry → List Entry → List Entry
with_entry e es = es ++ e ∷ []

-- the session of a key, changed; all else stays
abbrev pub update : Key → (Entry → Entry) → List Entry → List Entry
update k f [] = []
update k f (e ∷ es) = if same_key e.key k then f e ∷ es else e ∷ update k f es

-- all sessions but that of a key
abbrev pub without : Key → List Entry → List Entry
without k [] = []
without k (e ∷ es) = if same_key e.key k then es else e ∷ without k es

-- a session that has drawn one number more
abbrev pub raised : Entry → Entry
raised e = record { key = e.key; extra = e.extra; config = e.config; count = e.count + 1 }

-- a session with another configuration
abbrev pub configured : ConfigParts → Entry → Entry
configured c e = record { key = e.key; extra = e.extra; config = c; count = e.count }

-- ---- configurations

-- how many distinct configurations a replay accepts (this project's own)
abbrev pub config_limit : ℕ
config_limit = 1024

-- a configuration was accepted before
abbrev pub is_accepted : ConfigParts → List ConfigParts → Bool
is_accepted c cs = list_any (λ d. same_config d c) cs

-- a configuration was accepted before, or one more may be
abbrev pub may_accept : ConfigParts → List ConfigParts → Bool
may_accept c cs = is_accepted c cs || nat_lt (length cs) config_limit

abbrev pub accept : ConfigParts → List ConfigParts → List ConfigParts
accept c cs = if is_accepted c cs then cs else cs ++ c ∷ []
