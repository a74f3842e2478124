-- How many rows the configurations in use take: one each, by value (this project's own).
use Rattle.std.specs.Prelude.{◌≡◌, if◌then◌else◌, List, [], ◌∷◌, length, map, Option, Some, None}
use Rattle.std.specs.List.{list_any}
use Rattle.refl_types.specs.declared.config.ConfigParts.{ConfigParts}
use Rattle.refl_types.specs.Same.{same_config}
use Rattle.conf_text.specs.declared.sessions.Provided.{Provided}

-- each configuration once
unfoldable pub distinct : List ConfigParts → List ConfigParts
distinct [] = []
distinct (c ∷ cs) = if list_any (same_config c) cs then distinct cs else c ∷ distinct cs

-- the configurations of all sessions
abbrev pub session_configs : List Provided → List ConfigParts
session_configs sessions = map (λ s. s.config) sessions

-- and that of the sessions that control connections ask for
abbrev pub in_use : Option ConfigParts → List Provided → List ConfigParts
in_use None sessions = session_configs sessions
in_use (Some c) sessions = c ∷ session_configs sessions

-- a list has just these configurations, each once
pub record Keeps (kept configs : List ConfigParts) : Type 0 where
  pub count : length kept ≡ length (distinct configs)
  pub same : (c : ConfigParts) → list_any (same_config c) kept ≡ list_any (same_config c) configs
