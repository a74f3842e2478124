-- Which keys are taken by the sessions read so far, told by two tables: the modes of their ends, and their keys but for
-- the mode, both by words of keys.
use Rattle.std.specs.Prelude.{◌≡◌, ℕ, Bool, false, ◌||◌, not, List, map, Option, Some, None}
use Rattle.std.specs.Ordering.{nat_cmp}
use Rattle.std.specs.Cmp.Lexicographic.{slice_cmp}
use Rattle.std.specs.List.{list_any}
use Rattle.std.specs.BTreeMap.{get}
use Rattle.std.specs.BTreeSet.{contains}
use Rattle.refl_types.specs.declared.types.Mode.{Mode}
use Rattle.refl_types.specs.declared.types.Mode.TheVariants.{Plain}
use Rattle.refl_types.specs.declared.types.Key.{Key}
use Rattle.refl_types.specs.declared.types.Extra.{Extra}
use Rattle.refl_types.specs.Same.{same_mode}
use Rattle.refl_types.specs.Spelling.{FitsKey}
use Rattle.session_key.specs.Words.{key_words}
use Rattle.session_key.specs.Matching.{excludes}
use Rattle.conf_text.specs.declared.taken.Taken.{Taken}
use Rattle.conf_text.specs.declared.sessions.Provided.{Provided}

abbrev pub no_extra : Extra
no_extra = record { symmetrical = false; reflect = 0 }

-- a key but for its mode
abbrev pub plain_words : Key → List ℕ
plain_words k = key_words (record { local = k.local; peer = k.peer; mode = Plain; ssid = k.ssid }) no_extra

-- the two ends of a key
abbrev pub ends_words : Key → List ℕ
ends_words k = key_words (record { local = k.local; peer = k.peer; mode = Plain; ssid = 0 }) no_extra

abbrev pub is_other : Mode → Option Mode → Bool
is_other m None = false
is_other m (Some n) = not (same_mode m n)

unfoldable pub is_taken : Taken → Key → Bool
is_taken t k = contains (slice_cmp nat_cmp) t.keys (plain_words k) || is_other k.mode (get (slice_cmp nat_cmp) t.modes (ends_words k))

-- the tables are those of these sessions
unfoldable pub TakenBy : Taken → List Provided → Type 0
TakenBy t sessions = (k : Key) → FitsKey k → is_taken t k ≡ list_any (λ s. excludes k s.key) sessions
