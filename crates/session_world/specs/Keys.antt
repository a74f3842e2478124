-- Queries, keys, extras and configurations, and how the words of a slot and of a row stand for them (RFC 8972, section 3).
-- A list of words is given as a function of an index that is counted from 1.
use Rattle.std.specs.Prelude.{ℕ, ◌+◌, ◌-◌, ◌==◌, Bool, true, false, ◌&&◌, if◌then◌else◌, nat_le, List, [], ◌∷◌, Option, Some, None}
pub use Rattle.refl_types.specs.declared.types.Key.{Key}
pub use Rattle.refl_types.specs.declared.types.Extra.{Extra}
pub use Rattle.refl_types.specs.declared.config.ConfigParts.{ConfigParts}
use Rattle.refl_types.specs.declared.types.Mode.{Mode}
use Rattle.refl_types.specs.declared.types.Mode.TheVariants.{Plain, Auth, Twamp}
use Rattle.refl_types.specs.declared.types.Endpoint.{Endpoint}
use Rattle.refl_types.specs.Same.{same_endpoint}
pub use Rattle.session_key.specs.declared.matching.Query.{Query}
use Rattle.session_key.specs.Words.{key_of_words, extra_of_words, AreKeyWords}
use Rattle.session_key.specs.Placing.{place_of}
use Rattle.config_rows.specs.Words.{config_of_words, AreConfigWords}

-- the function f, but t at q
abbrev pub put : {A : Type 0} → (ℕ → A) → ℕ → A → ℕ → A
put f q t j = if j == q then t else f j

-- the four key words of a slot
abbrev pub key_list : (ℕ → ℕ) → List ℕ
key_list word = word 1 ∷ word 2 ∷ word 3 ∷ word 4 ∷ []

-- the key and the extra for which they stand
unfoldable pub key_of : (ℕ → ℕ) → Key
key_of word = key_of_words (key_list word)

unfoldable pub extra_of : (ℕ → ℕ) → Extra
extra_of word = extra_of_words (key_list word)

-- they are the words of a sound key and extra
unfoldable pub IsKey : (ℕ → ℕ) → Type 0
IsKey word = AreKeyWords (key_list word)

-- the twelve words of a row
abbrev pub row_list : (ℕ → ℕ) → List ℕ
row_list word = word 1 ∷ word 2 ∷ word 3 ∷ word 4 ∷ word 5 ∷ word 6 ∷ word 7 ∷ word 8 ∷ word 9 ∷ word 10 ∷ word 11 ∷ word 12 ∷ []

-- the configuration for which they stand
unfoldable pub config_of : (ℕ → ℕ) → ConfigParts
config_of word = config_of_words (row_list word)

-- they are the words of a configuration
unfoldable pub IsConfigRow : (ℕ → ℕ) → Type 0
IsConfigRow word = AreConfigWords (row_list word)

-- sessions of mode Auth are authenticated (RFC 8762, section 4.2.2)
abbrev pub is_auth_mode : Mode → Bool
is_auth_mode Plain = false
is_auth_mode Auth = true
is_auth_mode Twamp = false

abbrev pub is_auth : Key → Bool
is_auth k = is_auth_mode k.mode

abbrev pub is_some : {A : Type 0} → Option A → Bool
is_some None = false
is_some (Some x) = true

-- the configuration has an HMAC key
abbrev pub has_key : ConfigParts → Bool
has_key c = is_some c.key

abbrev pub same_number : Option ℕ → Option ℕ → Bool
same_number None None = true
same_number None (Some n) = false
same_number (Some m) None = false
same_number (Some m) (Some n) = m == n

unfoldable pub same_query : Query → Query → Bool
same_query p q = (p.local == q.local) && same_endpoint p.peer q.peer && same_number p.plain q.plain && same_number p.auth q.auth

-- the slot at which the walks for a local address and a peer start
unfoldable pub start_of : ℕ → ℕ → Endpoint → ℕ
start_of slots local peer = place_of local peer slots

-- the slot after i, past the last the slot 0
unfoldable pub next_slot : ℕ → ℕ → ℕ
next_slot slots i = if i + 1 == slots then 0 else i + 1

-- how many slots further than `from` the slot i is, past the last to slot 0
unfoldable pub distance : ℕ → ℕ → ℕ → ℕ
distance slots from i = if nat_le from i then i - from else i + slots - from
