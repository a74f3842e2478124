-- What a file that some text stands for has (this project's own).
use Rattle.std.specs.Prelude.{◌≡◌, ℕ, ◌<◌, ◌≤◌, ◌^◌, Bool, true, false, List, length, map}
use Rattle.std.specs.List.{AllPairs}
use Rattle.std.specs.List.Sorted.{IsStrictlySortedBy}
use Rattle.std.specs.Ordering.{nat_cmp}
use Rattle.std.specs.Cmp.Lexicographic.{slice_cmp}
use Rattle.refl_types.specs.declared.types.Endpoint.{Endpoint}
use Rattle.refl_types.specs.Same.{same_endpoint}
use Rattle.refl_types.specs.Keys.{is_sound}
use Rattle.session_key.specs.Matching.{excludes}
use Rattle.conf_text.specs.declared.configs.Named.{Named}
use Rattle.conf_text.specs.declared.sessions.Provided.{Provided}
use Rattle.conf_text.specs.Sessions.{lacks_key}
use Rattle.conf_text.specs.Rows.{distinct, in_use}
use Rattle.conf_text.specs.File.{File}

-- no two local addresses are the same
abbrev pub AreDistinct : List Endpoint → Type 0
AreDistinct locals = AllPairs (λ a b. same_endpoint b a ≡ false) locals

-- names ascend in byte order, so that no two are the same
abbrev pub AreAscending : List Named → Type 0
AreAscending configs = IsStrictlySortedBy (slice_cmp nat_cmp) (map (λ c. c.name) configs)

-- no session excludes an earlier one
abbrev pub AreApart : List Provided → Type 0
AreApart sessions = AllPairs (λ a b. excludes b.key a.key ≡ false) sessions

-- a session that can be opened at one of so many local addresses: its fields go together, its mode has what it wants,
-- and its wait is at most a year
pub record IsOpenable (locals : ℕ) (s : Provided) : Type 0 where
  pub local : s.key.local < locals
  pub sound : is_sound s.key s.extra ≡ true
  pub keyed : lacks_key s ≡ false
  pub wait : s.wait ≤ 31536000000000000

-- the limits of the file
pub record IsWithin (f : File) : Type 0 where
  pub workers : (1 ≤ f.workers) × (f.workers ≤ 64)
  pub slots : (1 ≤ f.slots) × (f.slots ≤ 16384)
  pub rows : (1 ≤ f.rows) × (f.rows ≤ 8191)
  pub limit : f.limit < 2 ^ 63
  pub turns : f.turns < 2 ^ 63
  pub locals : (1 ≤ length f.locals) × (length f.locals ≤ 16)
  pub configs : (1 ≤ length f.configs) × (length f.configs ≤ 256)
  pub sessions : (length f.sessions ≤ f.slots) × (length f.sessions ≤ 16384)
  pub in_use : length (distinct (in_use f.twamp f.sessions)) ≤ f.rows
