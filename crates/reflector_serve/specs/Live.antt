-- Which keys a history leaves bound (this project's own).
use Rattle.std.specs.Prelude.{◌≡◌, Bool, false, List, [], ◌∷◌}
use Rattle.std.specs.List.{list_any}
use Rattle.refl_types.specs.declared.types.Key.{Key}
use Rattle.refl_types.specs.Same.{same_key}
use Rattle.session_world.specs.Keys.{ConfigParts, is_some}
use Rattle.session_world.specs.History.{Event, map_after}

abbrev pub is_among : Key → List Key → Bool
is_among k ks = list_any (λ j. same_key j k) ks

-- each key stands in the list once
abbrev pub KeysAreOnce : List Key → Type 0
KeysAreOnce [] = Unit {0}
KeysAreOnce (k ∷ ks) = (is_among k ks ≡ false) × KeysAreOnce ks

-- the keys that are bound in the table that the history leaves are just these
pub record AreBound (h : List (Event ConfigParts)) (ks : List Key) : Type 0 where
  pub once : KeysAreOnce ks
  pub bound : (k : Key) → is_some (map_after h k) ≡ is_among k ks
