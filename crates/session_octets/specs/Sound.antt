-- Which keys and extras have a spelling.
use Rattle.std.specs.Prelude.{◌≡◌, ◌<◌, ◌^◌, false}
use Rattle.refl_types.specs.declared.types.Mode.{Mode}
use Rattle.refl_types.specs.declared.types.Mode.TheVariants.{Plain, Auth, Twamp}
use Rattle.refl_types.specs.declared.types.Key.{Key}
use Rattle.refl_types.specs.declared.types.Extra.{Extra}
use Rattle.refl_types.specs.Spelling.{FitsKey}

-- a key whose SSID its mode allows
pub record FitsInMode (k : Key) : Type 0 where
  pub fits : FitsKey k
  pub sound : k.mode ≡ Twamp → k.ssid ≡ 0

abbrev pub HasNoExtra : Mode → Extra → Type 0
HasNoExtra Twamp x = Unit {0}
HasNoExtra Plain x = (x.symmetrical ≡ false) × (x.reflect ≡ 0)
HasNoExtra Auth x = (x.symmetrical ≡ false) × (x.reflect ≡ 0)

-- an extra of a mode
abbrev pub FitsExtra : Mode → Extra → Type 0
FitsExtra m x = HasNoExtra m x × (x.reflect < 2 ^ 16)
