-- Which keys and extras a session may have (RFC 8972, section 3; RFC 6038).
use Rattle.std.specs.Prelude.{ℕ, Bool, ◌&&◌, not, ◌==◌}
use Rattle.refl_types.specs.declared.types.Mode.{Mode}
use Rattle.refl_types.specs.declared.types.Mode.TheVariants.{Plain, Auth, Twamp}
use Rattle.refl_types.specs.declared.types.Key.{Key}
use Rattle.refl_types.specs.declared.types.Extra.{Extra}

abbrev pub has_no_extra : Extra → Bool
has_no_extra x = not x.symmetrical && x.reflect == 0

-- mode Twamp has SSID 0, and no other mode has an extra
abbrev pub is_sound_in : Mode → ℕ → Extra → Bool
is_sound_in Twamp ssid x = ssid == 0
is_sound_in Plain ssid x = has_no_extra x
is_sound_in Auth ssid x = has_no_extra x

abbrev pub is_sound : Key → Extra → Bool
is_sound k x = is_sound_in k.mode k.ssid x
