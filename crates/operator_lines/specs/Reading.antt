-- A line is read word by word. `law_lines` ties the reader to the spelling of `Lines`.
use Rattle.std.specs.Prelude.{ℕ, ◌==◌, if◌then◌else◌, List, length, Option, Some, None, Result, Ok, Err, bytes_eq, codes}
use Rattle.hex.specs.declared.error.FromHexError.{FromHexError}
use Rattle.hex.specs.Hex.{decode_sized}
use Rattle.refl_types.specs.declared.types.Mode.{Mode}
use Rattle.refl_types.specs.declared.types.Mode.TheVariants.{Plain, Auth, Twamp}
use Rattle.refl_types.specs.declared.types.Key.{Key}
use Rattle.refl_types.specs.Keys.{is_sound}
use Rattle.text_forms.specs.Steps.{◌>>=◌}
use Rattle.text_forms.specs.Numbers.{number_from}
use Rattle.text_forms.specs.Names.{name_from}
use Rattle.text_forms.specs.Endpoints.{cut, endpoint_from}
use Rattle.operator_lines.specs.declared.line.Line.{Line}
use Rattle.operator_lines.specs.declared.line.Line.TheVariants as lines
use Rattle.operator_lines.specs.Lines.{no_extra, longest_wait, nanoseconds}

abbrev pub space : ℕ
space = 32

abbrev pub line_end : ℕ
line_end = 10

abbrev pub mode_from : List ℕ → Option Mode
mode_from s =
    if bytes_eq s (codes "plain") then Some Plain
    else if bytes_eq s (codes "auth") then Some Auth
    else if bytes_eq s (codes "twamp") then Some Twamp
    else None

-- LOCAL PEER MODE and a space, of a key whose SSID is told behind them
unfoldable pub ends_at : List ℕ → Option (Key × List ℕ)
ends_at s = do
  a ← cut space s
  b ← cut space a.1
  c ← cut space b.1
  local ← number_from 0 65535 a.0
  peer ← endpoint_from b.0
  mode ← mode_from c.0
  Some (record { local = local; peer = peer; mode = mode; ssid = 0 }, c.1)

-- its SSID is the last word of a session
unfoldable pub with_ssid : Key → List ℕ → Option Key
with_ssid k s = number_from 0 65535 s >>= λ ssid. (let whole : Key = record k { ssid = ssid } in if is_sound whole no_extra then Some whole else None)

-- a session, and nothing behind it
unfoldable pub key_from : List ℕ → Option Key
key_from s = ends_at s >>= λ e. with_ssid e.0 e.1

-- a session, and what stands behind the space after it
unfoldable pub key_at : List ℕ → Option (Key × List ℕ)
key_at s = do
  e ← ends_at s
  d ← cut space e.1
  k ← with_ssid e.0 d.0
  Some (k, d.1)

abbrev pub decoded : Result (List ℕ) FromHexError → Option (List ℕ)
decoded (Ok octets) = Some octets
decoded (Err e) = None

-- 152 digits for 76 octets
abbrev pub octets_from : List ℕ → Option (List ℕ)
octets_from s = decoded (decode_sized s 76)

unfoldable pub config_from : List ℕ → Option Line
config_from s = do
  p ← cut space s
  name ← name_from p.0
  octets ← octets_from p.1
  Some (lines.Config name octets)

unfoldable pub open_from : List ℕ → Option Line
open_from s = do
  k ← key_at s
  p ← cut space k.1
  name ← name_from p.0
  seconds ← number_from 0 longest_wait p.1
  Some (lines.Open k.0 name (nanoseconds seconds))

unfoldable pub set_from : List ℕ → Option Line
set_from s = do
  k ← key_at s
  name ← name_from k.1
  Some (lines.Set k.0 name)

unfoldable pub close_from : List ℕ → Option Line
close_from s = key_from s >>= λ k. Some (lines.Close k)

unfoldable pub count_from : List ℕ → Option Line
count_from s = key_from s >>= λ k. Some (lines.Count k)

-- what stands behind the first word of a line of more than one
unfoldable pub asked : List ℕ → List ℕ → Option Line
asked word s =
    if bytes_eq word (codes "config") then config_from s
    else if bytes_eq word (codes "open") then open_from s
    else if bytes_eq word (codes "set") then set_from s
    else if bytes_eq word (codes "close") then close_from s
    else if bytes_eq word (codes "count") then count_from s
    else None

-- a line without its end
unfoldable pub words_from : List ℕ → Option Line
words_from s =
    if bytes_eq s (codes "list") then Some lines.List
    else if bytes_eq s (codes "quit") then Some lines.Quit
    else cut space s >>= λ p. asked p.0 p.1

-- what stands before the end of a line, where nothing stands behind it
abbrev pub body_of : List ℕ → Option (List ℕ)
body_of s = cut line_end s >>= λ p. if length p.1 == 0 then Some p.0 else None

-- the line that a text is, with its end
unfoldable pub line_from : List ℕ → Option Line
line_from s = body_of s >>= words_from
