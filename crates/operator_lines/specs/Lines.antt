-- The lines of an operator (this project's own): how each is spelled.
use Rattle.std.specs.Prelude.{◌≡◌, ℕ, ◌*◌, ◌≤◌, ◌<◌, ◌^◌, true, false, List, ◌++◌, codes, decimal, Ok}
use Rattle.hex.specs.Hex.{decode_sized}
use Rattle.refl_types.specs.declared.types.Mode.{Mode}
use Rattle.refl_types.specs.declared.types.Mode.TheVariants.{Plain, Auth, Twamp}
use Rattle.refl_types.specs.declared.types.Key.{Key}
use Rattle.refl_types.specs.declared.types.Extra.{Extra}
use Rattle.refl_types.specs.Keys.{is_sound}
use Rattle.text_forms.specs.Names.{is_name}
use Rattle.text_forms.specs.Endpoints.{endpoint_text, HasText}
use Rattle.operator_lines.specs.declared.line.Line.{Line}
use Rattle.operator_lines.specs.declared.line.Line.TheVariants as lines

abbrev pub mode_text : Mode → List ℕ
mode_text Plain = codes "plain"
mode_text Auth = codes "auth"
mode_text Twamp = codes "twamp"

-- a session: LOCAL PEER MODE SSID
abbrev pub key_text : Key → List ℕ
key_text k = decimal k.local ++ codes " " ++ endpoint_text k.peer ++ codes " " ++ mode_text k.mode ++ codes " " ++ decimal k.ssid

-- a session that a line names has nothing agreed on besides
abbrev pub no_extra : Extra
no_extra = record { symmetrical = false; reflect = 0 }

-- the longest wait that a line may name, in seconds: 365 days
abbrev pub longest_wait : ℕ
longest_wait = 31536000

-- a line has seconds, the session nanoseconds
abbrev pub nanoseconds : ℕ → ℕ
nanoseconds seconds = seconds * 1000000000

-- the keys that a line can name
pub record IsNamable (k : Key) : Type 0 where
  pub local : k.local < 2 ^ 16
  pub peer : HasText k.peer
  pub ssid : k.ssid < 2 ^ 16
  pub sound : is_sound k no_extra ≡ true

abbrev pub IsName : List ℕ → Type 0
IsName s = is_name s ≡ true

-- the digits spell the octets, in upper or lower case
abbrev pub Spells : List ℕ → List ℕ → Type 0
Spells digits octets = decode_sized digits 76 ≡ Ok octets

-- the words of a line, with single spaces between them
abbrev pub AreWords : List ℕ → Line → Type 0
AreWords s (lines.Config name octets) = (digits : List ℕ) × IsName name × Spells digits octets × (s ≡ codes "config " ++ name ++ codes " " ++ digits)
AreWords s (lines.Open k name wait) =
    (seconds : ℕ) × (seconds ≤ longest_wait) × (wait ≡ nanoseconds seconds) × IsNamable k × IsName name
    × (s ≡ codes "open " ++ key_text k ++ codes " " ++ name ++ codes " " ++ decimal seconds)
AreWords s (lines.Set k name) = IsNamable k × IsName name × (s ≡ codes "set " ++ key_text k ++ codes " " ++ name)
AreWords s (lines.Close k) = IsNamable k × (s ≡ codes "close " ++ key_text k)
AreWords s (lines.Count k) = IsNamable k × (s ≡ codes "count " ++ key_text k)
AreWords s lines.List = s ≡ codes "list"
AreWords s lines.Quit = s ≡ codes "quit"

-- the line that asks for a session of a key, which need not be one that a line can name
abbrev pub open_text : Key → List ℕ → ℕ → List ℕ
open_text k name seconds = codes "open " ++ key_text k ++ codes " " ++ name ++ codes " " ++ decimal seconds ++ codes "\n"

-- the text is this line, with its end
abbrev pub IsLine : List ℕ → Line → Type 0
IsLine s line = (words : List ℕ) × AreWords words line × (s ≡ words ++ codes "\n")

-- the longest line with its end, in octets
abbrev pub line_limit : ℕ
line_limit = 512
