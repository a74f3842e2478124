-- What a load of a configuration file says (this project's own).
use Rattle.std.specs.Prelude.{◌≡◌, ℕ, ◌^◌, ◌<◌, ◌≤◌, List, length, Option, Some, IfSome, Result, Ok, Err}
use Rattle.port_io.specs.Outside.{Rises}
use Rattle.port_io.specs.Files as port
use Rattle.port_io.specs.Files.{content, content_length}
use Rattle.conf_text.specs.Faults.{Fault, fault_of}
use Rattle.conf_text.specs.File.{File, file_in}
use Rattle.conf_check.specs.declared.loading.Refusal.{Refusal}
use Rattle.conf_check.specs.declared.loading.Refusal.TheVariants.{Failed, TooLong, Faulty}

-- octets of the longest file
abbrev pub file_limit : ℕ
file_limit = 2 ^ 20

-- this text is the content of the name, where the files are told, and it isn't too long
pub record IsContent (files : Option (List port.File)) (name text : List ℕ) : Type 0 where
  pub within : length text ≤ file_limit
  pub told : IfSome files (λ fs. content name fs ≡ Some text)

-- the content of the name has more octets
abbrev pub IsTooLong : Option (List port.File) → List ℕ → Type 0
IsTooLong files name = (n : ℕ) × (file_limit < n) × IfSome files (λ fs. content_length name fs ≡ Some n)

-- the content of the name stands for this file
abbrev pub IsAccepted : Option (List port.File) → List ℕ → File → Type 0
IsAccepted files name f = (text : List ℕ) × IsContent files name text × (file_in text ≡ Ok f)

-- the content of the name has this first fault
abbrev pub IsFaulty : Option (List port.File) → List ℕ → Fault → Type 0
IsFaulty files name fault = (text : List ℕ) × IsContent files name text × (file_in text ≡ Err fault)

-- What a name gives, with the counts of failing loads before and after. Want of memory says nothing of the content.
abbrev pub LoadsConf : Option (List port.File) → List ℕ → ℕ → ℕ → Result File Refusal → Type 0
LoadsConf files name old new (Ok f) = IsAccepted files name f × (new ≡ old)
LoadsConf files name old new (Err Failed) = Rises old new
LoadsConf files name old new (Err TooLong) = IsTooLong files name × (new ≡ old)
LoadsConf files name old new (Err (Faulty fault)) = IfSome (fault_of fault) (IsFaulty files name) × (new ≡ old)
