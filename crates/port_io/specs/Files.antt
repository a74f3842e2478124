-- Files by their names, and what a load says of them.
use Rattle.std.specs.Prelude.{◌≡◌, ℕ, ◌<◌, ◌≤◌, List, [], ◌∷◌, length, Option, Some, None, IfSome, option_map, ⊤, if◌then◌else◌, bytes_eq, Result, Ok, Err, Vec}
use Rattle.std.specs.declared.alloc.Global.{Global}
use Rattle.port_io.specs.declared.files.FileFault.{FileFault}
use Rattle.port_io.specs.declared.files.FileFault.TheVariants.{Failed, TooLong, Memory}
use Rattle.port_io.specs.Outside.{Rises}

-- a name and the content of the file
abbrev pub File : Type 0
File = List ℕ × List ℕ

-- the content of a name; of two files with one name, of the first
abbrev pub content : List ℕ → List File → Option (List ℕ)
content name [] = None
content name (f ∷ fs) = if bytes_eq f.0 name then Some f.1 else content name fs

-- a copy of octets, or their count where there are more than the limit
abbrev pub IsCopy : List ℕ → ℕ → Result (Vec ℕ Global) FileFault → Type 0
IsCopy octets limit (Ok v) = (v.items ≡ octets) × (length octets ≤ limit)
IsCopy octets limit (Err (TooLong n)) = (n ≡ length octets) × (limit < n)
IsCopy octets limit (Err Failed) = ⊥
IsCopy octets limit (Err Memory) = ⊤

-- the length of the content of a name
abbrev pub content_length : List ℕ → List File → Option ℕ
content_length name files = option_map length (content name files)

-- What a load of a name says, under a limit, where the files are told or not, with the counts of faults before and after:
-- all of the content; how long the content is, which is too long; that the load failed. Only a failure is counted.
abbrev pub Loads : Option (List File) → List ℕ → ℕ → ℕ → ℕ → Result (Vec ℕ Global) FileFault → Type 0
Loads files name limit old new (Ok v) = (length v.items ≤ limit) × IfSome files (λ fs. content name fs ≡ Some v.items) × (new ≡ old)
Loads files name limit old new (Err (TooLong n)) = (limit < n) × IfSome files (λ fs. content_length name fs ≡ Some n) × (new ≡ old)
Loads files name limit old new (Err Failed) = Rises old new
Loads files name limit old new (Err Memory) = new ≡ old

-- the octets of a file that is too long are more than the limit
abbrev pub IsAbove : ℕ → FileFault → Type 0
IsAbove limit (TooLong n) = limit < n
IsAbove limit Failed = ⊤
IsAbove limit Memory = ⊤
