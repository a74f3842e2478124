-- One table of the file: which keys it has, and its values (this project's own).
use Rattle.std.specs.Prelude.{ℕ, suc, pos, negsuc, Bool, ◌&&◌, if◌then◌else◌, List, [], ◌∷◌, ◌++◌, Option, Some, None, Result, Ok, Err, nat_le, bytes_eq, decimal}
use Rattle.std.specs.List.{list_any}
use Rattle.toml.specs.Data.{Data, string, integer, boolean, array, table, Items, no_items, item, Members, no_members, member, get_member}
use Rattle.conf_text.specs.Faults.{Fault, Unknown, Missing, BadValue, Limit, step, ◌>>=◌}

-- ---- keys

abbrev pub is_among : List ℕ → List (List ℕ) → Bool
is_among k keys = list_any (λ l. bytes_eq l k) keys

-- The keys of a table ascend in byte order, and so the first unknown key is the least one.
abbrev pub known_keys : List (List ℕ) → Members → Result (Unit {0}) Fault
known_keys known no_members = Ok tt
known_keys known (member k d ms) = if is_among k known then known_keys known ms else Err (Unknown k)

abbrev pub needed : {A : Type 0} → List ℕ → Option A → Result (Unit {0}) Fault
needed key None = Err (Missing key)
needed key (Some d) = Ok tt

-- ---- values, each with the path at which it stands

abbrev pub number_of : List ℕ → ℕ → ℕ → Data → Result ℕ Fault
number_of path low high (integer (pos n)) = if nat_le low n && nat_le n high then Ok n else Err (Limit path)
number_of path low high (integer (negsuc n)) = Err (Limit path)
number_of path low high _ = Err (BadValue path)

abbrev pub flag_of : List ℕ → Data → Result Bool Fault
flag_of path (boolean b) = Ok b
flag_of path _ = Err (BadValue path)

abbrev pub or_bad : {A : Type 0} → List ℕ → Option A → Result A Fault
or_bad path None = Err (BadValue path)
or_bad path (Some a) = Ok a

-- a text that stands for a value
abbrev pub text_of : {A : Type 0} → (List ℕ → Option A) → List ℕ → Data → Result A Fault
text_of read path (string s) = or_bad path (read s)
text_of read path _ = Err (BadValue path)

abbrev pub list_of : List ℕ → Data → Result Items Fault
list_of path (array ds) = Ok ds
list_of path _ = Err (BadValue path)

abbrev pub table_of : List ℕ → Data → Result Members Fault
table_of path (table ms) = Ok ms
table_of path _ = Err (BadValue path)

-- ---- keys that may be left out, and keys that must be there

abbrev pub or_default : {A : Type 0} → A → (Data → Result A Fault) → Option Data → Result A Fault
or_default default read None = Ok default
or_default default read (Some d) = read d

abbrev pub maybe : {A : Type 0} → (Data → Result A Fault) → Option Data → Result (Option A) Fault
maybe read None = Ok None
maybe read (Some d) = read d >>= (λ a. Ok (Some a))

abbrev pub required : {A : Type 0} → (Data → Result A Fault) → List ℕ → Option Data → Result A Fault
required read key None = Err (Missing key)
required read key (Some d) = read d

abbrev pub number_at : List ℕ → ℕ → ℕ → ℕ → Members → Result ℕ Fault
number_at key low high default t = or_default default (number_of key low high) (get_member key t)

abbrev pub flag_at : List ℕ → Bool → Members → Result Bool Fault
flag_at key default t = or_default default (flag_of key) (get_member key t)

-- ---- lists

abbrev pub items_len : Items → ℕ
items_len no_items = 0
items_len (item d ds) = suc (items_len ds)

abbrev pub members_len : Members → ℕ
members_len no_members = 0
members_len (member k d ms) = suc (members_len ms)

-- a count within its range
abbrev pub counted : List ℕ → ℕ → ℕ → ℕ → Result (Unit {0}) Fault
counted path low high n = if nat_le low n && nat_le n high then Ok tt else Err (Limit path)

-- the places of a list in order, from place i on, each read beside what was found before it
unfoldable pub places : {S : Type 0} → (S → List ℕ → Data → Result S Fault) → List ℕ → ℕ → S → Items → Result S Fault
places read key i found no_items = Ok found
places read key i found (item d ds) = read found (step key (decimal i)) d >>= (λ more. places read key (suc i) more ds)
