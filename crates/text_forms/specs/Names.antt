-- Names of configurations (this project's own): 1 to 16 of the letters `a` to `z`, the digits, `_` and `-`.
use Rattle.std.specs.Prelude.{ℕ, ◌&&◌, ◌||◌, ◌==◌, Bool, if◌then◌else◌, List, length, Option, Some, None, nat_le}
use Rattle.std.specs.List.{list_all}

abbrev pub is_name_octet : ℕ → Bool
is_name_octet c = (nat_le 97 c && nat_le c 122) || (nat_le 48 c && nat_le c 57) || c == 95 || c == 45

abbrev pub is_name : List ℕ → Bool
is_name s = nat_le 1 (length s) && nat_le (length s) 16 && list_all is_name_octet s

-- the name with these octets
abbrev pub name_from : List ℕ → Option (List ℕ)
name_from s = if is_name s then Some s else None
