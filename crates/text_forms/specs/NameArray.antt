-- A name in an array of 16 octets: its octets, then zeros.
use Rattle.std.specs.Prelude.{◌≡◌, ℕ, ◌-◌, List, ◌++◌, length, take, replicate, true}
use Rattle.std.proofs.Common.{sym, ap, ◌∙◌}
use Rattle.text_forms.specs.Names.{is_name}
use Rattle.text_forms.specs.declared.names.Name.TheInside.{Inside}

abbrev pub name_in : Inside → List ℕ
name_in n = take n.len n.octets

abbrev pub filled : List ℕ → ℕ → List ℕ
filled s len = s ++ replicate (16 - len) 0

pub record IsKept (n : Inside) : Type 0 where
  pub filled : n.octets ≡ filled (name_in n) n.len
  pub len : length (name_in n) ≡ n.len
  pub name : is_name (name_in n) ≡ true

abbrev pub kept : List ℕ → Inside
kept s = record { octets = filled s (length s); len = length s }

-- the array is found again from the name
pub kept_again : (n : Inside) → IsKept n → kept (name_in n) ≡ n
kept_again n is =
    ap (λ (m : ℕ). let r : Inside = record { octets = filled (name_in n) m; len = m } in r) is.len
    ∙ ap (λ (o : List ℕ). let r : Inside = record { octets = o; len = n.len } in r) (sym is.filled)
