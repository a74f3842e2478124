-- A name that is written into an array.
use Rattle.std.proofs.Common.{◌≡◌, ℕ, ◌≤◌, true, ◌&&◌, List, ◌++◌, length, take, drop, replicate, nat_le, ap, ◌∙◌, arith}
use Rattle.std.proofs.lemmas.Bool.{and_parts}
use Rattle.std.proofs.lemmas.List.{drop-replicate}
use Rattle.std.proofs.Math.Seq.{take-append_seam}
use Rattle.std.proofs.lemmas.Bool.Decides.{nat_tests}
use Rattle.std.specs.List.{list_all}
use Rattle.text_forms.specs.Names.{is_name, is_name_octet}
use Rattle.text_forms.specs.NameArray.{IsKept}

pub is_name-len : (s : List ℕ) → is_name s ≡ true → length s ≤ 16
is_name-len s is =
    let (range, letters) = and_parts (nat_le 1 (length s) && nat_le (length s) 16) (list_all is_name_octet s) is in
    let (low, high) = and_parts (nat_le 1 (length s)) (nat_le (length s) 16) range in
    grind (arith, nat_tests)

-- the octets of a name, written over the front of sixteen zeros
pub kept_written : (s front : List ℕ) → is_name s ≡ true → front ≡ s → IsKept (record { octets = front ++ drop (length s) (replicate 16 0); len = length s })
kept_written s front is same =
    let seam : take (length s) (front ++ drop (length s) (replicate 16 0)) ≡ s = rw same (take-append_seam s (drop (length s) (replicate 16 0))) in
    record {
      filled = rw (seam, same) (ap (λ (l : List ℕ). s ++ l) (drop-replicate (length s) 16 0));
      len = ap length seam;
      name = ap is_name seam ∙ is;
    }
