-- Zeros one after the other, as a loop reads them.
use Rattle.std.proofs.Common.{◌≡◌, ℕ, suc, ◌-◌, ◌+◌, ◌≤◌, ◌<◌, ◌==◌, List, Result, Ok, Err, refl, sym, ◌∙◌, arith}
use Rattle.octet_format.specs.declared.reading.Unread.{Unread}
use Rattle.octet_format.specs.Reading.{octet_at, zeros_at}

pub zeros_on : (count i : ℕ) (rest after : List ℕ) (total : Result (Unit {0} × List ℕ) Unread) → i < count → octet_at (λ b. b == 0) rest ≡ Ok (0, after) → zeros_at (count - i) rest ≡ total → zeros_at (count - (i + 1)) after ≡ total
unfolding zeros_at
zeros_on count i rest after total lt e so_far =
    let k : count - i ≡ suc (count - (i + 1)) = omega arith in
    let one : zeros_at (count - i) rest ≡ zeros_at (count - (i + 1)) after = rw (k, e) refl in
    sym one ∙ so_far

pub zeros_end : (count i : ℕ) (rest : List ℕ) (unread : Unread) (total : Result (Unit {0} × List ℕ) Unread) → i < count → octet_at (λ b. b == 0) rest ≡ Err unread → zeros_at (count - i) rest ≡ total → total ≡ Err unread
unfolding zeros_at
zeros_end count i rest unread total lt e so_far =
    let k : count - i ≡ suc (count - (i + 1)) = omega arith in
    let one : zeros_at (count - i) rest ≡ Err unread = rw (k, e) refl in
    sym so_far ∙ one

pub zeros_done : (count i : ℕ) (rest : List ℕ) (total : Result (Unit {0} × List ℕ) Unread) → count ≤ i → zeros_at (count - i) rest ≡ total → total ≡ Ok (tt, rest)
unfolding zeros_at
zeros_done count i rest total le so_far =
    let k : count - i ≡ 0 = omega arith in
    let one : zeros_at (count - i) rest ≡ Ok (tt, rest) = rw k refl in
    sym so_far ∙ one
