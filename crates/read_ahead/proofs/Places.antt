-- The places of a buffer.
use Rattle.std.proofs.Common.{◌≡◌, ℕ, ◌+◌, ◌-◌, ◌≤◌, List, ◌++◌, length, take, drop, sym, ap, ◌∙◌, arith}
use Rattle.std.proofs.lemmas.List.{drop-take, drop-drop, length-take}
use Rattle.read_ahead.specs.Buffers.{between}

pub between_advance : (items : List ℕ) (from to n : ℕ) → n ≤ length (between items from to) → between items (from + n) to ≡ drop n (between items from to)
between_advance items from to n fits =
    let m = to - from - n in
    let enough : n ≤ to - from = omega (arith, length-take (to - from) (drop from items)) in
    let a : to - from ≡ n + (to - (from + n)) = omega arith in
    let e : drop n (between items from to) ≡ drop n (take (n + (to - (from + n))) (drop from items)) = ap (λ (k : ℕ). drop n (take k (drop from items))) a in
    sym (e ∙ drop-take n (to - (from + n)) (drop from items) ∙ ap (take (to - (from + n))) (drop-drop n from items))

pub between_more : (old new : List ℕ) (from to n : ℕ) (bytes : List ℕ) → from ≡ 0 → take (to + n) new ≡ take to old ++ bytes → between new from (to + n) ≡ between old from to ++ bytes
between_more old new from to n bytes zero e =
    let a : to + n - from ≡ to + n = omega arith in
    let b : to - from ≡ to = omega arith in
    rw (a, b, zero) e

pub between_same : (old new : List ℕ) (from to : ℕ) → from ≡ 0 → take to new ≡ take to old → between new from to ≡ between old from to
between_same old new from to zero e =
    let b : to - from ≡ to = omega arith in
    rw (b, zero) e
