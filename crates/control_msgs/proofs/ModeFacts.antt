-- What passes the test of a mode.
use Rattle.std.proofs.Common.{◌≡◌, ℕ, ◌%◌, ◌^◌, ◌<◌, Bool, true, false, ◌&&◌, refl, sym, ap, ◌∙◌, eqb}
use Rattle.std.specs.Prelude.{bit_and}
use Rattle.std.specs.Int.{bit_at}
use Rattle.std.proofs.lemmas.Bool.{ne_eqb}
use Rattle.std.proofs.lemmas.Nat.Bits.{bit_at_lowest}
use Rattle.refl_types.proofs.BitFacts.{all_pass, mask_test}
use Rattle.control_msgs.specs.Modes.{is_offered, is_open_mode}

-- all of the 32 bits but 0, 5 and 6
abbrev others : ℕ
others = 4294967198

pub open_odd : (n : ℕ) → n < 2 ^ 32 → n % 2 ≡ 1 → eqb (bit_and n others) 0 ≡ is_open_mode n
unfolding is_open_mode
open_odd n lt odd =
    let e : eqb (bit_at n 0) 1 ≡ true = ap (λ (b : ℕ). eqb b 1) (bit_at_lowest n ∙ odd) in
    mask_test others is_offered refl n lt ∙ ap (λ (b : Bool). b && all_pass is_offered n) (sym e)

pub open_even : (n : ℕ) → (n % 2 ≡ 1 → ⊥) → eqb (n % 2) 1 ≡ is_open_mode n
unfolding is_open_mode
open_even n other =
    let e : eqb (bit_at n 0) 1 ≡ false = ap (λ (b : ℕ). eqb b 1) (bit_at_lowest n) ∙ ne_eqb (n % 2) 1 other in
    ne_eqb (n % 2) 1 other ∙ ap (λ (b : Bool). b && all_pass is_offered n) (sym e)
