-- The steps of the generator of the toolchain's crate are those of the definition.
use Rattle.std.proofs.Common.{◌≡◌, ℕ, zero, suc, ◌*◌, ◌^◌, refl, ap, ◌∙◌}
use Rattle.std.proofs.Math.Nat.{mod-add-mod}
use Rattle.rand_pcg.specs.Lcg.{state_after}
use Rattle.rand_pcg.specs.Lcg as lcg
use Rattle.load_gen.specs.Generator.{next_state, state}

abbrev pub factor : ℕ
factor = 6364136223846793005

abbrev pub summand : ℕ
summand = 1442695040888963407

one_step : (x : ℕ) → lcg.next_state 64 factor summand x ≡ next_state x
one_step x = mod-add-mod (x * factor) (2 ^ 64) summand

-- a first step before n others is a last step behind them
step_first : (n x : ℕ) → state (next_state x) n ≡ next_state (state x n)
unfolding state
step_first zero x = refl
step_first (suc n) x = ap next_state (step_first n x)

pub same_state : (n x : ℕ) → state_after 64 factor summand n x ≡ state x n
unfolding state state_after
same_state zero x = refl
same_state (suc n) x = same_state n (lcg.next_state 64 factor summand x) ∙ ap (λ (y : ℕ). state y n) (one_step x) ∙ step_first n x
