-- One more session.
use Rattle.std.proofs.Common.{◌≡◌, ℕ, Bool, true, false, ◌||◌, List, [], ◌∷◌, ◌++◌, Result, Ok, Err, Option, Some, None, IfSome, if◌then◌else◌, refl, ap, ◌∙◌}
use Rattle.toml.specs.Data.{Data}
use Rattle.conf_text.specs.declared.configs.Named.{Named}
use Rattle.conf_text.specs.declared.sessions.Provided.{Provided}
use Rattle.conf_text.specs.Faults.{Fault, BadValue, ◌>>=◌}
use Rattle.conf_text.specs.Sessions.{values_at, is_refused, is_excluded, session_of}

module _ (locals : ℕ) (configs : List Named) (earlier : List Provided) (path : List ℕ) (d : Data) where
  judged : Provided → Result (List Provided) Fault
  judged s = if is_refused s earlier then Err (BadValue path) else Ok (earlier ++ s ∷ [])

  judge : Bool → Provided → Result (List Provided) Fault
  judge b s = if b then Err (BadValue path) else Ok (earlier ++ s ∷ [])

  pub session-read : (s : Provided) → values_at locals configs path d ≡ Ok s → is_refused s earlier ≡ false → session_of locals configs earlier path d ≡ Ok (earlier ++ s ∷ [])
  unfolding session_of judged judge
  session-read s is fine = ap (λ r. r >>= judged) is ∙ ap (λ b. judge b s) fine

  pub session-refused : (s : Provided) → values_at locals configs path d ≡ Ok s → is_refused s earlier ≡ true → session_of locals configs earlier path d ≡ Err (BadValue path)
  unfolding session_of judged judge
  session-refused s is bad = ap (λ r. r >>= judged) is ∙ ap (λ b. judge b s) bad

  pub session-stopped : (o : Option Fault) → IfSome o (λ f. values_at locals configs path d ≡ Err f) → IfSome o (λ f. session_of locals configs earlier path d ≡ Err f)
  unfolding session_of judged
  session-stopped None is = tt
  session-stopped (Some f) is = ap (λ r. r >>= judged) is

or_false : (a b : Bool) → (a || b) ≡ false → b ≡ false
or_false true b e = absurd cc
or_false false b e = e

-- a session that isn't refused goes beside the earlier ones
pub not-refused : (s : Provided) (earlier : List Provided) → is_refused s earlier ≡ false → is_excluded s earlier ≡ false
not-refused s earlier fine = or_false _ _ fine
