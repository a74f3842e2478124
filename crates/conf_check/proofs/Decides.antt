-- Where nothing fails, the content alone decides how a check ends.
use Rattle.std.proofs.Common.{◌≡◌, ◌⊎◌, ℕ, inl, inr, List, Option, Some, subst, arith}
use Rattle.std.proofs.lemmas.Grind.{common_steps}
use Rattle.port_io.specs.SinkShown.{SinkShown}
use Rattle.port_io.specs.Files as port
use Rattle.conf_check.specs.Checking.{CheckEnds, content_status}
use Rattle.conf_check.specs.Decides.{ContentDecides, NothingFails}

by_ends : (fs : List port.File) (name text : List ℕ) (failed failed' : ℕ) (old new : SinkShown) (status : ℕ)
    → CheckEnds (Some fs) name failed failed' old new status → NothingFails (Some fs) name text failed failed' old new → (status ≡ content_status text) ⊎ (status ≡ 4)
by_ends fs name text failed failed' old new status (inl h) none = grind (arith, common_steps)
by_ends fs name text failed failed' old new status (inr (inl h)) none = grind (arith, common_steps)
by_ends fs name text failed failed' old new status (inr (inr (inl h))) none = inr h.0
by_ends fs name text failed failed' old new status (inr (inr (inr (inl h)))) none = grind (arith, common_steps)
by_ends fs name text failed failed' old new status (inr (inr (inr (inr h)))) none = absurd (none.writes h.2)

pub decides : ContentDecides
decides files name text failed failed' old new status ends none =
    by_ends none.fs name text failed failed' old new status
    (subst (λ (o : Option (List port.File)). CheckEnds o name failed failed' old new status) none.told ends)
    (subst (λ (o : Option (List port.File)). NothingFails o name text failed failed' old new) none.told none)
