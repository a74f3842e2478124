-- A reply that was written.
use Rattle.std.specs.Prelude.{◌≡◌, ℕ, List, ◌++◌, length, drop}
use Rattle.reflect_core.specs.Reflection.{Reflected}
use Rattle.reply_audit.specs.declared.kept.Written.{Written}

-- it was written to the front of a buffer, and all other octets are as before
pub record IsWritten (r : Reflected) (w : Written) (old new : List ℕ) : Type 0 where
  pub from : w.from ≡ r.from
  pub to : w.to ≡ r.to
  pub len : w.len ≡ length r.octets
  pub octets : new ≡ r.octets ++ drop w.len old
