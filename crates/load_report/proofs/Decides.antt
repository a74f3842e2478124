-- Where no write fails, a load is told.
use Rattle.std.proofs.Common.{inl, inr}
use Rattle.load_report.specs.Decides.{LoadDecides}

pub load_decides : LoadDecides
load_decides seed count old new status (inl h) writes = inl h.0
load_decides seed count old new status (inr (inl h)) writes = inr h.0
load_decides seed count old new status (inr (inr h)) writes = absurd (writes h.2)
