-- What is told to whoever started the program (this project's own).
use Rattle.std.specs.Prelude.{◌≡◌, ◌⊎◌, ℕ, List, IsSomeAnd}
use Rattle.std.specs.Io.KnownBytes.{Appends, Keeps}
use Rattle.port_io.specs.Outside.{Rises, AppendsPart}
use Rattle.port_io.specs.SinkShown.{SinkShown}
use Rattle.conf_text.specs.Faults.{fault_of}
use Rattle.conf_check.specs.declared.loading.Refusal.{Refusal}
use Rattle.conf_check.specs.declared.loading.Refusal.TheVariants.{Failed, TooLong, Faulty}
use Rattle.conf_check.specs.Lines.{fault_line, failed_line, too_long_line}

-- the line was written and no write failed, or a front of it, and not all, where a write failed
abbrev pub WritesLine : List ℕ → SinkShown → SinkShown → Type 0
WritesLine line old new = (Appends old.written new.written line × (new.faults ≡ old.faults)) ⊎ (AppendsPart old.written new.written line × Rises old.faults new.faults)

-- nothing was written
abbrev pub WritesNothing : SinkShown → SinkShown → Type 0
WritesNothing old new = Keeps old.written new.written × (new.faults ≡ old.faults)

-- The status and the line of a file that isn't taken: 5 where it wasn't loaded, 3 for a fault of its text, and 4 for want of
-- memory, with no line.
abbrev pub WritesRefusal : Refusal → ℕ → SinkShown → SinkShown → Type 0
WritesRefusal Failed status old new = (status ≡ 5) × WritesLine failed_line old new
WritesRefusal TooLong status old new = (status ≡ 5) × WritesLine too_long_line old new
WritesRefusal (Faulty fault) status old new =
    ((status ≡ 3) × IsSomeAnd (fault_of fault) (λ f. WritesLine (fault_line f) old new))
    ⊎ ((status ≡ 4) × WritesNothing old new)
