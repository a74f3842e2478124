-- What is told of a load (this project's own).
use Rattle.std.specs.Prelude.{ℕ, ◌≡◌, ◌⊎◌, List, [], ◌∷◌, ◌++◌, codes, decimal}
use Rattle.std.specs.Io.KnownBytes.{Appends, Keeps}
use Rattle.port_io.specs.Outside.{Rises, AppendsPart}
use Rattle.port_io.specs.SinkShown.{SinkShown}
use Rattle.load_report.specs.declared.counting.Counts.{Counts}
use Rattle.load_report.specs.Counting.{counts_of}

-- the most datagrams
abbrev pub count_limit : ℕ
count_limit = 1000000

-- behind a text, a line of a word and a number
abbrev pub with_line : List ℕ → List ℕ → ℕ → List ℕ
with_line text word number = text ++ word ++ decimal number ++ 10 ∷ []

-- four lines
unfoldable pub lines_of : ℕ → Counts → List ℕ
lines_of count c =
    let datagrams = with_line [] (codes "datagrams ") count in
    let sent = with_line datagrams (codes "sent ") c.sent in
    let no_session = with_line sent (codes "nosession ") c.no_session in
    with_line no_session (codes "octets ") c.octets

-- the lines of the load of a seed with so many datagrams
unfoldable pub report : ℕ → ℕ → List ℕ
report seed count = lines_of count (counts_of seed count)

-- The lines of a load were written, with this status: 0 with all of them, 4 with nothing, for want of memory, and 8 with a
-- part of them, from the front on and not all, since a write failed.
abbrev pub Generated : ℕ → ℕ → SinkShown → SinkShown → ℕ → Type 0
Generated seed count old new status =
    ((status ≡ 0) × Appends old.written new.written (report seed count) × (new.faults ≡ old.faults))
    ⊎ ((status ≡ 4) × Keeps old.written new.written × (new.faults ≡ old.faults))
    ⊎ ((status ≡ 8) × AppendsPart old.written new.written (report seed count) × Rises old.faults new.faults)
