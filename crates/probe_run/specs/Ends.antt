-- When a measurement ends, by its turns (this project's own).
use Rattle.std.specs.Prelude.{ℕ, ◌+◌, ◌==◌, Bool, true, false, if◌then◌else◌, List, [], ◌∷◌, length, Option, Some, None}
use Rattle.probe_run.specs.declared.progress.ProbeEnd.{ProbeEnd}
use Rattle.probe_run.specs.declared.progress.ProbeEnd.TheVariants.{End, PortFault, Budget}
use Rattle.probe_run.specs.Turns.{Turn, Incoming, idle, over, failed, reply, foreign}

-- failures in a row that end a measurement
abbrev pub fault_limit : ℕ
fault_limit = 64

-- the most calls of `recv`
abbrev pub call_limit : ℕ
call_limit = 10000000

abbrev pub is_over : Incoming → Bool
is_over idle = false
is_over over = true
is_over failed = false
is_over (reply meta octets) = false
is_over (foreign meta octets) = false

abbrev pub is_failed : Incoming → Bool
is_failed idle = false
is_failed over = false
is_failed failed = true
is_failed (reply meta octets) = false
is_failed (foreign meta octets) = false

-- after so many failures in a row, how many of the last calls of `recv` failed in a row
abbrev pub failed_row : ℕ → List Turn → ℕ
failed_row n [] = n
failed_row n (t ∷ ts) = failed_row (if is_failed t.incoming then n + 1 else 0) ts

abbrev pub foreign_in : Incoming → ℕ
foreign_in idle = 0
foreign_in over = 0
foreign_in failed = 0
foreign_in (reply meta octets) = 0
foreign_in (foreign meta octets) = 1

-- how many datagrams of others came
abbrev pub foreigns : List Turn → ℕ
foreigns [] = 0
foreigns (t ∷ ts) = foreign_in t.incoming + foreigns ts

-- the first of these three
abbrev pub end_by : Bool → (row calls : ℕ) → Option ProbeEnd
end_by ended row calls =
    if ended then Some End
    else (if row == fault_limit then Some PortFault
    else (if calls == call_limit then Some Budget
    else None))

-- the end that is due after these turns, of which the last gave this
abbrev pub end_due : List Turn → Incoming → Option ProbeEnd
end_due turns incoming = end_by (is_over incoming) (failed_row 0 turns) (length turns)
