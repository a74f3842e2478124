-- How a run is told to have ended, by its report: the status and the line (this project's own).
use Rattle.std.specs.Prelude.{◌≡◌, ℕ, Bool, true, false, if◌then◌else◌, List, codes, ◌++◌}
use Rattle.std.specs.List.{list_any}
use Rattle.port_io.specs.SinkShown.{SinkShown}
use Rattle.conf_check.specs.Lines.{line_end}
use Rattle.conf_check.specs.Writing.{WritesLine, WritesNothing}
use Rattle.receive_worker.specs.declared.tally.WorkEnd.{WorkEnd}
use Rattle.receive_worker.specs.declared.tally.WorkEnd.TheVariants as work
use Rattle.control_desk.specs.declared.counts.DeskEnd.{DeskEnd}
use Rattle.control_desk.specs.declared.counts.DeskEnd.TheVariants as desk
use Rattle.reflector_serve.specs.declared.report.Report.{Report}
use Rattle.report_text.specs.Report as text
use Rattle.file_service.specs.declared.ends.RunEnd.{RunEnd}
use Rattle.file_service.specs.declared.ends.RunEnd.TheVariants.{Done, PortFailed, DeskFailed, BudgetSpent}

-- the worker's port failed 64 times in a row
abbrev pub is_port_fault : WorkEnd → Bool
is_port_fault work.End = false
is_port_fault work.Limit = false
is_port_fault work.Budget = false
is_port_fault work.PortFault = true

-- the worker made as many calls as it may
abbrev pub is_spent : WorkEnd → Bool
is_spent work.End = false
is_spent work.Limit = false
is_spent work.Budget = true
is_spent work.PortFault = false

-- of faults and spent budgets the first in this order is told: the desk's fault, a port's, a budget
abbrev pub end_by : DeskEnd → Bool → Bool → RunEnd
end_by desk.Fault failed spent = DeskFailed
end_by desk.Budget failed spent = if failed then PortFailed else BudgetSpent
end_by desk.End failed spent = if failed then PortFailed else if spent then BudgetSpent else Done
end_by desk.Quit failed spent = if failed then PortFailed else if spent then BudgetSpent else Done

abbrev pub run_end : Report → RunEnd
run_end r = end_by r.desk.end (list_any (λ t. is_port_fault t.end) r.workers.items) (list_any (λ t. is_spent t.end) r.workers.items)

abbrev pub report_text : Report → List ℕ
report_text r = text.report_text r.workers.items r.desk r.live

abbrev pub port_line : List ℕ
port_line = codes "stampd: port failed" ++ line_end

abbrev pub desk_line : List ℕ
desk_line = codes "stampd: desk failed" ++ line_end

abbrev pub budget_line : List ℕ
budget_line = codes "stampd: budget spent" ++ line_end

-- the status of an end, and its line; where the line can't be written, the rest of it is dropped and the status stays
abbrev pub TellsEnd : RunEnd → ℕ → SinkShown → SinkShown → Type 0
TellsEnd Done status old new = (status ≡ 0) × WritesNothing old new
TellsEnd PortFailed status old new = (status ≡ 9) × WritesLine port_line old new
TellsEnd DeskFailed status old new = (status ≡ 10) × WritesLine desk_line old new
TellsEnd BudgetSpent status old new = (status ≡ 11) × WritesLine budget_line old new
