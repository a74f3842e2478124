-- The report of a run (this project's own): a line for each worker, one for the desk and one for the sessions.
use Rattle.std.specs.Prelude.{ℕ, suc, List, [], ◌∷◌, ◌++◌, codes, decimal}
use Rattle.receive_worker.specs.declared.tally.WorkEnd.{WorkEnd}
use Rattle.receive_worker.specs.declared.tally.WorkEnd.TheVariants as ends
use Rattle.control_desk.specs.declared.counts.DeskEnd.{DeskEnd}
use Rattle.control_desk.specs.declared.counts.DeskEnd.TheVariants as desk_ends
use Rattle.receive_worker.specs.declared.tally.Tally.{Tally}
use Rattle.control_desk.specs.declared.counts.DeskTally.{DeskTally}
use Rattle.report_text.specs.declared.learned.Learned.{Learned}

-- words, each followed by a number
abbrev pub items_text : List (List ℕ × ℕ) → List ℕ
items_text [] = []
items_text (p ∷ ps) = p.0 ++ decimal p.1 ++ items_text ps

abbrev pub work_end_text : WorkEnd → List ℕ
work_end_text ends.End = codes " end\n"
work_end_text ends.Limit = codes " limit\n"
work_end_text ends.Budget = codes " budget\n"
work_end_text ends.PortFault = codes " port\n"

abbrev pub desk_end_text : DeskEnd → List ℕ
desk_end_text desk_ends.End = codes " end\n"
desk_end_text desk_ends.Quit = codes " quit\n"
desk_end_text desk_ends.Budget = codes " budget\n"
desk_end_text desk_ends.Fault = codes " desk\n"

-- the number of a worker is that of its port
abbrev pub worker_text : ℕ → Tally → List ℕ
worker_text w t =
    items_text ((codes "worker ", w) ∷ (codes " taken ", t.taken) ∷ (codes " sent ", t.sent) ∷ (codes " nosession ", t.no_session)
    ∷ (codes " short ", t.short) ∷ (codes " badhmac ", t.bad_hmac) ∷ (codes " changed ", t.changed) ∷ (codes " noreply ", t.no_reply)
    ∷ (codes " sendfault ", t.send_fault) ∷ (codes " recvfault ", t.recv_fault) ∷ [])
    ++ work_end_text t.end

abbrev pub desk_text : DeskTally → List ℕ
desk_text d = items_text ((codes "desk events ", d.events) ∷ (codes " faults ", d.faults) ∷ []) ++ desk_end_text d.end

abbrev pub sessions_text : DeskTally → ℕ → List ℕ
sessions_text d live = items_text ((codes "sessions live ", live) ∷ (codes " closed ", d.closed) ∷ (codes " expired ", d.expired) ∷ []) ++ codes "\n"

-- the workers from number w on
abbrev pub workers_text : ℕ → List Tally → List ℕ
workers_text w [] = []
workers_text w (t ∷ ts) = worker_text w t ++ workers_text (suc w) ts

abbrev pub report_text : List Tally → DeskTally → ℕ → List ℕ
report_text workers desk live = workers_text 0 workers ++ desk_text desk ++ sessions_text desk live

-- the line of learned sessions
abbrev pub learned_line : Learned → List ℕ
learned_line l = items_text ((codes "learned opened ", l.opened) ∷ (codes " refused ", l.refused) ∷ (codes " left ", l.left) ∷ (codes " full ", l.full) ∷ []) ++ codes "\n"
