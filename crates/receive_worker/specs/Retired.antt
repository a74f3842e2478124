-- What a worker leaves announced (this project's own).
use Rattle.std.specs.Prelude.{◌≡◌, ℕ, List, ◌∷◌, Option}
use Rattle.refl_types.specs.declared.types.Endpoint.{Endpoint}
use Rattle.session_world.specs.declared.steps.Step.{Step}
use Rattle.session_world.specs.declared.steps.Step.TheVariants.{Announce}
use Rattle.session_rule.specs.declared.seats.Table.{Table}
use Rattle.session_rule.specs.declared.seats.WorkerSeat.{WorkerSeat}
use Rattle.session_rule.specs.Seats.{worker_steps}
use Rattle.net_io.specs.Port.{PortEntry}
use Rattle.receive_worker.specs.declared.tally.Tally.{Tally}
use Rattle.receive_worker.specs.Work.{Worked}

-- the last step of whoever has worked announces no slot
abbrev pub LeavesNoSlot : Type 0
LeavesNoSlot = (t : Table) (locals : List Endpoint) (limit turns : ℕ) (before after : WorkerSeat) (log log' : Option (List PortEntry)) (tally : Tally) (slot : ℕ) (steps : List Step)
    → Worked t locals limit turns before after log log' tally → worker_steps after ≡ Announce slot ∷ steps → ⊥
