-- The workers at their posts, each with a seat of the table (this project's own).
use Rattle.std.specs.Prelude.{◌≡◌, ℕ, suc, ◌+◌, List, [], ◌∷◌}
use Rattle.refl_types.specs.declared.types.Endpoint.{Endpoint}
use Rattle.session_world.specs.declared.steps.Step.{Step}
use Rattle.session_rule.specs.declared.seats.Table.{Table}
use Rattle.session_rule.specs.Seats.{size_of, IsWorkerOf, worker_number, worker_steps}
use Rattle.conf_text.specs.File.{File}
use Rattle.receive_worker.specs.Faults.{RisesBy}
use Rattle.receive_worker.specs.Accounts.{Accounts}
use Rattle.receive_worker.specs.Work.{Worked}
use Rattle.reflector_serve.specs.Ports.{PortView}
use Rattle.reflector_serve.specs.declared.post.Post.{Post}

abbrev pub AllSeated : {P : Type 0} → Table → List (Post P) → Type 0
AllSeated t [] = Unit {0}
AllSeated t (r ∷ rs) = IsWorkerOf t r.seat × AllSeated t rs

-- the same as one fact, which a closure can ask for
pub record AreSeated {P : Type 0} (t : Table) (rs : List (Post P)) : Type 0 where
  pub all : AllSeated t rs

-- the seats are those of the workers w, w + 1 and so on
abbrev pub AreNumbered : {P : Type 0} → ℕ → List (Post P) → Type 0
AreNumbered w [] = Unit {0}
AreNumbered w (r ∷ rs) = (worker_number r.seat ≡ w) × AreNumbered (suc w) rs

-- no seat has made a step
abbrev pub AreFresh : {P : Type 0} → List (Post P) → Type 0
AreFresh [] = Unit {0}
AreFresh (r ∷ rs) = (worker_steps r.seat ≡ []) × AreFresh rs

abbrev pub lists_of : {P : Type 0} → List (Post P) → List (List Step)
lists_of [] = []
lists_of (r ∷ rs) = worker_steps r.seat ∷ lists_of rs

-- ---- the workers' work

-- a worker may work at the port
abbrev pub AllReady : {P S : Type 0} → PortView P S → Table → List Endpoint → List P → List (Post P) → Type 0
AllReady v t locals ps [] = Unit {0}
AllReady v t locals (p ∷ ps) (r ∷ rs) = (((v p).bound ≡ locals) × IsWorkerOf t r.seat × (worker_steps r.seat ≡ [])) × AllReady v t locals ps rs
AllReady v t locals [] (r ∷ rs) = ⊥

-- the same as one fact, which a closure can ask for
pub record AreReady {P S : Type 0} (v : PortView P S) (t : Table) (locals : List Endpoint) (ps : List P) (rs : List (Post P)) : Type 0 where
  pub all : AllReady v t locals ps rs

-- a worker went through its rounds at the port
pub record WorkedAt {P S : Type 0} (v : PortView P S) (t : Table) (f : File) (p q : P) (r s : Post P) : Type 0 where
  pub worked : Worked t f.locals f.limit f.turns r.seat s.seat (v p).log (v q).log s.tally
  pub accounts : Accounts (size_of t).slots (worker_steps r.seat) (worker_steps s.seat) s.tally
  pub bound : (v q).bound ≡ (v p).bound
  pub made : (v q).made ≡ (v p).made
  pub faults : RisesBy (s.tally.recv_fault + s.tally.send_fault) (v p).faults (v q).faults

-- each worker at the port in its place, and the ports beyond the last worker are as they were
abbrev pub AllWorked : {P S : Type 0} → PortView P S → Table → File → List P → List P → List (Post P) → List (Post P) → Type 0
AllWorked v t f ps qs [] ss = (qs ≡ ps) × (ss ≡ [])
AllWorked v t f (p ∷ ps) (q ∷ qs) (r ∷ rs) (s ∷ ss) = WorkedAt v t f p q r s × AllWorked v t f ps qs rs ss
AllWorked v t f ps qs (r ∷ rs) ss = ⊥
