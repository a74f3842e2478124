-- A worker that ended since its port failed has raised the port's count.
use Rattle.std.proofs.Common.{◌≡◌, ℕ, zero, suc, ◌+◌, ◌<◌, ◌≤◌, ◌==◌, ◌&&◌, ◌||◌, not, Bool, true, false, if◌then◌else◌, List, [], ◌∷◌, Some, None, Ok, Err, inl, inr, refl, sym, ap, subst, ◌∙◌, arith}
use Rattle.std.proofs.lemmas.Bool.{eqb-true}
use Rattle.std.specs.List.{list_any}
use Rattle.refl_types.specs.declared.config.ConfigParts.{ConfigParts}
use Rattle.refl_types.specs.declared.outcome.Unanswered.TheVariants.{NoSession, Short, BadHmac, NoReply, Changed, SendFault}
use Rattle.port_io.specs.Outside.{Rises}
use Rattle.net_io.specs.Port.{PortEntry}
use Rattle.session_world.specs.declared.steps.Step.{Step}
use Rattle.session_rule.specs.declared.seats.Table.{Table}
use Rattle.conf_text.specs.File.{File}
use Rattle.receive_worker.specs.declared.tally.Tally.{Tally}
use Rattle.receive_worker.specs.declared.tally.Begun.{Begun}
use Rattle.receive_worker.specs.declared.tally.Begun.TheVariants as begun
use Rattle.receive_worker.specs.declared.tally.WorkEnd.{WorkEnd}
use Rattle.receive_worker.specs.declared.tally.WorkEnd.TheVariants.{End, Limit, Budget, PortFault}
use Rattle.receive_worker.specs.Faults.{RisesBy}
use Rattle.receive_worker.specs.Tally.{no_tally, with_begun}
use Rattle.receive_worker.specs.Work.{Round, kind_of, with_round, tally_after, Progress, at_first, progress_by, progress, progress_after, is_over, IsEnd}
use Rattle.reflector_serve.specs.Ports.{PortView, OneFails}
use Rattle.reflector_serve.specs.Served.{IsServed, AllServed}
use Rattle.file_service.specs.Ends.{is_port_fault}
use Rattle.file_service.specs.Service.{HasRisen, OneHasFailed}

-- ---- failures in a row are among those that a tally counts

row_by : (p : Progress) (t : Tally) (b : Begun) → p.failed ≤ t.recv_fault → (progress_by p b).failed ≤ (with_begun t b).recv_fault
row_by p t begun.Idle h = omega arith
row_by p t begun.Over h = omega arith
row_by p t begun.Failed h = omega (arith, h)
row_by p t (begun.Turned (Ok u)) h = omega arith
row_by p t (begun.Turned (Err NoSession)) h = omega arith
row_by p t (begun.Turned (Err Short)) h = omega arith
row_by p t (begun.Turned (Err BadHmac)) h = omega arith
row_by p t (begun.Turned (Err NoReply)) h = omega arith
row_by p t (begun.Turned (Err (Changed i j))) h = omega arith
row_by p t (begun.Turned (Err SendFault)) h = omega arith

row : (p : Progress) (t : Tally) (rs : List Round) → p.failed ≤ t.recv_fault → (progress_after p rs).failed ≤ (tally_after t rs).recv_fault
row p t [] h = h
row p t (r ∷ rs) h = row (progress p r) (with_round t r) rs (row_by p t (kind_of r) h)

-- ---- a port's fault is due behind 64 failures in a row

chosen : (a b c d : Bool) → (if a then Some End else (if b then Some Limit else (if c then Some Budget else (if d then Some PortFault else None)))) ≡ Some PortFault → d ≡ true
chosen true b c d h = absurd cc
chosen false true c d h = absurd cc
chosen false false true d h = absurd cc
chosen false false false true h = refl
chosen false false false false h = absurd cc

row_at_end : (limit turns : ℕ) (rounds : List Round) → IsEnd limit turns rounds PortFault → (progress_after at_first rounds).failed ≡ 64
row_at_end limit zero rounds h = let e = h.1 in absurd cc
row_at_end limit (suc turns) rounds h =
    let p = progress_after at_first rounds in
    eqb-true p.failed 64 (chosen (is_over (kind_of h.last)) (not (limit == 0) && p.taken == limit) (p.calls == suc turns) (p.failed == 64) h.at_last)

-- ---- the ports

is_fault : (e : WorkEnd) → is_port_fault e ≡ true → e ≡ PortFault
is_fault End h = absurd cc
is_fault Limit h = absurd cc
is_fault Budget h = absurd cc
is_fault PortFault h = refl

risen_by : (old new n : ℕ) → 0 < n → RisesBy n old new → HasRisen old new
risen_by old new n some h = omega (arith, some, h.each)

module _ {P S : Type 0} (v : PortView P S) (t : Table) (f : File) (config : ℕ → ConfigParts) where
  worker_failed : (told : List PortEntry) (p q : P) (xs : List Step) (y : Tally) → IsServed v t f config told p q xs y → is_port_fault y.end ≡ true → HasRisen (v p).faults (v q).faults
  worker_failed told p q xs y h e =
      let many = row_at_end f.limit f.turns h.rounds (subst (λ (k : WorkEnd). IsEnd f.limit f.turns h.rounds k) (is_fault y.end e) h.worked.end) in
      let counted = row at_first (no_tally y.end) h.rounds (omega arith) in
      let same = ap (λ (z : Tally). z.recv_fault) h.worked.counted in
      risen_by (v p).faults (v q).faults (y.recv_fault + y.send_fault) (omega (arith, many, counted, same)) h.faults

  here : (p q : P) (ps qs : List P) → HasRisen (v p).faults (v q).faults → OneHasFailed v (p ∷ ps) (q ∷ qs)
  here p q ps qs h = record { place = 0; inside = omega arith; risen = λ d. h }

  there : (p q : P) (ps qs : List P) → OneHasFailed v ps qs → OneHasFailed v (p ∷ ps) (q ∷ qs)
  there p q ps qs h = record { place = suc h.place; inside = omega (arith, h.inside); risen = λ d. h.risen d }

  pub port_failed : (told : List PortEntry) (ps qs : List P) (lists : List (List Step)) (ys : List Tally) → AllServed v t f config told ps qs lists ys → list_any (λ y. is_port_fault y.end) ys ≡ true → OneHasFailed v ps qs
  port_failed told ps qs [] [] h e = absurd cc
  port_failed told ps qs [] (y ∷ ys) h e = absurd h
  port_failed told ps qs (xs ∷ lists) [] h e = absurd cc
  port_failed told [] qs (xs ∷ lists) (y ∷ ys) h e = absurd h
  port_failed told (p ∷ ps) [] (xs ∷ lists) (y ∷ ys) h e = absurd h
  port_failed told (p ∷ ps) (q ∷ qs) (xs ∷ lists) (y ∷ ys) h e = by (is_port_fault y.end) refl (port_failed [] ps qs lists ys h.1)
    where
      by : (b : Bool) → is_port_fault y.end ≡ b → (list_any (λ y. is_port_fault y.end) ys ≡ true → OneHasFailed v ps qs) → OneHasFailed v (p ∷ ps) (q ∷ qs)
      by true k rest = here p q ps qs (worker_failed told p q xs y h.0 k)
      by false k rest = there p q ps qs (rest (ap (λ (b : Bool). b || list_any (λ y. is_port_fault y.end) ys) (sym k) ∙ e))

-- ---- an opening that failed

pub risen : (old new : ℕ) → Rises old new → HasRisen old new
risen old new (inl h) = omega (arith, h)
risen old new (inr h) = omega (arith, h.0, h.1)

pub opening_failed : {P S : Type 0} (v : PortView P S) (ps qs : List P) → OneFails v ps qs → OneHasFailed v ps qs
opening_failed v ps qs h = record { place = h.place; inside = h.inside; risen = λ d. risen _ _ (h.rises d) }
