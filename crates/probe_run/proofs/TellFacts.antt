-- What the ends of a measurement are caused by.
use Rattle.std.proofs.Common.{◌≡◌, ◌⊎◌, inl, inr, ℕ, ◌+◌, ◌≤◌, ◌==◌, Bool, true, false, cond, List, [], ◌∷◌, ◌++◌, length, Option, Some, None, refl, sym, ap, subst, arith}
use Rattle.std.proofs.lemmas.Bool.{eqb-true}
use Rattle.std.proofs.lemmas.List.{length-append}
use Rattle.port_io.specs.Outside.{counted}
use Rattle.port_io.specs.SinkShown.{SinkShown}
use Rattle.net_io.specs.Log.{Grows}
use Rattle.net_io.specs.Port.{PortEntry, read, done}
use Rattle.probe_run.specs.declared.probe.Probe.{Probe}
use Rattle.probe_run.specs.declared.probe.Measured.{Measured}
use Rattle.probe_run.specs.declared.progress.ProbeEnd.{ProbeEnd}
use Rattle.probe_run.specs.declared.progress.ProbeEnd.TheVariants as end
use Rattle.probe_run.specs.Plan.{plan_of}
use Rattle.probe_run.specs.Ends.{end_due, failed_row, is_failed, is_over}
use Rattle.probe_run.specs.Turns.{Turn, Incoming, idle, over, failed, reply, foreign, all_entries}
use Rattle.probe_run.specs.Runs.{EndsAfter, EndsBy, failed_in, failures, RisesBy}
use Rattle.probe_run.specs.Telling.{PortView, HasMeasured, TellsEnd, WritesMeasured, NothingFails, EndedByItself}

failed_by : (n : ℕ) (i : Incoming) → cond (is_failed i) (n + 1) 0 ≤ n + failed_in i
failed_by n idle = omega arith
failed_by n over = omega arith
failed_by n failed = omega arith
failed_by n (reply meta octets) = omega arith
failed_by n (foreign meta octets) = omega arith

-- as many failures in a row are failures
failed_few : (n : ℕ) (ts : List Turn) → failed_row n ts ≤ n + failures ts
failed_few n [] = omega arith
failed_few n (t ∷ ts) = omega (arith, failed_few (cond (is_failed t.incoming) (n + 1) 0) ts, failed_by n t.incoming)

abbrev code : Option ProbeEnd → ℕ
code None = 0
code (Some end.Finished) = 1
code (Some end.End) = 2
code (Some end.PortFault) = 3
code (Some end.Budget) = 4

-- 64 calls of `recv` failed in a row
fault_is : (ts : List Turn) (i : Incoming) → end_due ts i ≡ Some end.PortFault → failed_row 0 ts ≡ 64
fault_is ts i e = either (is_over i) (failed_row 0 ts == 64) refl (length ts == 10000000) e
  where
    either : (b f : Bool) → (failed_row 0 ts == 64) ≡ f → (s : Bool) → (cond b (Some end.End) (cond f (Some end.PortFault) (cond s (Some end.Budget) None))) ≡ Some end.PortFault → failed_row 0 ts ≡ 64
    either b true is s e = eqb-true (failed_row 0 ts) 64 is
    either true false is s e = let n : 2 ≡ 3 = ap code e in absurd (omega (arith, n))
    either false false is true e = let n : 4 ≡ 3 = ap code e in absurd (omega (arith, n))
    either false false is false e = let n : 0 ≡ 3 = ap code e in absurd (omega (arith, n))

-- so the count of faults rose
pub fault_cause : (turns : List Turn) (last : List PortEntry) (old new : ℕ) → EndsAfter turns last end.PortFault → RisesBy (failures turns) old new → counted old ≤ new
fault_cause turns last old new h r =
    let e = fault_is turns h.turn.incoming h.due in
    let f = failed_few 0 turns in
    let s = r.each in
    omega (arith, e, f, s)

-- what a status tells of the end
by_status : (e : ProbeEnd) (status : ℕ) (old new : SinkShown) → TellsEnd e status old new
    → (status ≡ 0) ⊎ (((status ≡ 9) × (e ≡ end.PortFault)) ⊎ ((status ≡ 11) × (e ≡ end.Budget)))
by_status end.Finished status old new t = inl t.0
by_status end.End status old new t = inl t.0
by_status end.PortFault status old new t = inr (inl (t.0, refl))
by_status end.Budget status old new t = inr (inr (t.0, refl))

-- an end that came by itself has the status 0
itself_zero : (e : ProbeEnd) (status : ℕ) (old new : SinkShown) → (e ≡ end.Finished) ⊎ (e ≡ end.End) → TellsEnd e status old new → status ≡ 0
itself_zero end.Finished status old new i t = t.0
itself_zero end.End status old new i t = t.0
itself_zero end.PortFault status old new (inl e) t = let n : 3 ≡ 1 = ap (λ (x : ProbeEnd). code (Some x)) e in absurd (omega (arith, n))
itself_zero end.PortFault status old new (inr e) t = let n : 3 ≡ 2 = ap (λ (x : ProbeEnd). code (Some x)) e in absurd (omega (arith, n))
itself_zero end.Budget status old new (inl e) t = let n : 4 ≡ 1 = ap (λ (x : ProbeEnd). code (Some x)) e in absurd (omega (arith, n))
itself_zero end.Budget status old new (inr e) t = let n : 4 ≡ 2 = ap (λ (x : ProbeEnd). code (Some x)) e in absurd (omega (arith, n))

-- a log that is told and stays has no entry more
grows_not : (l : Option (List PortEntry)) (log : List PortEntry) (e : PortEntry) (es : List PortEntry) → l ≡ Some log → Grows l l (e ∷ es) → ⊥
grows_not None log e es told g = absurd cc
grows_not (Some l) log e es told g = let n = ap length g in absurd (omega (arith, n, length-append l (e ∷ es)))

-- so a port that failed to open tells no measurement
pub not_measured : {P S : Type 0} (v : PortView P S) (probe : Probe) (old new : SinkShown) (p q : P) → EndedByItself v probe old new p q → (v q).log ≡ (v p).log → ⊥
not_measured v probe old new p q n quiet =
    let m = n.some.0 in
    let r = n.some.1.measured in
    let entries = [] ++ all_entries (plan_of probe).ssid probe.peer [] r.turns ++ r.last ++ done ∷ [] in
    grows_not (v q).log n.log (read r.start) entries n.told (subst (λ (l : Option (List PortEntry)). Grows l (v q).log (read r.start ∷ entries)) (sym quiet) r.written)

module _ {P S : Type 0} (v : PortView P S) (probe : Probe) (m : Measured) (p q : P) (h : HasMeasured v probe m p q) where
  measured_cause : m.end ≡ end.PortFault → counted (v p).faults ≤ (v q).faults
  measured_cause is =
      let r = h.measured in
      fault_cause r.turns r.last (v p).faults (v q).faults (subst (λ (e : ProbeEnd). EndsBy (plan_of probe) r.start r.turns r.last e) is r.ends) r.rises

  pub told_cause : (status : ℕ) (old new : SinkShown) → WritesMeasured m status old new → status ≡ 9 → counted (v p).faults ≤ (v q).faults
  told_cause status old new w nine = elim (by_status m.end status w.reported new w.end) [
    | inl zero ↦ absurd (omega (arith, zero, nine))
    | inr (inl fault) ↦ measured_cause fault.1
    | inr (inr budget) ↦ let e = budget.0 in absurd (omega (arith, e, nine))
  ]

  pub told_whole : (status : ℕ) (old new : SinkShown) → NothingFails v probe old new p q → WritesMeasured m status old new → status ≡ 0
  told_whole status old new n w = elim (by_status m.end status w.reported new w.end) [
    | inl none ↦ none
    | inr (inl fault) ↦ absurd (n.calls (measured_cause fault.1))
    | inr (inr budget) ↦ absurd (n.budget m h budget.1)
  ]

  pub told_itself : (status : ℕ) (old new : SinkShown) → EndedByItself v probe old new p q → WritesMeasured m status old new → status ≡ 0
  told_itself status old new n w = itself_zero m.end status w.reported new (n.each m h) w.end
