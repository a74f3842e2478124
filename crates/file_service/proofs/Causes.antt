-- What shows why a run ended as it did: a port's count of failures has risen, the desk's has, or a budget was spent.
use Rattle.std.proofs.Common.{◌≡◌, ◌⊎◌, ℕ, Bool, true, false, List, [], ◌∷◌, inl, inr, refl, arith}
use Rattle.std.specs.List.{list_any}
use Rattle.session_world.specs.Desk.{config_at}
use Rattle.session_desk.specs.Book.{steps_of}
use Rattle.port_io.specs.Outside.{Rises, AppendsPart}
use Rattle.port_io.specs.SinkShown.{SinkShown}
use Rattle.net_io.specs.Port.{read}
use Rattle.net_io.specs.Desk.{DeskEntry}
use Rattle.conf_text.specs.File.{File}
use Rattle.conf_check.specs.Writing.{WritesNothing}
use Rattle.control_desk.specs.declared.counts.DeskEnd.{DeskEnd}
use Rattle.control_desk.specs.declared.counts.DeskEnd.TheVariants as desk
use Rattle.reflector_serve.specs.Ports.{PortView}
use Rattle.reflector_serve.specs.declared.report.Report.{Report}
use Rattle.reflector_serve.specs.Served.{DeskView, Served}
use Rattle.file_service.specs.declared.ends.RunEnd.{RunEnd}
use Rattle.file_service.specs.declared.ends.RunEnd.TheVariants.{Done, PortFailed, DeskFailed, BudgetSpent}
use Rattle.file_service.specs.Ends.{is_port_fault, is_spent, end_by, run_end, report_text, TellsEnd}
use Rattle.file_service.specs.Service.{HasRisen, OneHasFailed, WritesReport, HasClosedDesk, ServeEnds}
use Rattle.file_service.proofs.PortFaults.{port_failed, risen}
use Rattle.file_service.proofs.DeskFaults.{desk_failed}

-- ---- what an end comes from

by_port : (d : DeskEnd) (failed spent : Bool) → end_by d failed spent ≡ PortFailed → failed ≡ true
by_port desk.Fault failed spent h = absurd cc
by_port desk.Budget true spent h = refl
by_port desk.Budget false spent h = absurd cc
by_port desk.End true spent h = refl
by_port desk.End false true h = absurd cc
by_port desk.End false false h = absurd cc
by_port desk.Quit true spent h = refl
by_port desk.Quit false true h = absurd cc
by_port desk.Quit false false h = absurd cc

by_desk : (d : DeskEnd) (failed spent : Bool) → end_by d failed spent ≡ DeskFailed → d ≡ desk.Fault
by_desk desk.Fault failed spent h = refl
by_desk desk.Budget true spent h = absurd cc
by_desk desk.Budget false spent h = absurd cc
by_desk desk.End true spent h = absurd cc
by_desk desk.End false true h = absurd cc
by_desk desk.End false false h = absurd cc
by_desk desk.Quit true spent h = absurd cc
by_desk desk.Quit false true h = absurd cc
by_desk desk.Quit false false h = absurd cc

-- ---- a run

module _ {P S D T : Type 0} (v : PortView P S) (w : DeskView D T) (goes : D → DeskEntry → D → Type 0) (f : File) (ps qs : List P) (d e : D) where
  port_end : (r : Report) → Served v w goes f ps qs d e r → run_end r ≡ PortFailed → OneHasFailed v ps qs
  port_end r s end =
      let failed = by_port r.desk.end (list_any (λ t. is_port_fault t.end) r.workers.items) (list_any (λ t. is_spent t.end) r.workers.items) end in
      port_failed v s.table f (config_at (steps_of s.joined)) (read s.moment ∷ []) ps qs s.lists r.workers.items s.ports failed

  desk_end : (r : Report) → Served v w goes f ps qs d e r → run_end r ≡ DeskFailed → HasRisen (w d).faults (w e).faults
  desk_end r s end =
      let fault = by_desk r.desk.end (list_any (λ t. is_port_fault t.end) r.workers.items) (list_any (λ t. is_spent t.end) r.workers.items) end in
      omega (arith, desk_failed w goes s.table f d e s.at_split s.at_end r.desk s.desk fault)

  module _ (old new : SinkShown) where
    pub desk_opening_failed : HasClosedDesk v w ps qs d e old new → HasRisen (w d).faults (w e).faults
    desk_opening_failed h = risen (w d).faults (w e).faults h.desk.faults

    -- what was served ends as its report is told
    pub served_ends : (r : Report) (status : ℕ) → Served v w goes f ps qs d e r
        → (status ≡ 4 → WritesNothing old new)
        → (status ≡ 8 → AppendsPart old.written new.written (report_text r) × Rises old.faults new.faults)
        → (status ≡ 4) ⊎ (status ≡ 8) ⊎ WritesReport r status old new → ServeEnds v w goes f ps qs d e old new status
    served_ends r status s memory lost (inl four) = inr (inl (four, memory four, inr (r, s)))
    served_ends r status s memory lost (inr (inl eight)) = let l = lost eight in inr (inr (inl (eight, (r, s, l.0, l.1))))
    served_ends r status s memory lost (inr (inr h)) = by (run_end r) refl h.end
      where
        by : (k : RunEnd) → run_end r ≡ k → TellsEnd k status h.reported new → ServeEnds v w goes f ps qs d e old new status
        by Done end told = inl (told.0, (r, s, h))
        by PortFailed end told = inr (inr (inr (inl (told.0, inr (r, s, h), port_end r s end))))
        by DeskFailed end told = inr (inr (inr (inr (inl (told.0, inr (r, s, h), desk_end r s end)))))
        by BudgetSpent end told = inr (inr (inr (inr (inr (told.0, (r, s, h))))))
