use Rattle.std.proofs.Common.{ℕ, subst}
use Rattle.control_desk.specs.Run.{HasRun, HasGone}
use Rattle.reflector_serve.proofs.serving.run_at.Goals as goal

pub returns : goal.returns
returns g c = let e = c.run_desk.ensures in record {
  went = e.went;
  ran = subst (λ (n : ℕ). HasRun c.args.table.now c.args.room.now.setting n c.args.room.now.state (g.D.Desk.shown c.args.desk.now).log (g.D.Desk.shown c.run_desk.new.desk).log c.args.book.now c.run_desk.new.book c.run_desk.result) c.turns.ensures.value e.run;
  gone = subst (λ (n : ℕ). HasGone g.D.Desk.goes c.args.table.now c.args.room.now.setting n c.args.room.now.state c.args.desk.now c.run_desk.new.desk c.args.book.now c.run_desk.new.book c.run_desk.result) c.turns.ensures.value e.gone;
  made = e.made;
  faults = e.faults;
}
