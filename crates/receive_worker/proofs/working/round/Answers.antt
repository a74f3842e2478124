use Rattle.std.proofs.Common.{ℕ, List, [], ◌∷◌, Option, take, refl, sym, subst}
use Rattle.session_rule.specs.Seats.{worker_steps}
use Rattle.net_io.specs.declared.port.Got.{Got}
use Rattle.net_io.specs.Log.{Grows}
use Rattle.net_io.specs.Port.{PortEntry, took, got_entry}
use Rattle.session_table.specs.Knowing.{AreRead, Places}
use Rattle.receive_worker.specs.Buffers.{received}
use Rattle.receive_worker.specs.Turn.{Turned}
use Rattle.receive_worker.specs.Work.{idle, over, failed, arrived_at, GivesAway}
use Rattle.receive_worker.proofs.GrowthFacts.{received_gives, failed_gives}
use Rattle.receive_worker.proofs.RoundFacts.{turned_round}
use Rattle.receive_worker.proofs.working.round.Goals as goal

pub returns-in-Err-clause-read : goal.returns-in-Err-clause-read
returns-in-Err-clause-read g c = subst (λ (rows : Places). AreRead rows (worker_steps c.args.seat.now)) (sym c.recv.ensures.kept) c.requires.read

pub returns-in-Err-clause-round : goal.returns-in-Err-clause-round
returns-in-Err-clause-round g c = record { round = failed; kind = refl; works = record { gained = []; steps = refl; answers = refl; written = c.in-Err.ensures.log; given = failed_gives (g.P.Port.shown c.args.port.now).coming (g.P.Port.shown c.recv.new.port).coming c.in-Err.ensures.coming; turned = λ config reads. (tt, tt) } }

pub returns-in-Ok-Nothing-clause-read : goal.returns-in-Ok-Nothing-clause-read
returns-in-Ok-Nothing-clause-read g c = subst (λ (rows : Places). AreRead rows (worker_steps c.args.seat.now)) (sym c.recv.ensures.kept) c.requires.read

pub returns-in-Ok-Nothing-clause-round : goal.returns-in-Ok-Nothing-clause-round
returns-in-Ok-Nothing-clause-round g c = record {
  round = idle;
  kind = refl;
  works = record {
    gained = [];
    steps = refl;
    answers = refl;
    written = subst (λ (got : Got). Grows (g.P.Port.shown c.args.port.now).log (g.P.Port.shown c.recv.new.port).log (got_entry (received c.recv.new.self) got ∷ [])) c.in-Ok-Nothing.field-0-is c.in-Ok-Nothing.ensures.log;
    given = subst (λ (got : Got). GivesAway (g.P.Port.shown c.args.port.now).coming (g.P.Port.shown c.recv.new.port).coming (got_entry (received c.recv.new.self) got ∷ [])) c.in-Ok-Nothing.field-0-is
        (received_gives (g.P.Port.shown c.args.port.now).coming (g.P.Port.shown c.recv.new.port).coming (received c.recv.new.self) _ c.in-Ok-Nothing.ensures.coming);
    turned = λ config reads. (tt, tt);
  };
}

pub returns-in-Ok-End-clause-read : goal.returns-in-Ok-End-clause-read
returns-in-Ok-End-clause-read g c = subst (λ (rows : Places). AreRead rows (worker_steps c.args.seat.now)) (sym c.recv.ensures.kept) c.requires.read

pub returns-in-Ok-End-clause-round : goal.returns-in-Ok-End-clause-round
returns-in-Ok-End-clause-round g c = record {
  round = over;
  kind = refl;
  works = record {
    gained = [];
    steps = refl;
    answers = refl;
    written = subst (λ (got : Got). Grows (g.P.Port.shown c.args.port.now).log (g.P.Port.shown c.recv.new.port).log (got_entry (received c.recv.new.self) got ∷ [])) c.in-Ok-End.field-0-is c.in-Ok-End.ensures.log;
    given = subst (λ (got : Got). GivesAway (g.P.Port.shown c.args.port.now).coming (g.P.Port.shown c.recv.new.port).coming (got_entry (received c.recv.new.self) got ∷ [])) c.in-Ok-End.field-0-is
        (received_gives (g.P.Port.shown c.args.port.now).coming (g.P.Port.shown c.recv.new.port).coming (received c.recv.new.self) _ c.in-Ok-End.ensures.coming);
    turned = λ config reads. (tt, tt);
  };
}

pub answer-outcome-requires-clause-read : goal.answer-outcome-requires-clause-read
answer-outcome-requires-clause-read g c = subst (λ (rows : Places). AreRead rows (worker_steps c.args.seat.now)) (sym c.recv.ensures.kept) c.requires.read

pub returns-in-Ok-Datagram-clause-round : goal.returns-in-Ok-Datagram-clause-round
returns-in-Ok-Datagram-clause-round g c =
    let meta = c.in-Ok-Datagram.meta in
    let taken = subst (λ (got : Got). Grows (g.P.Port.shown c.args.port.now).log (g.P.Port.shown c.recv.new.port).log (got_entry (received c.recv.new.self) got ∷ [])) c.in-Ok-Datagram.field-0-is c.in-Ok-Datagram.ensures.log in
    let left = subst (λ (got : Got). GivesAway (g.P.Port.shown c.args.port.now).coming (g.P.Port.shown c.recv.new.port).coming (got_entry (received c.recv.new.self) got ∷ [])) c.in-Ok-Datagram.field-0-is
    (received_gives (g.P.Port.shown c.args.port.now).coming (g.P.Port.shown c.recv.new.port).coming (received c.recv.new.self) _ c.in-Ok-Datagram.ensures.coming) in
    let given = subst (λ (coming : Option (List PortEntry)). GivesAway (g.P.Port.shown c.args.port.now).coming coming (took meta (take meta.len (received c.recv.new.self)) ∷ [])) (sym c.answer-outcome.ensures.coming) left in
    turned_round c.args.table.now c.args.locals.now meta (take meta.len (received c.recv.new.self)) c.args.seat.now c.answer-outcome.new.seat (g.P.Port.shown c.args.port.now) (g.P.Port.shown c.recv.new.port)
    (g.P.Port.shown c.answer-outcome.new.port) c.answer-outcome.result taken given
    (subst (λ (all : List ℕ). Turned c.args.table.now (arrived_at c.args.locals.now meta (take meta.len all)) c.args.seat.now c.answer-outcome.new.seat (g.P.Port.shown c.recv.new.port).log (g.P.Port.shown c.answer-outcome.new.port).log c.answer-outcome.result)
    c.deref.ensures.value c.answer-outcome.ensures.turned)
