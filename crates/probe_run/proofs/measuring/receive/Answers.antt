use Rattle.std.proofs.Common.{[], ◌∷◌, take, refl, subst, arith}
use Rattle.net_io.specs.declared.port.Got.{Got}
use Rattle.net_io.specs.Log.{Grows}
use Rattle.net_io.specs.Port.{got_entry}
use Rattle.probe_run.specs.Turns.{reply, foreign}
use Rattle.probe_run.proofs.measuring.receive.Goals as goal

pub returns-then-not-is_same-clause-received : goal.returns-then-not-is_same-clause-received
returns-then-not-is_same-clause-received g c =
    let meta = c.in-Ok-Datagram.meta in
    record {
      incoming = foreign meta (take meta.len c.recv.new.buf);
      kind = refl;
      from = c.is_same.ensures.other c.if-not-is_same.true;
      deeds = λ ds h. h;
      written = subst (λ (got : Got). Grows (g.P.Port.shown c.args.port.now).log (g.P.Port.shown c.recv.new.self).log (got_entry c.recv.new.buf got ∷ [])) c.in-Ok-Datagram.field-0-is c.in-Ok-Datagram.ensures.log;
      rises = record { none = λ e. c.in-Ok-Datagram.ensures.still; each = let s = c.in-Ok-Datagram.ensures.still in omega (arith, s) };
      same = record { plan = refl; start = refl };
    }

pub returns-else-not-is_same-clause-received : goal.returns-else-not-is_same-clause-received
returns-else-not-is_same-clause-received g c =
    let meta = c.in-Ok-Datagram.meta in
    record {
      incoming = reply meta (take meta.len c.recv.new.buf);
      kind = refl;
      from = c.is_same.ensures.same c.if-not-is_same.false;
      deeds = c.accept-taken.ensures.after;
      written = subst (λ (got : Got). Grows (g.P.Port.shown c.args.port.now).log (g.P.Port.shown c.recv.new.self).log (got_entry c.recv.new.buf got ∷ [])) c.in-Ok-Datagram.field-0-is c.in-Ok-Datagram.ensures.log;
      rises = record { none = λ e. c.in-Ok-Datagram.ensures.still; each = let s = c.in-Ok-Datagram.ensures.still in omega (arith, s) };
      same = record { plan = c.accept-taken.ensures.kept.plan; start = c.accept-taken.ensures.kept.start };
    }
