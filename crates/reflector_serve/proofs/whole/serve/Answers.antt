use Rattle.std.proofs.Common.{rules, ◌<◌, ◌++◌, List, length, sym, subst}
use Rattle.reflector_serve.specs.Ports.{OneFails}
use Rattle.reflector_serve.specs.Served.{AreQuiet}
use Rattle.reflector_serve.proofs.WideFacts.{wide_quiet, wide_fails}
use Rattle.reflector_serve.proofs.WholeFacts.{wide_ok}
use Rattle.reflector_serve.proofs.whole.serve.Goals as goal

pub returns-clause-port_open : goal.returns-clause-port_open
returns-clause-port_open g c = λ e.
    let v = g.P.Port.shown in
    let r = c.serve_at.ensures.port_open e in let split = c.split_at_mut-serving.ensures.value in
    let serving = c.split_at_mut-serving.result.0.now in let rest = c.split_at_mut-serving.result.1.now in let new = c.serve_at.new.ports in
    let some : 0 < length c.split_at_mut-serving.result.0.now = search rules in (
      subst (λ (xs : List _). AreQuiet v xs (new ++ rest)) (sym split) (wide_quiet v serving new rest some r.0),
      subst (λ (xs : List _). OneFails g.P.Port.shown xs (new ++ rest)) (sym split) (wide_fails v serving new rest r.0 r.1),
      r.2,
    )

pub returns-clause-desk_open : goal.returns-clause-desk_open
returns-clause-desk_open g c = λ e.
    let v = g.P.Port.shown in
    let r = c.serve_at.ensures.desk_open e in let split = c.split_at_mut-serving.ensures.value in
    let serving = c.split_at_mut-serving.result.0.now in let rest = c.split_at_mut-serving.result.1.now in let new = c.serve_at.new.ports in
    let some : 0 < length c.split_at_mut-serving.result.0.now = search rules in
    (subst (λ (xs : List _). AreQuiet v xs (new ++ rest)) (sym split) (wide_quiet v serving new rest some r.0), r.1)

pub returns-clause-served : goal.returns-clause-served
returns-clause-served g c =
    let v = g.P.Port.shown in
    let w = g.D.Desk.shown in
    wide_ok v w g.D.Desk.goes c.args.conf.now c.args.ports.now c.split_at_mut-serving.result.0.now c.serve_at.new.ports c.split_at_mut-serving.result.1.now c.args.desk.now c.serve_at.new.desk c.serve_at.result c.split_at_mut-serving.ensures.value c.serve_at.ensures.served
