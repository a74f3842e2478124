use Rattle.std.proofs.Common.{rules, ◌<◌, length}
use Rattle.reflector_serve.proofs.PortFacts.{share_more, share_failed, one_fails, on_err}
use Rattle.reflector_serve.proofs.ports.share_all.Goals as goal

pub loop-port-preserved : goal.loop-port-preserved
loop-port-preserved g c =
    let inside : c.loop-port.port-index < length c.loop-port.others = search rules in let e = c.in_ok-share.ensures in
    share_more g.P.Port.shown (g.P.Port.shown c.args.first.now).bound c.loop-port.port-index c.args.others.now c.loop-port.others c.port-item.result c.share.new.self c.loop-port.invariant inside
    (record { idle = record { log = e.log; coming = e.coming; made = e.made }; bound = e.bound; still = e.still })

pub returns-in_err-share-clause-idle : goal.returns-in_err-share-clause-idle
returns-in_err-share-clause-idle g c =
    let inside : c.loop-port.port-index < length c.loop-port.others = search rules in let e = c.in_err-share.ensures in
    share_failed g.P.Port.shown (g.P.Port.shown c.args.first.now).bound c.loop-port.port-index c.args.others.now c.loop-port.others c.port-item.result c.share.new.self c.loop-port.invariant inside
    (record { log = e.log; coming = e.coming; made = e.made })

pub returns-in_err-share-clause-cause : goal.returns-in_err-share-clause-cause
returns-in_err-share-clause-cause g c =
    let inside : c.loop-port.port-index < length c.loop-port.others = search rules in
    on_err c.from_residual.result (one_fails g.P.Port.shown (g.P.Port.shown c.args.first.now).bound c.loop-port.port-index c.args.others.now c.loop-port.others c.port-item.result c.share.new.self c.loop-port.invariant inside
    c.in_err-share.ensures.cause)
