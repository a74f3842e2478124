use Rattle.std.proofs.Common.{rules, ◌≡◌, ◌∷◌}
use Rattle.reflector_serve.proofs.PortFacts.{later_fails}
use Rattle.reflector_serve.proofs.ports.open_ports.Goals as goal

pub returns-clause-cause : goal.returns-clause-cause
returns-clause-cause g c =
    let e : c.args.ports.now ≡ c.in-Some.first.now ∷ c.in-Some.others.now = search rules in
    later_fails g.P.Port.shown c.share_all.result c.args.ports.now c.in-Some.others.now c.share_all.new.others c.in-Some.first.now c.open.new.self e c.share_all.ensures.cause
