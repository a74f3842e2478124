use Rattle.reflector_serve.proofs.PortFacts.{Sharing}
use Rattle.reflector_serve.proofs.ports.share_all.Given as goal

abbrev pub invariant-loop-port : goal.invariant-loop-port
invariant-loop-port g l = Sharing g.P.Port.shown (g.P.Port.shown l.first).bound l.port-index l.fn.others l.others
