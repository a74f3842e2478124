use Rattle.std.proofs.Common.{sym, refl, subst}
use Rattle.replay_format.specs.Records.{Datagram, datagram_of}
use Rattle.shared_replay.specs.Stands.{Kept, Stands}
use Rattle.shared_replay.proofs.Standing.{arrived_all}
use Rattle.shared_replay.proofs.sessions.Sessions.arrive.Goals as goal

pub returns-clause-answered : goal.returns-clause-answered
returns-clause-answered c = λ records st within.
    let d : Datagram = datagram_of c.args.meta.now c.args.t3 c.args.octets.now in
    let was = subst (λ (k : Kept). Stands k records) (sym c.self.view_is) st in
    arrived_all records _ _ d c.args.out.now c.arrive.new.out c.arrive.result was refl c.arrive.ensures.reserves c.arrive.ensures.arrived
