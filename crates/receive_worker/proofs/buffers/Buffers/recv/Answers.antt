use Rattle.std.proofs.lemmas.Grind.{common_steps}
use Rattle.std.proofs.Common.{arith, ◌≡◌, List, take, drop, length, Ok, subst}
use Rattle.refl_types.specs.declared.types.Meta.{Meta}
use Rattle.net_io.specs.declared.port.Got.TheVariants.{Datagram}
use Rattle.receive_worker.specs.Turn.{LastTook}
use Rattle.receive_worker.proofs.GrowthFacts.{received_took, whole_buffer}
use Rattle.receive_worker.proofs.buffers.Buffers.recv.Goals as goal

pub returns-clause-took : goal.returns-clause-took
returns-clause-took g c =
    let log = (g.P.Port.shown c.args.port.now).log in
    let log' = (g.P.Port.shown c.recv.new.self).log in
    let input = c.args.self.now.input in
    let same : input.len ≡ length c.recv.new.buf = grind (arith, common_steps) in
    subst (λ (all : List _). (meta : Meta) → c.recv.result ≡ Ok (Datagram meta) → LastTook log' meta (take meta.len all))
    (whole_buffer input.len c.recv.new.buf (drop (length c.recv.new.buf) input.items) same) (received_took log log' c.recv.new.buf c.recv.result c.recv.ensures.log)
