use Rattle.std.proofs.Common.{◌≡◌, leb, length, ap, arith}
use Rattle.std.proofs.lemmas.List.{length-take}
use Rattle.control_desk.proofs.own.OwnSessions.is_full.Goals as goal

pub returns : goal.returns
returns c =
    let len : c.self.inside.len ≡ length c.args.self.now = omega (arith, length-take c.self.inside.len c.self.inside.list, ap length c.self.view_is, c.self.invariant.0, c.self.invariant.1) in
    ap (leb 16) len
