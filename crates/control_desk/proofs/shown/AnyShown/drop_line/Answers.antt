use Rattle.std.proofs.Common.{refl}
use Rattle.net_io.specs.Desk.{hung_up}
use Rattle.control_desk.specs.Plan.{hang_up}
use Rattle.control_desk.proofs.Following.{follows_noted}
use Rattle.control_desk.proofs.shown.AnyShown.drop_line.Goals as goal

pub returns : goal.returns
returns g c = λ t next b n.
    follows_noted (hang_up c.args.conn next) next (hung_up c.args.conn) b (refl, refl)
    (record { went = c.hang_up.ensures.goes; is_open = c.hang_up.ensures.open; made = c.hang_up.ensures.made; log = c.hang_up.ensures.log; faults = c.hang_up.ensures.still }) refl
