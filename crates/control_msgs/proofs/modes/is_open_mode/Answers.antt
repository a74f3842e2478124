use Rattle.control_msgs.proofs.ModeFacts.{open_odd, open_even}
use Rattle.control_msgs.proofs.modes.is_open_mode.Goals as goal

pub returns-then-mode-eq-OPEN : goal.returns-then-mode-eq-OPEN
returns-then-mode-eq-OPEN c = open_odd c.args.mode c.ranges.mode.fits c.if-mode-eq-OPEN.true

pub returns-else-mode-eq-OPEN : goal.returns-else-mode-eq-OPEN
returns-else-mode-eq-OPEN c = open_even c.args.mode c.if-mode-eq-OPEN.false
