use Rattle.std.proofs.Common.{refl, rules}
use Rattle.sender_core.proofs.StateFacts.{after_nothing}
use Rattle.sender_core.proofs.sender.Sender.with_room.Goals as goal

pub returns : goal.returns
returns c = (refl, refl, after_nothing _ c.args.plan.count c.in_ok-moments.ensures.items (search rules) c.new.ensures)
