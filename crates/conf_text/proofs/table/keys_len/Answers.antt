use Rattle.std.proofs.Common.{arith}
use Rattle.std.proofs.lemmas.Grind.{common_steps}
use Rattle.conf_text.proofs.PlaceFacts.{members_len-view}
use Rattle.conf_text.proofs.table.keys_len.Goals as goal

pub returns : goal.returns
returns c = grind (arith, common_steps, members_len-view c.args.table.now.entries)
