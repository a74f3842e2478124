use Rattle.twamp_control.proofs.Cuts.{messages_in_pieces-concat, connection_after_pieces-concat}
use Rattle.twamp_control.proofs.laws.every_cut.Goals as goal

pub returns-clause-messages : goal.returns-clause-messages
returns-clause-messages c = λ k pieces. messages_in_pieces-concat pieces k

pub returns-clause-connection : goal.returns-clause-connection
returns-clause-connection c = λ k pieces. connection_after_pieces-concat pieces k
