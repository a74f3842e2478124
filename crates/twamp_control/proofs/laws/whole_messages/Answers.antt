use Rattle.twamp_control.proofs.Cuts.{messages_from-message, messages_from-begun}
use Rattle.twamp_control.proofs.laws.whole_messages.Goals as goal

pub returns-clause-whole : goal.returns-clause-whole
returns-clause-whole c = messages_from-message

pub returns-clause-begun : goal.returns-clause-begun
returns-clause-begun c = messages_from-begun
