use Rattle.session_desk.proofs.Goes.{went, went_none, went_both}
use Rattle.session_desk.proofs.laws.law_calls_go_on.Goals as goal

pub returns : goal.returns
returns c = record { call = went; none = went_none; both = went_both }
