use Rattle.conf_text.proofs.RowFacts.{same_config-is}
use Rattle.conf_text.proofs.rows.is_same.Goals as goal

pub returns : goal.returns
returns c = same_config-is c.equals.result c.args.config.now c.args.other.now c.equals.ensures.same c.equals.ensures.differs
