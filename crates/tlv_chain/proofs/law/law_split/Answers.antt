use Rattle.tlv_chain.proofs.SplitFacts.{split_is, split_alone}
use Rattle.tlv_chain.proofs.law.law_split.Goals as goal

pub returns-clause-is : goal.returns-clause-is
returns-clause-is c = split_is

pub returns-clause-alone : goal.returns-clause-alone
returns-clause-alone c = split_alone
