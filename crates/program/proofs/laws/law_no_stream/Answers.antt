use Rattle.program.proofs.Decides.{no_stream}
use Rattle.program.proofs.laws.law_no_stream.Goals as goal

pub returns : goal.returns
returns c = no_stream
