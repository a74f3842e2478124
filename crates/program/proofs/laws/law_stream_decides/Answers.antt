use Rattle.program.proofs.Decides.{stream_decides}
use Rattle.program.proofs.laws.law_stream_decides.Goals as goal

pub returns : goal.returns
returns c = stream_decides
