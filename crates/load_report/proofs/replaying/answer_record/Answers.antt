use Rattle.std.proofs.Common.{arith}
use Rattle.std.proofs.lemmas.List.{length-take}
use Rattle.load_report.proofs.replaying.answer_record.Goals as goal

pub returns-clause-octets : goal.returns-clause-octets
returns-clause-octets c = omega (arith, c.count.ensures.octets, length-take c.answer-len.result c.answer-len.new.out, c.answer-len.ensures.fits)
