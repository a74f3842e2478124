use Rattle.std.proofs.Common.{◌∙◌, ap}
use Rattle.refl_types.specs.Spelling.{block_octets}
use Rattle.tlv_integrity.specs.declared.integrity.Integrity.TheVariants.{Absent, Passed, Failed}
use Rattle.tlv_integrity.specs.Sealing.{sealed}
use Rattle.reflect_core.proofs.Empty.{tail_by, facts_of}
use Rattle.reflect_core.proofs.tails.write_checked.Goals as goal

pub returns-in-Failed-clause-octets : goal.returns-in-Failed-clause-octets
returns-in-Failed-clause-octets c = c.flag_all.ensures ∙ tail_by c.args.mode c.args.config.now (facts_of c.args.number c.args.plan.now) c.args.asked.now c.args.answered.now c.args.tail.now Failed c.in-Failed.ensures.value

pub returns-in-Absent-clause-octets : goal.returns-in-Absent-clause-octets
returns-in-Absent-clause-octets c = c.process.ensures ∙ tail_by c.args.mode c.args.config.now (facts_of c.args.number c.args.plan.now) c.args.asked.now c.args.answered.now c.args.tail.now Absent c.in-Absent.ensures.value

pub returns-in-Passed-clause-octets : goal.returns-in-Passed-clause-octets
returns-in-Passed-clause-octets c =
    c.seal_keyed.ensures
    ∙ ap (sealed (block_octets c.args.config.now.key) c.args.answered.now c.in-Passed.at) c.process-in-Passed.ensures
    ∙ tail_by c.args.mode c.args.config.now (facts_of c.args.number c.args.plan.now) c.args.asked.now c.args.answered.now c.args.tail.now (Passed c.in-Passed.at) c.in-Passed.ensures.value
