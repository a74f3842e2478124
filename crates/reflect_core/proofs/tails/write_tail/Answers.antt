use Rattle.std.proofs.Common.{◌∙◌, sym, ap}
use Rattle.tlv_integrity.specs.declared.integrity.Integrity.TheVariants.{Absent}
use Rattle.reflect_core.specs.Ends.{is_intact}
use Rattle.reflect_core.proofs.Empty.{tail_by, facts_of, integrity_unkeyed}
use Rattle.reflect_core.proofs.tails.write_tail.Goals as goal

pub returns-in-None-clause-octets : goal.returns-in-None-clause-octets
returns-in-None-clause-octets c =
    c.process.ensures
    ∙ tail_by c.args.mode c.args.config.now (facts_of c.args.number c.args.plan.now) c.args.asked.now c.args.answered.now c.args.tail.now Absent
    (sym (integrity_unkeyed c.args.mode c.args.config.now c.args.asked.now c.args.tail.now (sym c.hmac_key.ensures ∙ c.in-None.is)))

pub returns-in-None-clause-intact : goal.returns-in-None-clause-intact
returns-in-None-clause-intact c = sym (ap is_intact (integrity_unkeyed c.args.mode c.args.config.now c.args.asked.now c.args.tail.now (sym c.hmac_key.ensures ∙ c.in-None.is)))
