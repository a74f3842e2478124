use Rattle.std.proofs.Common.{◌∙◌, sym}
use Rattle.tlv_integrity.proofs.Cases.{without_key, with_key}
use Rattle.tlv_integrity.proofs.integrity.check_keyed.Goals as goal

pub returns-in-None-clause-value : goal.returns-in-None-clause-value
returns-in-None-clause-value c = without_key c.args.mode c.args.config.now c.args.sequence.now c.args.tail.now (sym c.hmac_key.ensures ∙ c.in-None.is)

pub returns-in-Some-clause-value : goal.returns-in-Some-clause-value
returns-in-Some-clause-value c =
    c.check_under.ensures.value ∙ with_key c.args.mode c.args.config.now _ c.args.sequence.now c.args.tail.now (sym c.hmac_key.ensures ∙ c.in-Some.is)
