use Rattle.std.proofs.Common.{refl, ap, ◌∙◌}
use Rattle.std.proofs.lemmas.List.{take_all}
use Rattle.session_key.proofs.PlaceLaws.{fnv_more}
use Rattle.session_key.specs.Placing.{fnv_from}
use Rattle.session_key.proofs.placing.fnv_from.Goals as goal

pub loop-octet-init : goal.loop-octet-init
unfolding fnv_from
loop-octet-init c = refl

pub loop-octet-preserved : goal.loop-octet-preserved
loop-octet-preserved c = fnv_more c.args.start c.loop-octet.hash c.from.result c.args.octets.now c.loop-octet.octet-index c.loop-octet-test.true c.loop-octet.invariant c.from.ensures

pub returns : goal.returns
returns c = c.loop-octet.invariant ∙ ap (fnv_from c.args.start) (take_all c.loop-octet.octet-index c.args.octets.now c.loop-octet-test.false)
