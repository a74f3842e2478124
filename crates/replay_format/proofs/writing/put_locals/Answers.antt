use Rattle.std.proofs.Common.{take, arith}
use Rattle.std.specs.List.{flat_map}
use Rattle.std.proofs.lemmas.List.{length-append}
use Rattle.refl_types.specs.Spelling.{endpoint_octets}
use Rattle.octet_format.proofs.Fields.{has_front}
use Rattle.replay_format.proofs.WritingFacts.{none_yet, one_more, all_written}
use Rattle.replay_format.proofs.writing.put_locals.Goals as goal

pub loop-i-init : goal.loop-i-init
loop-i-init c = none_yet c.args.out.now c.args.at (omega (arith, c.requires))

pub loop-i-preserved : goal.loop-i-preserved
loop-i-preserved c = one_more (take c.args.at c.args.out.now) c.args.out.now c.loop-i.out c.args.locals.now c.args.at c.loop-i.i _ c.endpoint_octets.result c.put.new.out c.loop-i.invariant c.loop-i-test.true c.endpoint_octets.ensures.value c.endpoint_octets.ensures.len c.put.ensures

pub returns-clause-octets : goal.returns-clause-octets
returns-clause-octets c = (all_written (take c.args.at c.args.out.now) c.args.out.now c.loop-i.out c.args.locals.now c.args.at c.loop-i.i c.loop-i.invariant c.loop-i.auto.i-end c.loop-i-test.false).parts

pub returns-clause-len : goal.returns-clause-len
returns-clause-len c =
    let old = c.args.out.now in
    let whole = all_written (take c.args.at old) old c.loop-i.out c.args.locals.now c.args.at c.loop-i.i c.loop-i.invariant c.loop-i.auto.i-end c.loop-i-test.false in
    omega (arith, whole.len, length-append (take c.args.at old) (flat_map endpoint_octets c.args.locals.now), (has_front old c.args.at (omega (arith, c.requires))).len)
