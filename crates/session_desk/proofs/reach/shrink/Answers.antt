use Rattle.std.proofs.Common.{◌∙◌, sym, arith}
use Rattle.session_desk.proofs.Walking.{nearer}
use Rattle.session_desk.proofs.reach.shrink.Goals as goal

pub loop-far-preserved : goal.loop-far-preserved
loop-far-preserved c = let i = c.loop-far.invariant in (
  (let le = i.0 in omega (arith, le)),
  (λ z e r j lj t s. nearer c.law_walks.ensures z c.args.slots.now c.args.start c.slot_after.result c.loop-far.far j e c.requires.inside c.slot_after.ensures.range c.slot_after.ensures.distance c.loop-far-test.true (sym c.starts_at.ensures ∙ c.if-not-starts_at.true) lj t s (i.1 z e r j lj t s)),
)
