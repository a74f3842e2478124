use Rattle.std.proofs.Common.{◌∙◌}
use Rattle.tlv_actions.proofs.SubTlvs.{path_is}
use Rattle.tlv_actions.proofs.planning.usable_path.Goals as goal

pub returns-in_err-to : goal.returns-in_err-to
returns-in_err-to c =
    c.from_residual-in_err-to.ensures ∙ path_is c.args.parts.now c.args.tail.now c.value_at-value.result.now c.value_at.result.now c.in_ok-span.span c.in_ok-sub.sub c.value_at-value.ensures c.value_at.ensures c.in_ok-span.ensures.is c.in_ok-sub.ensures.is c.args.peer.now _ (c.in_err-to.ensures c.in_ok-sub.sub.flags)

pub returns : goal.returns
returns c = path_is c.args.parts.now c.args.tail.now c.value_at-value.result.now c.value_at.result.now c.in_ok-span.span c.in_ok-sub.sub c.value_at-value.ensures c.value_at.ensures c.in_ok-span.ensures.is c.in_ok-sub.ensures.is c.args.peer.now _ (c.in_ok-to.ensures c.in_ok-sub.sub.flags)
