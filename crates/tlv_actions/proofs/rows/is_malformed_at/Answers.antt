use Rattle.std.proofs.Common.{◌∙◌, sym}
use Rattle.tlv_actions.proofs.Cases.{valid_is, other_is, nine_is}
use Rattle.tlv_actions.proofs.rows.is_malformed_at.Goals as goal

pub returns-then-has_valid_length : goal.returns-then-has_valid_length
returns-then-has_valid_length c = λ p u. valid_is p _ c.args.kind c.args.len (sym c.has_valid_length.ensures ∙ c.if-has_valid_length.true)

pub returns-then-kind-ne-DESTINATION_NODE_ADDRESS : goal.returns-then-kind-ne-DESTINATION_NODE_ADDRESS
returns-then-kind-ne-DESTINATION_NODE_ADDRESS c = λ p u. other_is p _ c.args.kind c.args.len u (sym c.has_valid_length.ensures ∙ c.if-has_valid_length.false) c.if-kind-ne-DESTINATION_NODE_ADDRESS.true

pub returns-else-kind-ne-DESTINATION_NODE_ADDRESS : goal.returns-else-kind-ne-DESTINATION_NODE_ADDRESS
returns-else-kind-ne-DESTINATION_NODE_ADDRESS c = λ p u. c.is_at.ensures ∙ nine_is p _ c.args.kind c.args.len u (sym c.has_valid_length.ensures ∙ c.if-has_valid_length.false) c.if-kind-ne-DESTINATION_NODE_ADDRESS.false
