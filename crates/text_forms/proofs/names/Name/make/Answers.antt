use Rattle.std.proofs.Common.{sym, ◌∙◌}
use Rattle.text_forms.proofs.NameFacts.{kept_written}
use Rattle.text_forms.proofs.names.Name.make.Goals as goal

pub invariant_of-result : goal.invariant_of-result
invariant_of-result c = kept_written c.args.octets.now c.copy_from_slice.new.self (sym c.is_name.ensures ∙ c.if-not-is_name.false) c.copy_from_slice.ensures.after
