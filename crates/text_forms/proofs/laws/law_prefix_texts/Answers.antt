use Rattle.text_forms.proofs.EndpointFacts.{prefix-read, prefix-written}
use Rattle.text_forms.proofs.laws.law_prefix_texts.Goals as goal

pub returns : goal.returns
returns c = record { read = prefix-read; written = prefix-written }
