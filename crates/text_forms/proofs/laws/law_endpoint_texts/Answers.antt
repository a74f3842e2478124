use Rattle.text_forms.proofs.EndpointFacts.{endpoint-read, endpoint-written}
use Rattle.text_forms.proofs.laws.law_endpoint_texts.Goals as goal

pub returns : goal.returns
returns c = record { read = endpoint-read; written = endpoint-written }
