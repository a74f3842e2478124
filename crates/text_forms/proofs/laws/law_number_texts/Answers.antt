use Rattle.text_forms.proofs.NumberFacts.{text-number, number_from-decimal}
use Rattle.std.proofs.Common.{refl, decimal}
use Rattle.text_forms.proofs.laws.law_number_texts.Goals as goal

pub returns : goal.returns
returns c = record {
  read = λ low high n s is. text-number low high n s is;
  written = λ low high n small least most. number_from-decimal low high n (decimal n) small least most refl;
}
