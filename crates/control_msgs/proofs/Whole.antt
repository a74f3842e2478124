-- A message of fields that were written one after the other, with nothing left over.
use Rattle.std.proofs.Common.{◌≡◌, ℕ, List, ◌++◌, length, ap, ◌∙◌, arith}
use Rattle.std.proofs.lemmas.List.{append-nil, drop_all}
use Rattle.octet_format.proofs.Fields.{Has}

pub whole : (front old cur : List ℕ) (n : ℕ) → Has front old cur n → length old ≡ n → cur ≡ front
whole front old cur n has len = has.parts ∙ ap (λ (l : List ℕ). front ++ l) (drop_all n old (omega (arith, len))) ∙ append-nil front
