-- One more configuration.
use Rattle.std.proofs.Common.{◌≡◌, ℕ, List, [], ◌∷◌, ◌++◌, Result, Ok, Err, Option, Some, None, IfSome, refl, ap}
use Rattle.toml.specs.Data.{Data, Members, no_members, member}
use Rattle.conf_text.specs.declared.configs.Named.{Named}
use Rattle.conf_text.specs.Faults.{Fault, ◌>>=◌}
use Rattle.conf_text.specs.Configs.{named_of, all_named}

pub named-more : (found : List Named) (name : List ℕ) (d : Data) (ms : Members) (n : Named) → named_of name d ≡ Ok n → all_named found (member name d ms) ≡ all_named (found ++ n ∷ []) ms
unfolding all_named
named-more found name d ms n is = ap (λ r. r >>= (λ m. all_named (found ++ m ∷ []) ms)) is

pub named-stopped : (o : Option Fault) (found : List Named) (name : List ℕ) (d : Data) (ms : Members) → IfSome o (λ f. named_of name d ≡ Err f) → IfSome o (λ f. all_named found (member name d ms) ≡ Err f)
unfolding all_named
named-stopped None found name d ms is = tt
named-stopped (Some f) found name d ms is = ap (λ r. r >>= (λ m. all_named (found ++ m ∷ []) ms)) is

pub named-end : (found : List Named) → all_named found no_members ≡ Ok found
unfolding all_named
named-end found = refl
