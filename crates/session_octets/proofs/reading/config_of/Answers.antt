use Rattle.std.proofs.Common.{◌≡◌, List, ℕ, [], ◌++◌, length, Ok, Err, Bool, true, false, cond, sym, ap, subst, ◌∙◌, arith}
use Rattle.std.proofs.lemmas.List.{append-nil, length-append, nil_from_length}
use Rattle.refl_types.specs.declared.config.ConfigParts.{ConfigParts}
use Rattle.refl_types.specs.declared.config.ConfigFault.TheVariants.{ZeroMultiplier, ScaleTooLarge, UnknownTlv}
use Rattle.refl_types.specs.Configs.{config_made}
use Rattle.refl_types.specs.Spelling.{config_octets, FitsConfig}
use Rattle.session_octets.specs.Reading.{config_at}
use Rattle.octet_format.proofs.Obeys.{ok_err}
use Rattle.session_octets.proofs.Formats.{config_obeys, config_octets_length}
use Rattle.session_octets.proofs.reading.config_of.Goals as goal

-- what is made is what it is made of
made_of : (p c : ConfigParts) → config_made p ≡ Ok c → p ≡ c
made_of p c e = by_tests _ _ _ e
  where
    by_tests : (a b d : Bool) → cond a (Err ZeroMultiplier) (cond b (Err ScaleTooLarge) (cond d (Err UnknownTlv) (Ok p))) ≡ Ok c → p ≡ c
    by_tests true b d f = absurd cc
    by_tests false true d f = absurd cc
    by_tests false false true f = absurd cc
    by_tests false false false f = cc

pub returns-in-Ok-make-clause-some : goal.returns-in-Ok-make-clause-some
returns-in-Ok-make-clause-some c =
    let octets = c.args.octets.now in
    let p : ConfigParts = c.in-Ok.parts in
    let rest = c.in-Ok.field-0-1.now in
    let g = config_obeys.got octets p rest c.fits-octets c.in-Ok.ensures.value in
    let len = config_octets_length p g.1 in
    let none : rest ≡ [] = nil_from_length rest (omega (arith, ap length g.0, length-append (config_octets p) rest, len, c.told-octets)) in
    let same : p ≡ c.in-Ok-make.config = made_of p c.in-Ok-make.config (sym c.in-Ok-make.ensures) in
    subst (λ (x : ConfigParts). FitsConfig x × (octets ≡ config_octets x)) same (g.1, g.0 ∙ ap (λ (l : List ℕ). config_octets p ++ l) none ∙ append-nil (config_octets p))

pub returns-in-Err-clause-none : goal.returns-in-Err-clause-none
returns-in-Err-clause-none c = λ _ p fits same.
    let read : config_at c.args.octets.now ≡ Ok (p, []) = ap config_at (same ∙ sym (append-nil (config_octets p))) ∙ config_obeys.again p [] fits in
    ok_err (p, []) c.in-Err.field-0 (sym read ∙ c.in-Err.ensures.value)
