use Rattle.std.proofs.Common.{◌≡◌, ℕ, List, length, ◌∙◌, ap, sym, subst, take, drop, arith}
use Rattle.std.specs.Int.{w64, from_be_bytes}
use Rattle.refl_types.specs.declared.types.Address.{Address}
use Rattle.refl_types.specs.declared.types.Address.TheVariants.{V4}
use Rattle.refl_types.specs.Spelling.{address_octets, FitsAddress}
use Rattle.session_key.proofs.AddressFacts.{v4_first, v4_second}
use Rattle.session_key.proofs.words.address_words.Goals as goal

of_four : (octets : List ℕ) (a : Address) → a ≡ V4 octets → FitsAddress a → length octets ≡ 4
of_four octets a is fits = (subst FitsAddress is fits).0

pub returns-in-V4-clause-first : goal.returns-in-V4-clause-first
returns-in-V4-clause-first c =
    v4_first c.in-V4.octets c.from.result (of_four c.in-V4.octets c.args.address.now c.in-V4.is c.address_fits.ensures) (omega (arith, c.from.ensures, c.from_be_bytes.type_inv)) (c.from.ensures ∙ c.from_be_bytes.ensures)
    ∙ ap (λ (a : Address). from_be_bytes w64 (take 8 (address_octets a))) (sym c.in-V4.is)

pub returns-in-V4-clause-second : goal.returns-in-V4-clause-second
returns-in-V4-clause-second c =
    v4_second c.in-V4.octets (of_four c.in-V4.octets c.args.address.now c.in-V4.is c.address_fits.ensures)
    ∙ ap (λ (a : Address). from_be_bytes w64 (drop 8 (address_octets a))) (sym c.in-V4.is)
