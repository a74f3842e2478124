use Rattle.std.proofs.Common.{◌≡◌, ◌*◌, ◌%◌, ◌^◌, ◌<◌, ◌≤◌, ℕ, arith, bit_or, ap, subst, sym, true}
use Rattle.refl_types.specs.Configs.{are_known_tlvs}
use Rattle.conf_text.proofs.TlvFacts.{supported-small, known-more, bit-fits}
use Rattle.conf_text.proofs.configs.with_type.Goals as goal

pub overflow_shl-result : goal.overflow_shl-result
overflow_shl-result c = omega (arith, supported-small c.args.tlv c.requires)

pub returns : goal.returns
returns c =
    let bit : 1 * 2 ^ c.args.tlv % 4294967296 ≡ 2 ^ c.args.tlv = bit-fits c.args.tlv (supported-small c.args.tlv c.requires) in
    record {
      value = ap (bit_or c.args.found) bit;
      known = λ known. subst (λ (n : ℕ). are_known_tlvs (bit_or c.args.found n) ≡ true) (sym bit) (known-more c.args.found c.args.tlv c.requires known);
    }
