-- A tail without octets has a reply without octets.
use Rattle.std.proofs.Common.{◌≡◌, ℕ, ◌∙◌, true, Option, Some, None, List, [], drop, refl, sym, ap, arith}
use Rattle.octet_format.specs.Octets.{field}
use Rattle.refl_types.specs.declared.types.Mode.{Mode}
use Rattle.refl_types.specs.declared.types.Mode.TheVariants.{Plain, Auth, Twamp}
use Rattle.refl_types.specs.declared.config.ConfigParts.{ConfigParts}
use Rattle.tlv_actions.specs.declared.facts.Plan.{Plan}
use Rattle.tlv_chain.specs.Split.{Split, split}
use Rattle.tlv_chain.proofs.SplitFacts.{split_none, no_whole}
use Rattle.tlv_integrity.specs.declared.integrity.Integrity.{Integrity}
use Rattle.tlv_integrity.specs.declared.integrity.Integrity.TheVariants.{Absent}
use Rattle.tlv_integrity.specs.Integrity.{integrity, integrity_under, integrity_of}
use Rattle.tlv_actions.specs.Rows.{Facts}
use Rattle.reflect_core.specs.Ends.{is_intact, has_intact_tail}
use Rattle.reflect_core.specs.Tail.{reply_by, tail_reply}

split_empty : split [] ≡ record { tlvs = []; rest = [] }
split_empty = split_none [] (no_whole [] (omega arith))

of_empty : (mode : Mode) (block sequence : List ℕ) → (let s : Split = record { tlvs = []; rest = [] } in integrity_of mode block sequence [] s) ≡ Absent
of_empty Plain block sequence = refl
of_empty Auth block sequence = refl
of_empty Twamp block sequence = refl

under_empty : (mode : Mode) (key : Option (List ℕ)) (sequence : List ℕ) → integrity_under mode key sequence [] ≡ Absent
under_empty mode None sequence = refl
under_empty mode (Some block) sequence = ap (integrity_of mode block sequence []) split_empty ∙ of_empty mode block sequence

pub integrity_empty : (mode : Mode) (c : ConfigParts) (sequence : List ℕ) → integrity mode c sequence [] ≡ Absent
unfolding integrity
integrity_empty mode c sequence = under_empty mode c.key sequence

pub tail_reply-nil : (mode : Mode) (c : ConfigParts) (facts : Facts) (asked answered : List ℕ) → tail_reply mode c facts asked answered [] ≡ []
unfolding tail_reply
tail_reply-nil mode c facts asked answered =
    ap (λ (i : Integrity). reply_by i c facts answered (split [])) (integrity_empty mode c asked) ∙ ap (λ (s : Split). reply_by Absent c facts answered s) split_empty

abbrev pub facts_of : ℕ → Plan → Facts
facts_of n plan = record { n = n; plan = plan }

pub tail_by : (mode : Mode) (c : ConfigParts) (facts : Facts) (asked answered tail : List ℕ) (i : Integrity) → i ≡ integrity mode c asked tail → reply_by i c facts answered (split tail) ≡ tail_reply mode c facts asked answered tail
unfolding tail_reply
tail_by mode c facts asked answered tail i e = ap (λ (j : Integrity). reply_by j c facts answered (split tail)) e

-- where there is no HMAC key, there is nothing to check
pub integrity_unkeyed : (mode : Mode) (c : ConfigParts) (sequence tail : List ℕ) → c.key ≡ None → integrity mode c sequence tail ≡ Absent
unfolding integrity
integrity_unkeyed mode c sequence tail e = ap (λ (k : Option (List ℕ)). integrity_under mode k sequence tail) e

-- the integrity of a tail without octets hasn't failed
pub intact_empty : (at : ℕ) (mode : Mode) (c : ConfigParts) (octets : List ℕ) → drop at octets ≡ [] → true ≡ has_intact_tail at mode c octets
intact_empty at mode c octets none =
    let asked = field 0 4 octets in
    sym (ap (λ (o : List ℕ). is_intact (integrity mode c asked o)) none ∙ ap is_intact (integrity_empty mode c asked))
