-- Where neither type of RFC 9503 is understood, a reply is as under no plan, between the usual ends.
use Rattle.std.proofs.Common.{◌≡◌, inl, inr, ℕ, ◌+◌, ◌≤◌, ◌∙◌, Bool, true, false, if◌then◌else◌, ◌||◌, ◌&&◌, Option, None, List, [], ◌∷◌, ◌++◌, length, drop, refl, sym, ap}
use Rattle.std.specs.Int.{w32, to_be_bytes}
use Rattle.octet_format.specs.Octets.{field}
use Rattle.refl_types.specs.declared.types.Mode.{Mode}
use Rattle.refl_types.specs.declared.types.Mode.TheVariants.{Plain, Auth, Twamp}
use Rattle.refl_types.specs.declared.outcome.Silent.TheVariants.{NoReply}
use Rattle.refl_types.specs.declared.types.Endpoint.{Endpoint}
use Rattle.refl_types.specs.declared.types.Extra.{Extra}
use Rattle.refl_types.specs.declared.types.Meta.{Meta}
use Rattle.refl_types.specs.declared.config.ConfigParts.{ConfigParts}
use Rattle.refl_types.specs.Spelling.{block_octets}
use Rattle.stamp_packet.specs.Plain.{plain_reply, sender_of}
use Rattle.tlv_chain.specs.Tlv.{Tlv, tlv_octets, tlvs_octets}
use Rattle.tlv_chain.specs.Split.{Split, split}
use Rattle.tlv_actions.specs.declared.facts.Plan.{Plan}
use Rattle.tlv_actions.specs.Rows.{Facts, is_understood, is_malformed_at, reply_tlv}
use Rattle.tlv_actions.specs.Planned.{no_reply}
use Rattle.tlv_actions.proofs.Plans.{usual_plan, planned_usual, with_ends, reply_tlv-ends, no_reply_usual}
use Rattle.tlv_integrity.specs.declared.integrity.Integrity.{Integrity}
use Rattle.tlv_integrity.specs.declared.integrity.Integrity.TheVariants.{Absent, Passed, Failed}
use Rattle.tlv_integrity.specs.Integrity.{integrity}
use Rattle.tlv_integrity.specs.Sealing.{sealed}
use Rattle.reflect_core.specs.declared.ends.Ends.{Ends}
use Rattle.reflect_core.specs.declared.session.Draw.{Draw}
use Rattle.reflect_core.specs.declared.judging.Judged.{Judged}
use Rattle.reflect_core.specs.declared.judging.Judged.TheVariants.{Reflect, Silent}
use Rattle.reflect_core.specs.Judgement.{IsUsual, judged_length, judged_base, judged_tail, judged_behind, and_then, judgement}
use Rattle.reflect_core.specs.Arrived.{Arrived}
use Rattle.reflect_core.specs.Base.{reply_base}
use Rattle.reflect_core.specs.Ends.{has_intact_tail, may_redirect, usual_ends, planned_ends, plan_after, ends_after}
use Rattle.reflect_core.specs.Tail.{processed, reply_by, tail_reply}
use Rattle.reflect_core.specs.Reflection.{plain_reflection, test_reflection, reflection, IsReply, WritesPlain, WritesTest}
use Rattle.reflect_core.proofs.Modes.{plain_is, test_is, plain_ends, test_ends, replied}

-- ---- the TLVs of a reply don't tell its ends

module _ (c : ConfigParts) (n from : ℕ) (to : Endpoint) (p : Plan) where
  abbrev other : Facts
  other = record { n = n; plan = with_ends from to p }

  abbrev facts : Facts
  facts = record { n = n; plan = p }

  processed-ends : (at : ℕ) (ts : List Tlv) (rest : List ℕ) → processed c other at ts rest ≡ processed c facts at ts rest
  processed-ends at [] rest = refl
  processed-ends at (t ∷ ts) rest =
      ap (λ (u : Tlv). tlv_octets u ++ (if is_malformed_at c p at t then tlvs_octets ts ++ rest else processed c other (at + 4 + length t.value) ts rest)) (reply_tlv-ends c n from to p at t)
      ∙ ap (λ (o : List ℕ). tlv_octets (reply_tlv c facts at t) ++ (if is_malformed_at c p at t then tlvs_octets ts ++ rest else o)) (processed-ends (at + 4 + length t.value) ts rest)

  reply_by-ends : (i : Integrity) (answered : List ℕ) (s : Split) → reply_by i c other answered s ≡ reply_by i c facts answered s
  reply_by-ends Failed answered s = refl
  reply_by-ends Absent answered s = processed-ends 0 s.tlvs s.rest
  reply_by-ends (Passed at) answered s = ap (sealed (block_octets c.key) answered at) (processed-ends 0 s.tlvs s.rest)

  tail_reply-ends : (mode : Mode) (asked answered tail : List ℕ) → tail_reply mode c other asked answered tail ≡ tail_reply mode c facts asked answered tail
  unfolding tail_reply
  tail_reply-ends mode asked answered tail = reply_by-ends (integrity mode c asked tail) answered (split tail)

-- ---- no place is told

pub record HasNoPlaces (p : Plan) : Type 0 where
  pub nine : p.nine ≡ None
  pub own_at : p.own_at ≡ None
  pub path_at : p.path_at ≡ None

abbrev with_places : ℕ → Endpoint → Option ℕ → Option ℕ → Option ℕ → Plan
with_places from to nine own_at path_at = record { from = from; to = to; nine = nine; own_at = own_at; path_at = path_at }

usual_is : (d : Meta) (p : Plan) → HasNoPlaces p → with_ends d.local d.peer p ≡ usual_plan d
usual_is d p none =
    ap (λ (x : Option ℕ). with_places d.local d.peer x p.own_at p.path_at) none.nine
    ∙ ap (λ (x : Option ℕ). with_places d.local d.peer None x p.path_at) none.own_at
    ∙ ap (λ (x : Option ℕ). with_places d.local d.peer None None x) none.path_at

abbrev NeitherUnderstood : ConfigParts → Type 0
NeitherUnderstood c = (is_understood c 9 || is_understood c 10) ≡ false

plan_is : (len : ℕ) (c : ConfigParts) (d : Arrived) (p : Plan) → NeitherUnderstood c → HasNoPlaces p → with_ends d.meta.local d.meta.peer p ≡ plan_after len c d
plan_is len c d p neither none = usual_is d.meta p none ∙ sym (planned_usual c d.locals d.meta (drop len d.octets) neither)

pub plain_usual : (c : ConfigParts) (draw : Draw) (d : Arrived) (p : Plan) → NeitherUnderstood c → HasNoPlaces p → plain_reflection c p draw d ≡ plain_reflection c (plan_after 44 c d) draw d
plain_usual c draw d p neither none =
    let base = reply_base c draw d.meta (sender_of d.octets) in
    ap (λ (o : List ℕ). plain_reply base ++ o) (sym (tail_reply-ends c draw.number d.meta.local d.meta.peer p Plain (field 0 4 d.octets) (to_be_bytes w32 base.sequence) (drop 44 d.octets)))
    ∙ ap (λ (x : Plan). plain_reflection c x draw d) (plan_is 44 c d p neither none)

-- ---- the ends

either : (b : Bool) (x y : Ends) → x ≡ y → y ≡ (if b then x else y)
either true x y e = sym e
either false x y e = refl

pub ends_usual : (len : ℕ) (mode : Mode) (c : ConfigParts) (d : Arrived) → NeitherUnderstood c → usual_ends d.meta ≡ ends_after len mode c d
ends_usual len mode c d neither =
    either (has_intact_tail len mode c d.octets) (planned_ends (plan_after len c d)) (usual_ends d.meta) (ap planned_ends (planned_usual c d.locals d.meta (drop len d.octets) neither))

-- ---- whether it is reflected

tail_if : (a b : Bool) → a ≡ false → (if a && b then Silent NoReply else Reflect) ≡ Reflect
tail_if true b e = absurd cc
tail_if false b e = refl

then_reflect : (j t : Judged) → t ≡ Reflect → j ≡ and_then j t
then_reflect Reflect t e = sym e
then_reflect (Silent cause) t e = refl

judged_usual_tail : (len : ℕ) (mode : Mode) (c : ConfigParts) (octets : List ℕ) → NeitherUnderstood c → judged_tail len mode c octets ≡ Reflect
judged_usual_tail len mode c octets neither = tail_if (no_reply c (drop len octets)) (has_intact_tail len mode c octets) (no_reply_usual c (drop len octets) neither)

judged_usual_behind : (mode : Mode) (c : ConfigParts) (octets : List ℕ) → NeitherUnderstood c → judged_behind mode c octets ≡ Reflect
judged_usual_behind Plain c octets neither = judged_usual_tail 44 Plain c octets neither
judged_usual_behind Auth c octets neither = judged_usual_tail 112 Auth c octets neither
judged_usual_behind Twamp c octets neither = refl

pub judged_usual : (mode : Mode) (c : ConfigParts) (octets : List ℕ) → NeitherUnderstood c → judged_base mode c octets ≡ judgement mode c octets
judged_usual mode c octets neither = then_reflect (judged_base mode c octets) (judged_behind mode c octets) (judged_usual_behind mode c octets neither)

pub judged_test : (mode : Mode) (c : ConfigParts) (octets : List ℕ) → mode ≡ Twamp → judged_length 14 octets ≡ judgement mode c octets
judged_test mode c octets e = then_reflect (judged_length 14 octets) Reflect refl ∙ ap (λ (m : Mode). judgement m c octets) (sym e)

plain_base : (mode : Mode) (c : ConfigParts) (octets : List ℕ) → mode ≡ Plain → judged_length 44 octets ≡ judged_base mode c octets
plain_base mode c octets e = rw e refl

pub judged_usual_plain : (mode : Mode) (c : ConfigParts) (octets : List ℕ) → mode ≡ Plain → NeitherUnderstood c → judged_length 44 octets ≡ judgement mode c octets
judged_usual_plain mode c octets e neither = plain_base mode c octets e ∙ judged_usual mode c octets neither

-- ---- the reply

-- a usual session of another mode than Twamp is of mode Plain, and no tail redirects its replies
pub usual_plain : (mode : Mode) (c : ConfigParts) → IsUsual mode c → (mode ≡ Twamp → ⊥) → (mode ≡ Plain) × (may_redirect c ≡ false)
usual_plain mode c (inl test) other = absurd (other test)
usual_plain mode c (inr plain) other = plain

pub replied_test : (mode : Mode) (x : Extra) (c : ConfigParts) (draw : Draw) (d : Arrived) (len : ℕ) (old new : List ℕ) → mode ≡ Twamp → len ≤ length old → length new ≡ length old → WritesTest x c draw d len old new
    → IsReply (reflection mode x c draw d) d.meta (record { elsewhere = None; len = len }) old new
replied_test mode x c draw d len old new test room kept writes =
    let ends = test_ends mode c d test in
    replied (reflection mode x c draw d) d.meta (record { elsewhere = None; len = len }) (usual_ends d.meta) old new (test_reflection x c draw d) len refl refl
    (ap (λ (e : Ends). e.from) ends) (ap (λ (e : Ends). e.to) ends) writes (test_is mode x c draw d test) kept room

pub replied_usual : (mode : Mode) (x : Extra) (c : ConfigParts) (draw : Draw) (d : Arrived) (p : Plan) (old new : List ℕ) → mode ≡ Plain → NeitherUnderstood c → HasNoPlaces p
    → length d.octets ≤ length old → length new ≡ length old → WritesPlain c p draw d old new
    → IsReply (reflection mode x c draw d) d.meta (record { elsewhere = None; len = length d.octets }) old new
replied_usual mode x c draw d p old new plain usual none room kept writes =
    let n : ℕ = length d.octets in
    let ends = ends_usual 44 Plain c d usual ∙ plain_ends mode c d plain in
    replied (reflection mode x c draw d) d.meta (record { elsewhere = None; len = n }) (usual_ends d.meta) old new (plain_reflection c (plan_after 44 c d) draw d) n refl refl
    (ap (λ (e : Ends). e.from) ends) (ap (λ (e : Ends). e.to) ends)
    (writes ∙ ap (λ (o : List ℕ). o ++ drop n old) (plain_usual c draw d p usual none))
    (plain_is mode x c draw d plain) kept room
