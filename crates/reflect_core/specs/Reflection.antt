-- The reflection of a datagram (RFC 8762, section 4.3; RFC 8972; RFC 9503; RFC 5357, section 4.2; RFC 6038).
use Rattle.std.specs.Prelude.{◌≡◌, ℕ, List, ◌++◌, length, drop}
use Rattle.refl_types.specs.declared.types.Mode.{Mode}
use Rattle.refl_types.specs.declared.types.Mode.TheVariants.{Plain, Auth, Twamp}
use Rattle.refl_types.specs.declared.types.Endpoint.{Endpoint}
use Rattle.refl_types.specs.declared.types.Meta.{Meta}
use Rattle.refl_types.specs.declared.types.Extra.{Extra}
use Rattle.refl_types.specs.declared.config.ConfigParts.{ConfigParts}
use Rattle.refl_types.specs.Spelling.{block_octets}
use Rattle.stamp_packet.specs.declared.fields.ReplyBase.{ReplyBase}
use Rattle.stamp_packet.specs.Plain.{sender_of, plain_reply}
use Rattle.stamp_auth.specs.Request.{auth_sender_of}
use Rattle.stamp_auth.specs.Reply.{auth_reply}
use Rattle.twamp_test.specs.Request.{test_sender_of}
use Rattle.twamp_test.specs.Reply.{test_reply}
use Rattle.tlv_actions.specs.declared.facts.Plan.{Plan}
use Rattle.tlv_actions.specs.Rows.{Facts}
use Rattle.reflect_core.specs.declared.session.Draw.{Draw}
use Rattle.reflect_core.specs.declared.reflecting.Reply.{Reply}
use Rattle.reflect_core.specs.Arrived.{Arrived}
use Rattle.reflect_core.specs.Base.{reply_base}
use Rattle.reflect_core.specs.Ends.{plan_after, ends_of, ends_told}
use Rattle.reflect_core.specs.Tail.{tail_after}

-- ---- the octets, from the fields of the base packet

abbrev pub plain_octets : ConfigParts → Facts → ReplyBase → List ℕ → List ℕ
plain_octets c facts base octets = plain_reply base ++ tail_after 44 Plain c facts base.sequence octets

abbrev pub auth_octets : ConfigParts → Facts → ReplyBase → List ℕ → List ℕ
auth_octets c facts base octets = auth_reply (block_octets c.key) base ++ tail_after 112 Auth c facts base.sequence octets

-- under a plan
abbrev pub plain_reflection : ConfigParts → Plan → Draw → Arrived → List ℕ
plain_reflection c plan draw d =
    plain_octets c (record { n = draw.number; plan = plan }) (reply_base c draw d.meta (sender_of d.octets)) d.octets

abbrev pub auth_reflection : ConfigParts → Plan → Draw → Arrived → List ℕ
auth_reflection c plan draw d =
    auth_octets c (record { n = draw.number; plan = plan }) (reply_base c draw d.meta (auth_sender_of d.octets)) d.octets

abbrev pub test_reflection : Extra → ConfigParts → Draw → Arrived → List ℕ
test_reflection x c draw d = test_reply x (reply_base c draw d.meta (test_sender_of d.octets)) d.octets

unfoldable pub reflected_octets : Mode → Extra → ConfigParts → Draw → Arrived → List ℕ
reflected_octets Plain x c draw d = plain_reflection c (plan_after 44 c d) draw d
reflected_octets Auth x c draw d = auth_reflection c (plan_after 112 c d) draw d
reflected_octets Twamp x c draw d = test_reflection x c draw d

-- ---- a buffer that begins with the reply of each mode, and is as before past its length

abbrev pub WritesPlain : ConfigParts → Plan → Draw → Arrived → List ℕ → List ℕ → Type 0
WritesPlain c plan draw d old new = new ≡ plain_reflection c plan draw d ++ drop (length d.octets) old

abbrev pub WritesAuth : ConfigParts → Plan → Draw → Arrived → List ℕ → List ℕ → Type 0
WritesAuth c plan draw d old new = new ≡ auth_reflection c plan draw d ++ drop (length d.octets) old

abbrev pub WritesTest : Extra → ConfigParts → Draw → Arrived → ℕ → List ℕ → List ℕ → Type 0
WritesTest x c draw d len old new = new ≡ test_reflection x c draw d ++ drop len old

-- ---- a reply: from which local address, to whom, and its octets

pub record Reflected : Type 0 where
  pub from : ℕ
  pub to : Endpoint
  pub octets : List ℕ

-- of a datagram in a session of a mode, with an extra and a configuration, under the number that was drawn and the moment of
-- sending
abbrev pub reflection : Mode → Extra → ConfigParts → Draw → Arrived → Reflected
reflection mode x c draw d = record {
  from = (ends_of mode c d).from;
  to = (ends_of mode c d).to;
  octets = reflected_octets mode x c draw d;
}

-- A reply to a datagram of which this is told was written to the front of a buffer. All other octets are as before.
pub record IsReply (r : Reflected) (m : Meta) (reply : Reply) (old new : List ℕ) : Type 0 where
  pub from : (ends_told reply.elsewhere m).from ≡ r.from
  pub to : (ends_told reply.elsewhere m).to ≡ r.to
  pub len : reply.len ≡ length r.octets
  pub octets : new ≡ r.octets ++ drop reply.len old
