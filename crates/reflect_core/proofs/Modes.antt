-- The reply of each mode.
use Rattle.std.proofs.Common.{◌≡◌, ℕ, ◌≤◌, ◌∙◌, Bool, true, false, if◌then◌else◌, ltb, Result, Ok, Err, Option, Some, List, ◌++◌, length, drop, refl, sym, ap, arith}
use Rattle.std.proofs.lemmas.Bool.Decides.{nat_tests}
use Rattle.octet_format.proofs.Fields.{length_written}
use Rattle.refl_types.specs.declared.types.Mode.{Mode}
use Rattle.refl_types.specs.declared.types.Mode.TheVariants.{Plain, Auth, Twamp}
use Rattle.refl_types.specs.declared.types.Extra.{Extra}
use Rattle.refl_types.specs.declared.types.Meta.{Meta}
use Rattle.refl_types.specs.declared.config.ConfigParts.{ConfigParts}
use Rattle.refl_types.specs.Spelling.{block_octets}
use Rattle.stamp_packet.specs.declared.fields.SenderBase.{SenderBase}
use Rattle.stamp_packet.specs.declared.fields.ReplyBase.{ReplyBase}
use Rattle.stamp_packet.specs.declared.fields.Short.{Short}
use Rattle.stamp_packet.specs.Plain.{read_of, sender_of}
use Rattle.twamp_test.specs.Request.{test_sender_of}
use Rattle.twamp_test.specs.Request as tests
use Rattle.reflect_core.specs.declared.session.Draw.{Draw}
use Rattle.reflect_core.specs.declared.reflecting.Reply.{Reply}
use Rattle.reflect_core.specs.Base.{reply_base}
use Rattle.reflect_core.specs.declared.ends.Ends.{Ends}
use Rattle.reflect_core.specs.Arrived.{Arrived}
use Rattle.reflect_core.specs.Ends.{usual_ends, plan_after, ends_after, ends_of, ends_told}
use Rattle.reflect_core.specs.Reflection.{Reflected, IsReply, plain_reflection, auth_reflection, test_reflection, reflected_octets}

-- ---- what was read

ok_of : (b : Bool) (x : Short) (y s : SenderBase) → b ≡ false → (let r : Result SenderBase Short = if b then Err x else Ok y in r) ≡ Ok s → s ≡ y
ok_of true x y s n e = absurd cc
ok_of false x y s n e = let f : ◌≡◌ {A = Result SenderBase Short} (Ok y) (Ok s) = e in cc

not_less : (a b : ℕ) → b ≤ a → ltb a b ≡ false
not_less a b le = grind (arith, nat_tests)

pub test_read_ok : (octets : List ℕ) (s : SenderBase) → 14 ≤ length octets → tests.read_of octets ≡ Ok s → s ≡ test_sender_of octets
test_read_ok octets s le e = ok_of (ltb (length octets) 14) (record {}) (test_sender_of octets) s (not_less (length octets) 14 le) e

pub read_ok : (octets : List ℕ) (s : SenderBase) → 44 ≤ length octets → read_of octets ≡ Ok s → s ≡ sender_of octets
read_ok octets s le e = ok_of (ltb (length octets) 44) (record {}) (sender_of octets) s (not_less (length octets) 44 le) e

-- ---- the fields of a reply

pub base_is : (p c : ConfigParts) (draw : Draw) (m : Meta) (s s' : SenderBase) (base : ReplyBase) → base ≡ reply_base p draw m s → p ≡ c → s ≡ s' → base ≡ reply_base c draw m s'
base_is p c draw m s s' base e same sender = e ∙ ap (λ (q : ConfigParts). reply_base q draw m s) same ∙ ap (reply_base c draw m) sender

pub block_is : (key : Option (List ℕ)) (block : List ℕ) → key ≡ Some block → block ≡ block_octets key
block_is key block e = sym (ap block_octets e)

-- ---- the reply by mode

-- what is written, between which ends
pub replied : (r : Reflected) (m : Meta) (reply : Reply) (ends : Ends) (old new octets : List ℕ) (len : ℕ) → ends_told reply.elsewhere m ≡ ends → reply.len ≡ len → ends.from ≡ r.from → ends.to ≡ r.to → new ≡ octets ++ drop len old → octets ≡ r.octets → length new ≡ length old → len ≤ length old → IsReply r m reply old new
replied r m reply ends old new octets len told end_ of_from of_to e is kept le =
    let all : new ≡ r.octets ++ drop len old = e ∙ ap (λ (x : List ℕ). x ++ drop len old) is in
    record {
      from = ap (λ (x : Ends). x.from) told ∙ of_from;
      to = ap (λ (x : Ends). x.to) told ∙ of_to;
      len = end_ ∙ sym (length_written r.octets old new len all kept le);
      octets = all ∙ ap (λ (n : ℕ). r.octets ++ drop n old) (sym end_);
    }

pub plain_is : (mode : Mode) (x : Extra) (c : ConfigParts) (draw : Draw) (d : Arrived) → mode ≡ Plain → plain_reflection c (plan_after 44 c d) draw d ≡ reflected_octets mode x c draw d
unfolding reflected_octets
plain_is mode x c draw d e = rw e refl

pub auth_is : (mode : Mode) (x : Extra) (c : ConfigParts) (draw : Draw) (d : Arrived) → mode ≡ Auth → auth_reflection c (plan_after 112 c d) draw d ≡ reflected_octets mode x c draw d
unfolding reflected_octets
auth_is mode x c draw d e = rw e refl

pub test_is : (mode : Mode) (x : Extra) (c : ConfigParts) (draw : Draw) (d : Arrived) → mode ≡ Twamp → test_reflection x c draw d ≡ reflected_octets mode x c draw d
unfolding reflected_octets
test_is mode x c draw d e = rw e refl

pub plain_ends : (mode : Mode) (c : ConfigParts) (d : Arrived) → mode ≡ Plain → ends_after 44 Plain c d ≡ ends_of mode c d
unfolding ends_of
plain_ends mode c d e = rw e refl

pub auth_ends : (mode : Mode) (c : ConfigParts) (d : Arrived) → mode ≡ Auth → ends_after 112 Auth c d ≡ ends_of mode c d
unfolding ends_of
auth_ends mode c d e = rw e refl

pub test_ends : (mode : Mode) (c : ConfigParts) (d : Arrived) → mode ≡ Twamp → usual_ends d.meta ≡ ends_of mode c d
unfolding ends_of
test_ends mode c d e = rw e refl
