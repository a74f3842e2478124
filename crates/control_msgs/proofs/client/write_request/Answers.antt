use Rattle.std.proofs.Common.{ℕ, [], ◌∷◌, ◌≡◌, length, replicate, ap, arith, refl}
use Rattle.std.specs.Int.{w16, to_be_bytes}
use Rattle.octet_format.proofs.Fields.{has_none, has_more}
use Rattle.control_msgs.specs.Layout.{address_field, ip_version, request_message}
use Rattle.control_msgs.proofs.Whole.{whole}
use Rattle.control_msgs.proofs.ReadAgain.{read_again}
use Rattle.control_msgs.proofs.client.write_request.Goals as goal

pub returns-clause-fields : goal.returns-clause-fields
unfolding request_message
returns-clause-fields c =
    let r = c.args.request.now in
    let sender : length (address_field r.sender) ≡ 16 = omega (arith, ap length c.address_field.ensures) in
    let receiver : length (address_field r.receiver) ≡ 16 = omega (arith, ap length c.address_field-2.ensures) in
    let s0 = has_none c.args.out.now in
    let s1 = has_more _ _ _ (5 ∷ []) _ _ 0 1 1 s0 refl c.put.ensures refl refl in
    let s2 = has_more _ _ _ (ip_version r.v6 ∷ []) _ _ 1 1 2 s1 (ap (λ (n : ℕ). n ∷ []) c.ip_version.ensures) c.put-2.ensures refl refl in
    let s3 = has_more _ _ _ (0 ∷ []) _ _ 2 1 3 s2 refl c.put-3.ensures refl refl in
    let s4 = has_more _ _ _ (0 ∷ []) _ _ 3 1 4 s3 refl c.put-4.ensures refl refl in
    let s5 = has_more _ _ _ (replicate 4 0) _ _ 4 4 8 s4 refl c.put-5.ensures refl refl in
    let s6 = has_more _ _ _ (replicate 4 0) _ _ 8 4 12 s5 refl c.put-6.ensures refl refl in
    let s7 = has_more _ _ _ (to_be_bytes w16 r.sender_port) _ _ 12 2 14 s6 c.to_be_bytes.ensures c.put-7.ensures refl refl in
    let s8 = has_more _ _ _ (to_be_bytes w16 r.receiver_port) _ _ 14 2 16 s7 c.to_be_bytes-2.ensures c.put-8.ensures refl refl in
    let s9 = has_more _ _ _ (address_field r.sender) _ _ 16 16 32 s8 c.address_field.ensures c.put-9.ensures sender refl in
    let s10 = has_more _ _ _ (address_field r.receiver) _ _ 32 16 48 s9 c.address_field-2.ensures c.put-10.ensures receiver refl in
    let s11 = has_more _ _ _ (replicate 16 0) _ _ 48 16 64 s10 refl c.put-11.ensures refl refl in
    let s12 = has_more _ _ _ (replicate 4 0) _ _ 64 4 68 s11 refl c.put-12.ensures refl refl in
    let s13 = has_more _ _ _ (replicate 8 0) _ _ 68 8 76 s12 refl c.put-13.ensures refl refl in
    let s14 = has_more _ _ _ r.timeout _ _ 76 8 84 s13 refl c.put-14.ensures (omega arith) refl in
    let s15 = has_more _ _ _ (replicate 4 0) _ _ 84 4 88 s14 refl c.put-15.ensures refl refl in
    let s16 = has_more _ _ _ r.octets _ _ 88 2 90 s15 refl c.put-16.ensures (omega arith) refl in
    let s17 = has_more _ _ _ (to_be_bytes w16 r.reflect) _ _ 90 2 92 s16 c.to_be_bytes-3.ensures c.put-17.ensures refl refl in
    let s18 = has_more _ _ _ (replicate 4 0) _ _ 92 4 96 s17 refl c.put-18.ensures refl refl in
    let s19 = has_more _ _ _ (replicate 16 0) _ _ 96 16 112 s18 refl c.put-19.ensures refl refl in
    whole _ _ _ 112 s19 (omega arith)

pub returns-clause-read_again : goal.returns-clause-read_again
returns-clause-read_again c =
    let r = c.args.request.now in
    let sender : length (address_field r.sender) ≡ 16 = omega (arith, ap length c.address_field.ensures) in
    let receiver : length (address_field r.receiver) ≡ 16 = omega (arith, ap length c.address_field-2.ensures) in
    rw (returns-clause-fields c) (read_again r c.requires (record { sender_port = omega arith; receiver_port = omega arith; reflect = omega arith; timeout = omega arith; octets = omega arith; sender = sender; receiver = receiver }))
