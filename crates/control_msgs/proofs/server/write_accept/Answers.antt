use Rattle.std.proofs.Common.{[], ◌∷◌, replicate, arith, refl}
use Rattle.std.specs.Int.{w16, to_be_bytes}
use Rattle.octet_format.proofs.Fields.{has_none, has_more}
use Rattle.control_msgs.specs.Layout.{accept_session}
use Rattle.control_msgs.proofs.Whole.{whole}
use Rattle.control_msgs.proofs.server.write_accept.Goals as goal

pub returns : goal.returns
unfolding accept_session
returns c =
    let s0 = has_none c.args.out.now in
    let s1 = has_more _ _ _ (c.args.accept ∷ []) _ _ 0 1 1 s0 refl c.put.ensures refl refl in
    let s2 = has_more _ _ _ (0 ∷ []) _ _ 1 1 2 s1 refl c.put-2.ensures refl refl in
    let s3 = has_more _ _ _ (to_be_bytes w16 c.args.port) _ _ 2 2 4 s2 c.to_be_bytes.ensures c.put-3.ensures refl refl in
    let s4 = has_more _ _ _ c.args.sid.now _ _ 4 16 20 s3 refl c.put-4.ensures (omega arith) refl in
    let s5 = has_more _ _ _ c.args.reflected.now _ _ 20 2 22 s4 refl c.put-5.ensures (omega arith) refl in
    let s6 = has_more _ _ _ (replicate 2 0) _ _ 22 2 24 s5 refl c.put-6.ensures refl refl in
    let s7 = has_more _ _ _ (replicate 8 0) _ _ 24 8 32 s6 refl c.put-7.ensures refl refl in
    let s8 = has_more _ _ _ (replicate 16 0) _ _ 32 16 48 s7 refl c.put-8.ensures refl refl in
    whole _ _ _ 48 s8 (omega arith)
