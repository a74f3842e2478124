use Rattle.std.proofs.Common.{replicate, arith, refl}
use Rattle.std.specs.Int.{w32, to_be_bytes}
use Rattle.octet_format.proofs.Fields.{has_none, has_more}
use Rattle.control_msgs.specs.Layout.{greeting}
use Rattle.control_msgs.proofs.Whole.{whole}
use Rattle.control_msgs.proofs.server.write_greeting.Goals as goal

pub returns : goal.returns
unfolding greeting
returns c =
    let s0 = has_none c.args.out.now in
    let s1 = has_more _ _ _ (replicate 12 0) _ _ 0 12 12 s0 refl c.put.ensures refl refl in
    let s2 = has_more _ _ _ (to_be_bytes w32 97) _ _ 12 4 16 s1 c.to_be_bytes.ensures c.put-2.ensures refl refl in
    let s3 = has_more _ _ _ (replicate 16 0) _ _ 16 16 32 s2 refl c.put-3.ensures refl refl in
    let s4 = has_more _ _ _ (replicate 16 0) _ _ 32 16 48 s3 refl c.put-4.ensures refl refl in
    let s5 = has_more _ _ _ (to_be_bytes w32 1024) _ _ 48 4 52 s4 c.to_be_bytes-2.ensures c.put-5.ensures refl refl in
    let s6 = has_more _ _ _ (replicate 12 0) _ _ 52 12 64 s5 refl c.put-6.ensures refl refl in
    whole _ _ _ 64 s6 (omega arith)
