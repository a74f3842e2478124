use Rattle.std.proofs.Common.{replicate, arith, refl}
use Rattle.std.specs.Int.{w32, to_be_bytes}
use Rattle.octet_format.proofs.Fields.{has_none, has_more}
use Rattle.control_msgs.specs.Layout.{set_up}
use Rattle.control_msgs.proofs.Whole.{whole}
use Rattle.control_msgs.proofs.client.write_set_up.Goals as goal

pub returns : goal.returns
unfolding set_up
returns c =
    let s0 = has_none c.args.out.now in
    let s1 = has_more _ _ _ (to_be_bytes w32 c.args.mode) _ _ 0 4 4 s0 c.to_be_bytes.ensures c.put.ensures refl refl in
    let s2 = has_more _ _ _ (replicate 80 0) _ _ 4 80 84 s1 refl c.put-2.ensures refl refl in
    let s3 = has_more _ _ _ (replicate 64 0) _ _ 84 64 148 s2 refl c.put-3.ensures refl refl in
    let s4 = has_more _ _ _ (replicate 16 0) _ _ 148 16 164 s3 refl c.put-4.ensures refl refl in
    whole _ _ _ 164 s4 (omega arith)
