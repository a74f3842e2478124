use Rattle.std.proofs.Common.{[], ◌∷◌, replicate, arith, refl}
use Rattle.std.specs.Int.{w32, to_be_bytes}
use Rattle.octet_format.proofs.Fields.{has_none, has_more}
use Rattle.control_msgs.specs.Layout.{stop_sessions}
use Rattle.control_msgs.proofs.Whole.{whole}
use Rattle.control_msgs.proofs.client.write_stop.Goals as goal

pub returns : goal.returns
unfolding stop_sessions
returns c =
    let s0 = has_none c.args.out.now in
    let s1 = has_more _ _ _ (3 ∷ []) _ _ 0 1 1 s0 refl c.put.ensures refl refl in
    let s2 = has_more _ _ _ (0 ∷ []) _ _ 1 1 2 s1 refl c.put-2.ensures refl refl in
    let s3 = has_more _ _ _ (replicate 2 0) _ _ 2 2 4 s2 refl c.put-3.ensures refl refl in
    let s4 = has_more _ _ _ (to_be_bytes w32 c.args.number) _ _ 4 4 8 s3 c.to_be_bytes.ensures c.put-4.ensures refl refl in
    let s5 = has_more _ _ _ (replicate 8 0) _ _ 8 8 16 s4 refl c.put-5.ensures refl refl in
    let s6 = has_more _ _ _ (replicate 16 0) _ _ 16 16 32 s5 refl c.put-6.ensures refl refl in
    whole _ _ _ 32 s6 (omega arith)
