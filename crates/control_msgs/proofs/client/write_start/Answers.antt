use Rattle.std.proofs.Common.{[], ◌∷◌, replicate, arith, refl}
use Rattle.octet_format.proofs.Fields.{has_none, has_more}
use Rattle.control_msgs.specs.Layout.{start_sessions}
use Rattle.control_msgs.proofs.Whole.{whole}
use Rattle.control_msgs.proofs.client.write_start.Goals as goal

pub returns : goal.returns
unfolding start_sessions
returns c =
    let s0 = has_none c.args.out.now in
    let s1 = has_more _ _ _ (2 ∷ []) _ _ 0 1 1 s0 refl c.put.ensures refl refl in
    let s2 = has_more _ _ _ (replicate 15 0) _ _ 1 15 16 s1 refl c.put-2.ensures refl refl in
    let s3 = has_more _ _ _ (replicate 16 0) _ _ 16 16 32 s2 refl c.put-3.ensures refl refl in
    whole _ _ _ 32 s3 (omega arith)
