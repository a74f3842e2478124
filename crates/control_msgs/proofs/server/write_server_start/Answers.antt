use Rattle.std.proofs.Common.{[], ◌∷◌, replicate, arith, refl}
use Rattle.refl_types.specs.declared.config.Clock.TheVariants.{Ntp}
use Rattle.ntp_time.specs.Timestamp.{timestamp}
use Rattle.octet_format.proofs.Fields.{has_none, has_more}
use Rattle.control_msgs.specs.Layout.{server_start}
use Rattle.control_msgs.proofs.Whole.{whole}
use Rattle.control_msgs.proofs.server.write_server_start.Goals as goal

pub returns : goal.returns
unfolding server_start
returns c =
    let s0 = has_none c.args.out.now in
    let s1 = has_more _ _ _ (replicate 15 0) _ _ 0 15 15 s0 refl c.put.ensures refl refl in
    let s2 = has_more _ _ _ (c.args.accept ∷ []) _ _ 15 1 16 s1 refl c.put-2.ensures refl refl in
    let s3 = has_more _ _ _ (replicate 16 0) _ _ 16 16 32 s2 refl c.put-3.ensures refl refl in
    let s4 = has_more _ _ _ (timestamp Ntp 0 c.args.start) _ _ 32 8 40 s3 c.stamp.ensures c.put-4.ensures refl refl in
    let s5 = has_more _ _ _ (replicate 8 0) _ _ 40 8 48 s4 refl c.put-5.ensures refl refl in
    whole _ _ _ 48 s5 (omega arith)
