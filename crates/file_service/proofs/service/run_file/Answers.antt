use Rattle.std.proofs.Common.{inl, inr, ◌≤◌, length, refl, arith}
use Rattle.file_service.proofs.service.run_file.Goals as goal

pub returns-in-Err : goal.returns-in-Err
returns-in-Err g c = record { ran = record { ends = inl (c.in-Err.ensures.refused, refl, refl); kept = c.in-Err.ensures.kept } }

pub returns : goal.returns
returns g c =
    let taken = c.in-Ok.ensures.accepted in
    let few : c.in-Ok.conf.workers ≤ length c.args.ports.now = omega arith in
    record {
      ran = record {
        ends = inr (c.in-Ok.conf, taken.0, taken.2, inr (few, rw taken.1 at c.serve_conf.ensures.ends));
        kept = c.in-Ok.ensures.kept;
      };
    }
