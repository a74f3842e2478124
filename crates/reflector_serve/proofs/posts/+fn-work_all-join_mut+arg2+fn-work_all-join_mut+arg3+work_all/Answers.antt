use Rattle.std.proofs.Common.{rules, arith, ◌≡◌, length}
use Rattle.reflector_serve.specs.Posts.{AreReady}
use Rattle.reflector_serve.proofs.HalfFacts.{ready_front, ready_back, one_ready}
use Rattle.reflector_serve.proofs.posts.+fn-work_all-join_mut+arg2+fn-work_all-join_mut+arg3+work_all.Goals as goal

pub join_mut-requires-after_bounds : goal.join_mut-requires-after_bounds
join_mut-requires-after_bounds g t c κs within =
    let e = c.split_at_mut-front.ensures.value in let f = c.split_at_mut-front_posts.ensures.value in
    let n : length c.split_at_mut-front.result.0.now ≡ length c.split_at_mut-front_posts.result.0.now = search rules in
    let first : AreReady g.P.Port.shown c.args.table.now c.args.conf.now.locals c.split_at_mut-front.result.0.now c.split_at_mut-front_posts.result.0.now
    = ready_front _ _ _ c.args.ports.now c.split_at_mut-front.result.0.now c.split_at_mut-front.result.1.now c.args.posts.now c.split_at_mut-front_posts.result.0.now c.split_at_mut-front_posts.result.1.now e f n c.requires.ready in
    let second : AreReady g.P.Port.shown c.args.table.now c.args.conf.now.locals c.split_at_mut-front.result.1.now c.split_at_mut-front_posts.result.1.now
    = ready_back _ _ _ c.args.ports.now c.split_at_mut-front.result.0.now c.split_at_mut-front.result.1.now c.args.posts.now c.split_at_mut-front_posts.result.0.now c.split_at_mut-front_posts.result.1.now e f n c.requires.ready in
    ((grind arith, search (rules, first)), (grind arith, search (rules, second)))

pub work_at-requires : goal.work_at-requires
work_at-requires g t c =
    let r = one_ready g.P.Port.shown c.args.table.now c.args.conf.now.locals c.args.ports.now c.args.posts.now c.index-ports-0.result c.index-posts-0.result c.if-posts-eq1.true c.requires.ready in
    record { bound = r.0; seat = r.1; fresh = r.2 }
