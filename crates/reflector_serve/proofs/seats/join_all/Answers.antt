use Rattle.std.proofs.Common.{rules, ◌≡◌, [], ◌∷◌, ◌++◌}
use Rattle.session_rule.specs.Seats.{IsWorkerOf}
use Rattle.reflector_serve.proofs.JoinFacts.{its_worker, step}
use Rattle.reflector_serve.proofs.seats.join_all.Goals as goal

pub join-requires-clause-worker : goal.join-requires-clause-worker
join-requires-clause-worker g c =
    let e : c.loop-post.posts.items ≡ c.pop.new.self.items ++ c.in-Some.post ∷ [] = search rules in
    let w : IsWorkerOf c.args.table.now c.in-Some.post.seat = its_worker _ _ _ _ _ _ c.in-Some.post c.loop-post.invariant e in w

pub loop-post-preserved : goal.loop-post-preserved
loop-post-preserved g c =
    let e : c.loop-post.posts.items ≡ c.pop.new.self.items ++ c.in-Some.post ∷ [] = search rules in
    step _ _ _ _ _ _ _ c.in-Some.post c.loop-post.invariant e c.join.ensures.joined c.join.ensures.same
