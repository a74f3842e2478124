use Rattle.std.proofs.Common.{rules, ◌≡◌, ℕ, List, [], length, map, drop, subst, sym, ap, ◌∙◌}
use Rattle.session_world.specs.Sizes.{IsWithinLimits}
use Rattle.session_rule.specs.Seats.{size_of}
use Rattle.reflector_serve.specs.declared.post.Post.{Post}
use Rattle.reflector_serve.specs.Posts.{AreSeated, AreNumbered, AllWorked, lists_of}
use Rattle.reflector_serve.specs.Phases.{Phase, JoinsAll}
use Rattle.reflector_serve.proofs.RunFacts.{as_long, seated_after, numbered_after, whole, has_served}
use Rattle.reflector_serve.proofs.serving.serve_split.Goals as goal

pub join_all-requires-clause-seats : goal.join_all-requires-clause-seats
join_all-requires-clause-seats g c =
    let mid = c.run_all-tally.new.posts in
    let worked : AllWorked g.P.Port.shown c.args.table.now c.args.conf.now c.args.ports.now c.run_all-tally.new.ports c.as_mut_slice.result.now mid = c.run_all-tally.ensures.workers in
    let n : length mid ≡ c.args.posts.len = as_long _ _ _ _ _ _ mid worked ∙ (search rules) in
    subst (AreSeated c.args.table.now) (sym (whole c.args.posts.len mid _ n)) (seated_after _ _ _ _ _ _ mid worked)

pub join_all-requires-clause-numbers : goal.join_all-requires-clause-numbers
join_all-requires-clause-numbers g c =
    let mid = c.run_all-tally.new.posts in
    let worked : AllWorked g.P.Port.shown c.args.table.now c.args.conf.now c.args.ports.now c.run_all-tally.new.ports c.as_mut_slice.result.now mid = c.run_all-tally.ensures.workers in
    let n : length mid ≡ c.args.posts.len = as_long _ _ _ _ _ _ mid worked ∙ (search rules) in
    let lent : c.as_mut_slice.result.now ≡ c.args.posts.items = search rules in
    subst (AreNumbered 1) (sym (whole c.args.posts.len mid _ n)) (numbered_after _ _ _ 1 _ _ _ mid worked (subst (AreNumbered 1) (sym lent) c.requires.numbers))

pub returns : goal.returns
returns g c = λ first base p.
    let v = g.P.Port.shown in
    let mid = c.run_all-tally.new.posts in
    let t = c.args.table.now in let conf = c.args.conf.now in
    let lent : c.as_mut_slice.result.now ≡ c.args.posts.items = search rules in
    let worked : AllWorked v t conf c.args.ports.now c.run_all-tally.new.ports c.args.posts.items mid =
    subst (λ (rs : List (Post _)). AllWorked v t conf c.args.ports.now c.run_all-tally.new.ports rs mid) lent c.run_all-tally.ensures.workers in
    let n : length mid ≡ c.args.posts.len = as_long _ _ _ _ _ _ mid worked ∙ (search rules) in
    let same = whole c.args.posts.len mid (drop (length mid) c.args.posts.items) n in
    let many : c.args.posts.len ≡ length c.args.posts.items = search rules in
    let within : IsWithinLimits (size_of t) = t.limits in
    has_served v g.D.Desk.shown g.D.Desk.goes t conf c.args.room.now c.args.ports.now c.run_all-tally.new.ports c.args.desk.now c.run_all-tally.new.desk c.args.posts.items mid
    c.args.book.now c.run_all-tally.new.book c.join_all.new.book _
    c.law_joined_history.ensures within c.law_fits.ensures c.requires.fresh (c.requires.ports ∙ many) worked c.run_all-tally.ensures.desk
    (λ first' base' q. subst (λ (xs : List (Post _)). Phase t first' base' c.join_all.new.book 0 (lists_of xs)) same
    (c.join_all.ensures.joined first' base' (subst (λ (m : ℕ). Phase t first' base' c.run_all-tally.new.book m []) n q)))
    (subst (λ (xs : List (Post _)). JoinsAll t 1 (lists_of xs) c.run_all-tally.new.book c.join_all.new.book) same c.join_all.ensures.calls) (c.tallies_of.ensures ∙ ap (map (λ (r : Post _). r.tally)) (c.as_slice.ensures.value ∙ same)) ((c.live_len.ensures t).0)
    first base (subst (λ (m : ℕ). Phase t first base c.args.book.now m []) many p)
