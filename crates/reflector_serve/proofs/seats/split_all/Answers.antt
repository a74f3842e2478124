use Rattle.std.proofs.Common.{rules, ◌<◌, length, subst, sym}
use Rattle.session_rule.specs.Seats.{size_of}
use Rattle.session_desk.specs.Parting.{HasSplit}
use Rattle.reflector_serve.proofs.SplitFacts.{Splitting, its_book, free, step}
use Rattle.reflector_serve.proofs.seats.split_all.Goals as goal

pub split-requires-clause-same : goal.split-requires-clause-same
split-requires-clause-same g c = its_book _ _ _ _ c.loop-buffers.invariant.splitting

pub split-requires-clause-room : goal.split-requires-clause-room
split-requires-clause-room g c =
    let lt : length c.loop-buffers.posts.items < (size_of c.args.table.now).workers = search rules in
    free _ _ _ _ c.loop-buffers.invariant.splitting lt

pub loop-buffers-preserved : goal.loop-buffers-preserved
loop-buffers-preserved g c =
    let h : HasSplit c.args.table.now c.loop-buffers.book c.split.new.self c.in-Ok.seat = search rules in
    record {
      splitting = subst (Splitting c.args.table.now c.args.book.now c.split.new.self) (sym c.push_reserved.ensures.items) (step _ _ _ _ _ _ c.loop-buffers.invariant.splitting h);
      count = search rules;
      room = search rules;
    }
