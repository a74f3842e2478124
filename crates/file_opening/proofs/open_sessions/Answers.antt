use Rattle.std.proofs.Common.{rules, ◌≡◌, length, List, ap, arith}
use Rattle.conf_text.specs.declared.sessions.Provided.{Provided}
use Rattle.file_opening.proofs.Ends.{all_opened}
use Rattle.file_opening.proofs.OpensFacts.{opens_file}
use Rattle.file_opening.proofs.open_sessions.Goals as goal

pub returns-clause-opens : goal.returns-clause-opens
returns-clause-opens c = let f = c.args.conf.now in let inv = c.loop-index.invariant in
    let all : c.loop-index.index ≡ length f.sessions = let e = ap (λ (xs : List Provided). length xs) c.sessions-index-end.ensures.value in omega (arith, e) in
    let opens = opens_file c.args.table.now f c.args.moment c.loop-index.index c.args.book.now c.loop-index.book inv.opens all in
    search (rules, opens)

pub returns-clause-opened : goal.returns-clause-opened
returns-clause-opened c = let f = c.args.conf.now in let inv = c.loop-index.invariant in
    let all : c.loop-index.index ≡ length f.sessions = let e = ap (λ (xs : List Provided). length xs) c.sessions-index-end.ensures.value in omega (arith, e) in
    let opened = all_opened c.args.table.now f c.args.moment c.loop-index.index c.args.book.now c.loop-index.book inv.went inv.first all in
    search (rules, opened)
