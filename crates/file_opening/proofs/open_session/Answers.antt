use Rattle.std.proofs.Common.{◌≡◌, ◌≤◌, length, false, List, get_or, sym, ap, ◌∙◌, subst}
use Rattle.std.specs.List.{All}
use Rattle.std.proofs.lemmas.List.Elements.{All-get_or}
use Rattle.conf_text.specs.declared.sessions.Provided.{Provided}
use Rattle.conf_text.specs.Rows.{distinct, in_use}
use Rattle.conf_text.specs.Sound.{AreApart, IsOpenable}
use Rattle.conf_text.specs.Sessions.{lacks_key}
use Rattle.file_opening.proofs.RefusedFacts.{not_refused, not_unstarted}
use Rattle.file_opening.proofs.NextFacts.{both_calls, one_opened}
use Rattle.file_opening.proofs.Ends.{session_used}
use Rattle.file_opening.proofs.OpensFacts.{opens_next}
use Rattle.file_opening.proofs.open_session.Goals as goal

pub unreachable-requires : goal.unreachable-requires
unreachable-requires c = let f = c.args.conf.now in let s = c.index-sessions-index.result in let e = c.sessions.ensures.value in
    let is : s ≡ get_or f.sessions c.args.index s = c.index-sessions-index.is ∙ ap (λ (xs : List Provided). get_or xs c.args.index s) e in
    let keyed : lacks_key s ≡ false = subst (λ (x : Provided). lacks_key x ≡ false) (sym is) (All-get_or (IsOpenable (length f.locals)) f.sessions c.args.index s c.requires.inside (subst (All (IsOpenable (length f.locals))) e c.sessions.ensures.openable)).keyed in
    not_refused c.args.table.now f c.args.moment c.args.index c.args.book.now c.reserve.new.self s c.in_default.field-0 c.requires.first c.requires.inside is
    (subst (λ (xs : List Provided). length xs ≤ f.slots) e c.sessions.ensures.count.0) (subst AreApart e c.sessions.ensures.apart) keyed (session_used f c.args.index s c.requires.inside is)
    (subst (λ (xs : List Provided). length (distinct (in_use f.twamp xs)) ≤ f.rows) e c.sessions.ensures.rows) c.in_default.ensures.made

pub unreachable-requires-in_default-start : goal.unreachable-requires-in_default-start
unreachable-requires-in_default-start c = not_unstarted c.args.table.now c.args.book.now c.reserve.new.self c.start.new.self c.index-sessions-index.result c.in-Ok.place c.args.moment _ c.in-Ok.ensures.made c.in_default-start.ensures.made

pub returns-clause-went : goal.returns-clause-went
returns-clause-went c = let f = c.args.conf.now in let s = c.index-sessions-index.result in
    let is : s ≡ get_or f.sessions c.args.index s = c.index-sessions-index.is ∙ ap (λ (xs : List Provided). get_or xs c.args.index s) c.sessions.ensures.value in
    both_calls c.args.table.now f c.args.moment c.args.index c.args.book.now c.reserve.new.self c.start.new.self s c.in-Ok.place c.requires.inside is c.requires.first c.in-Ok.ensures.made c.in-Ok-start.ensures.made

pub returns-clause-opens : goal.returns-clause-opens
returns-clause-opens c = λ first. let f = c.args.conf.now in let s = c.index-sessions-index.result in
    let is : s ≡ get_or f.sessions c.args.index s = c.index-sessions-index.is ∙ ap (λ (xs : List Provided). get_or xs c.args.index s) c.sessions.ensures.value in
    opens_next c.args.table.now f c.args.moment c.args.index s c.in-Ok.place first c.args.book.now c.reserve.new.self c.start.new.self c.requires.inside is c.in-Ok.ensures.made c.in-Ok-start.ensures.made

pub returns-clause-next : goal.returns-clause-next
returns-clause-next c = let f = c.args.conf.now in let s = c.index-sessions-index.result in
    let is : s ≡ get_or f.sessions c.args.index s = c.index-sessions-index.is ∙ ap (λ (xs : List Provided). get_or xs c.args.index s) c.sessions.ensures.value in
    one_opened c.args.table.now f c.args.moment c.args.index c.args.book.now c.reserve.new.self c.start.new.self s c.in-Ok.place c.requires.inside is c.requires.first c.in-Ok.ensures.made c.in-Ok-start.ensures.made (session_used f c.args.index s c.requires.inside is)
