use Rattle.std.proofs.Common.{◌≢◌, length, refl, sym, ◌∙◌, arith}
use Rattle.replay_format.specs.Records.{Opening}
use Rattle.shared_replay.proofs.DeskFacts.{same_desk}
use Rattle.shared_replay.proofs.AnswerFacts.{refused, admitted, unbound_in, how_many, refusal_not, refused_holds, opened_holds, full_holds, not_full}
use Rattle.shared_replay.proofs.opening.open.Goals as goal

pub returns-in-Err-clause-after : goal.returns-in-Err-clause-after
returns-in-Err-clause-after c = same_desk c.requires.desk refl

pub returns-in-Err-clause-opened : goal.returns-in-Err-clause-opened
returns-in-Err-clause-opened c = λ t h few.
    let b = c.args.book.now in
    let o : Opening = record { key = c.args.key.now; extra = c.args.extra.now; config = c.args.config.now } in
    let fits = c.law_fits.ensures in
    let limit = fits.rows.limit ∙ c.requires.desk.rows in
    let f = c.in-Err.fault in
    refused_holds b t o c.refusal.result h (c.refusal.ensures ∙ refused b t o fits c.requires.desk.nobody limit h f (c.in-Err.ensures c.args.table.now).0) (λ e. refusal_not f (sym c.refusal.ensures ∙ e))

pub returns-then-live_len-eq-SESSIONS-clause-opened : goal.returns-then-live_len-eq-SESSIONS-clause-opened
returns-then-live_len-eq-SESSIONS-clause-opened c = λ t h few.
    let b = c.args.book.now in
    let o : Opening = record { key = c.args.key.now; extra = c.args.extra.now; config = c.args.config.now } in
    let fits = c.law_fits.ensures in
    let limit = fits.rows.limit ∙ c.requires.desk.rows in
    let n = how_many b t h in
    let l = (c.live_len.ensures c.args.table.now).0 in
    full_holds b t o h (admitted b t o fits c.requires.desk.nobody limit h c.law_desk_did.ensures c.law_desk_slots.ensures (c.in_default.ensures c.args.table.now).0) (omega (arith, n, l))

pub begin-requires-clause-cause : goal.begin-requires-clause-cause
begin-requires-clause-cause c = (c.in_default.ensures c.args.table.now).0

pub begin-requires-clause-room : goal.begin-requires-clause-room
begin-requires-clause-room c =
    let l = (c.live_len.ensures c.args.table.now).0 in
    let few = c.requires.desk.few in
    omega (arith, l, few)

pub returns-clause-opened : goal.returns-clause-opened
returns-clause-opened c = λ t h few.
    let b = c.args.book.now in
    let o : Opening = record { key = c.args.key.now; extra = c.args.extra.now; config = c.args.config.now } in
    let fits = c.law_fits.ensures in
    let limit = fits.rows.limit ∙ c.requires.desk.rows in
    let no_cause = (c.in_default.ensures c.args.table.now).0 in
    let free = unbound_in b t o fits c.requires.desk.nobody limit h no_cause in
    let began = c.begin.ensures.began t h free few in
    let n = how_many b t h in
    let l = (c.live_len.ensures c.args.table.now).0 in
    let other : length t.sessions ≢ 1024 = λ e. omega (arith, n, l, e) in
    opened_holds c.begin.new.book t o c.begin.result began.0 (not_full t o (admitted b t o fits c.requires.desk.nobody limit h c.law_desk_did.ensures c.law_desk_slots.ensures no_cause) other) began.1
