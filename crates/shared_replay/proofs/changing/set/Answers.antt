use Rattle.std.proofs.Common.{sym, subst}
use Rattle.replay_format.specs.declared.code.SetAnswer.{SetAnswer}
use Rattle.replay_format.specs.Records.{Setting}
use Rattle.session_desk.specs.Fits.{BookFits}
use Rattle.shared_replay.specs.Stands.{HasSet}
use Rattle.shared_replay.proofs.DeskFacts.{same_desk, set_desk, set_reserves, has_set, set_refused}
use Rattle.shared_replay.proofs.changing.set.Goals as goal

pub returns-in-Err-clause-after : goal.returns-in-Err-clause-after
returns-in-Err-clause-after c = same_desk c.requires.desk c.in-Err.ensures.made.1

pub returns-in-Err-clause-set : goal.returns-in-Err-clause-set
returns-in-Err-clause-set c = λ t h.
    let x : Setting = record { key = c.args.key.now; config = c.args.config.now } in
    subst (λ (a : SetAnswer). HasSet t x a c.set.new.self) (sym c.refusal.ensures)
    (set_refused c.requires.desk c.law_fits.ensures (subst BookFits (sym c.in-Err.ensures.made.1) c.law_fits.ensures) t c.args.config.now c.in-Err.fault h c.in-Err.ensures.made.1 c.in-Err.ensures.made.0)

pub returns-clause-after : goal.returns-clause-after
returns-clause-after c = set_desk c.requires.desk c.law_fits.ensures c.law_fits-2.ensures c.in_default.ensures.made c.law_calls_tell.ensures c.law_rows_stay.ensures c.in_default.ensures.same

pub returns-clause-reserves : goal.returns-clause-reserves
returns-clause-reserves c = set_reserves c.requires.desk c.law_fits.ensures c.law_fits-2.ensures c.in_default.ensures.made

pub returns-clause-set : goal.returns-clause-set
returns-clause-set c = λ t h. has_set c.requires.desk c.law_fits.ensures c.law_fits-2.ensures c.in_default.ensures.made t c.law_calls_tell.ensures c.law_desk_did.ensures c.law_desk_slots.ensures h
