use Rattle.shared_replay.proofs.WholeTurns.{whole_by, kept_after, sent_fits, sent_arrives, unsent_arrives}
use Rattle.shared_replay.proofs.turning.arrive.Goals as goal

pub returns-in-Ok-turn-clause-known : goal.returns-in-Ok-turn-clause-known
returns-in-Ok-turn-clause-known c = kept_after (whole_by c.requires.desk c.in-Ok.ensures.split_off c.turn.ensures.number c.join.ensures.joined) c.law_words.ensures c.requires.known c.turn.ensures.turned

pub returns-in-Ok-turn-clause-fits : goal.returns-in-Ok-turn-clause-fits
returns-in-Ok-turn-clause-fits c = sent_fits (whole_by c.requires.desk c.in-Ok.ensures.split_off c.turn.ensures.number c.join.ensures.joined) c.law_words.ensures c.requires.known c.turn.ensures.turned c.in-Ok-turn.len c.in-Ok-turn.is

pub returns-in-Ok-turn-clause-arrived : goal.returns-in-Ok-turn-clause-arrived
returns-in-Ok-turn-clause-arrived c = λ t h keyed own.
    sent_arrives (whole_by c.requires.desk c.in-Ok.ensures.split_off c.turn.ensures.number c.join.ensures.joined) c.law_words.ensures c.requires.known c.turn.ensures.turned c.law_turns_tell.ensures c.law_one_bound.ensures t h keyed c.in-Ok-turn.len c.in-Ok-turn.is own

pub returns-in-Err-clause-known : goal.returns-in-Err-clause-known
returns-in-Err-clause-known c = kept_after (whole_by c.requires.desk c.in-Ok.ensures.split_off c.turn.ensures.number c.join-in-Err.ensures.joined) c.law_words.ensures c.requires.known c.turn.ensures.turned

pub returns-in-Err-clause-arrived : goal.returns-in-Err-clause-arrived
returns-in-Err-clause-arrived c = λ t h keyed own.
    unsent_arrives (whole_by c.requires.desk c.in-Ok.ensures.split_off c.turn.ensures.number c.join-in-Err.ensures.joined) c.law_words.ensures c.requires.known c.turn.ensures.turned c.law_turns_tell.ensures c.law_one_bound.ensures t h keyed c.in-Err.cause c.write_unsent.new.out c.write_unsent.result c.in-Err.is c.write_unsent.ensures.octets c.write_unsent.ensures.len
