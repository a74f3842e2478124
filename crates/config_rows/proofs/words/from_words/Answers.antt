use Rattle.std.proofs.Common.{sym, ◌∙◌, arith}
use Rattle.config_rows.proofs.WordLaws.{numbers, made_back, parts_are}
use Rattle.config_rows.proofs.words.from_words.Goals as goal

pub overflow_cast-words : goal.overflow_cast-words
overflow_cast-words c = omega (arith, (numbers c.args.words.now c.requires).info)

pub overflow_cast-parts-4 : goal.overflow_cast-parts-4
overflow_cast-parts-4 c = omega (arith, (numbers c.args.words.now c.requires).tlvs)

pub unreachable-requires : goal.unreachable-requires
unreachable-requires c =
    let parts = parts_are c.args.words.now c.to_be_bytes.result c.clock_of.result c.key_of.result c.requires c.clock_of.ensures c.to_be_bytes.ensures c.key_of.ensures in
    let made = c.make.ensures ∙ made_back _ c.args.words.now c.requires parts in
    let e = sym c.in-Err.is ∙ made in
    absurd cc

pub returns : goal.returns
returns c =
    let parts = parts_are c.args.words.now c.to_be_bytes.result c.clock_of.result c.key_of.result c.requires c.clock_of.ensures c.to_be_bytes.ensures c.key_of.ensures in
    let made = c.make.ensures ∙ made_back _ c.args.words.now c.requires parts in
    let e = sym c.in-Ok.is ∙ made in
    cc
