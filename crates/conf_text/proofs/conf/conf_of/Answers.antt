use Rattle.std.proofs.Common.{rules, ◌∙◌, codes, arith}
use Rattle.toml.specs.Data.{get_member}
use Rattle.toml.specs.View.{table_view}
use Rattle.conf_text.proofs.LocalFacts.{required-locals}
use Rattle.conf_text.specs.File.{file_of}
use Rattle.conf_text.proofs.conf.conf_of.Goals as goal

pub invariant_of-result : goal.invariant_of-result
unfolding file_of
invariant_of-result c = record { sound = (c.args.text.now, c.requires ∙ search rules); names = c.in_ok-configs.ensures.ascending }

pub sessions_of-requires : goal.sessions_of-requires
sessions_of-requires c =
    let (least, most, apart) = required-locals (get_member (codes "locals") (table_view c.args.table.now)) c.in_ok-locals.locals.items c.in_ok-locals.ensures in
    (omega (arith, least, c.len.ensures), omega (arith, most, c.len.ensures))
