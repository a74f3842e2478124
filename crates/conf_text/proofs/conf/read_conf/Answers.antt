use Rattle.std.proofs.Common.{◌∙◌, sym}
use Rattle.std.proofs.lemmas.Bool.{false≢true}
use Rattle.toml.specs.View.{table_view}
use Rattle.conf_text.proofs.TextFacts.{text-parsed, text-refused}
use Rattle.conf_text.proofs.conf.read_conf.Goals as goal

pub returns-in-Err : goal.returns-in-Err
returns-in-Err c = text-refused c.args.text.now (c.in-Err.ensures.refused (λ memory. false≢true (sym c.if-is_memory.false ∙ c.is_memory.ensures.1 memory)))

pub conf_of-requires : goal.conf_of-requires
conf_of-requires c = text-parsed c.args.text.now (table_view c.in-Ok.table) c.in-Ok.ensures.ok.0 c.in-Ok.ensures.ok.1

pub returns : goal.returns
returns c = rw (text-parsed c.args.text.now (table_view c.in-Ok.table) c.in-Ok.ensures.ok.0 c.in-Ok.ensures.ok.1) c.conf_of.ensures
