use Rattle.std.proofs.Common.{take, Ok, subst}
use Rattle.reply_audit.specs.declared.entries.Checked.{Checked}
use Rattle.reply_audit.specs.View.{IsFed}
use Rattle.audit_report.proofs.FrontFacts.{fails_front}
use Rattle.audit_report.proofs.front.check_entry.Goals as goal

pub returns-in-Ok-Fails : goal.returns-in-Ok-Fails
returns-in-Ok-Fails c =
    let octets = c.args.octets.now in
    fails_front c.args.audit.now c.feed.new.self octets c.args.len c.requires (subst (λ (k : Checked). IsFed c.args.audit.now (take c.args.len octets) (Ok k) c.feed.new.self) c.in-Ok-Fails.field-0-is c.in-Ok-Fails.ensures)
