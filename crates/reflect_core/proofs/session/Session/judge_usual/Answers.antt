use Rattle.std.proofs.Common.{◌∙◌}
use Rattle.reflect_core.proofs.Usual.{judged_test, judged_usual_plain, usual_plain}
use Rattle.reflect_core.proofs.session.Session.judge_usual.Goals as goal

pub returns-in-Twamp : goal.returns-in-Twamp
returns-in-Twamp c = c.judge_length.ensures ∙ judged_test c.args.self.now.mode c.args.self.now.config.now c.args.octets.now c.in-Twamp.is

pub returns-in_default : goal.returns-in_default
returns-in_default c =
    let plain = usual_plain c.args.self.now.mode c.args.self.now.config.now c.requires c.in_default.not-Twamp in
    c.judge_length-in_default.ensures ∙ judged_usual_plain c.args.self.now.mode c.args.self.now.config.now c.args.octets.now plain.0 plain.1
