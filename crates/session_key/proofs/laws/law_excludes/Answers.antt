use Rattle.std.proofs.Common.{◌∙◌}
use Rattle.session_key.proofs.MatchLaws.{matched_excludes, excludes-refl, excludes-sym}
use Rattle.session_key.proofs.laws.law_excludes.Goals as goal

pub returns : goal.returns
returns c = record { matched = matched_excludes; itself = excludes-refl; turned = λ j k e. excludes-sym k j ∙ e }
