use Rattle.std.proofs.Common.{◌≡◌, ◌*◌, ◌++◌, ◌∷◌, take, drop}
use Rattle.text_forms.specs.Endpoints.{open_bracket, grouped, more_groups}
use Rattle.text_forms.proofs.writing.append_v6.Given as goal

-- what is written, and the groups that are left, are all
abbrev pub invariant-loop-group : goal.invariant-loop-group
invariant-loop-group l = (l.at ≡ 5 * l.group) × (take l.at l.out ++ more_groups (drop (2 * l.group) l.octets) ≡ open_bracket ∷ grouped l.octets)
