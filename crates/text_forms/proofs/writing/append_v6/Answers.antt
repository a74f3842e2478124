use Rattle.std.proofs.Common.{◌≡◌, ◌+◌, ◌*◌, ◌<◌, ◌∷◌, length, take, ap, ◌∙◌, arith}
use Rattle.text_forms.specs.Endpoints.{open_bracket}
use Rattle.text_forms.proofs.GroupFacts.{more_groups-append, grouped-begins}
use Rattle.text_forms.proofs.writing.append_v6.Goals as goal

pub loop-group-init : goal.loop-group-init
loop-group-init c = (
  omega (arith, c.append_group-at.ensures.len, c.append-at.ensures.len),
  rw (c.append_group-at.ensures.text, c.append-at.ensures.text) (ap (λ l. open_bracket ∷ l) (grouped-begins c.args.octets.now (omega (arith, c.told-octets)))),
)

pub loop-group-preserved : goal.loop-group-preserved
loop-group-preserved c =
    let g = c.loop-group.group in
    let octets = c.args.octets.now in
    let next : 2 * (g + 1) ≡ 2 * g + 2 = omega arith in
    let inside : 2 * g + 1 < length octets = omega (arith, c.told-octets) in (
      omega (arith, c.append_group-at-in-loop-group.ensures.len, c.append-at-in-loop-group.ensures.len, c.loop-group.invariant.0),
      rw (c.append_group-at-in-loop-group.ensures.text, c.append-at-in-loop-group.ensures.text, next) (more_groups-append (take c.loop-group.at c.loop-group.out) octets (2 * g) inside ∙ c.loop-group.invariant.1),
    )
