use Rattle.std.proofs.Common.{◌≡◌, ◌∙◌, sym, ap, true, false}
use Rattle.std.specs.List.{list_any}
use Rattle.refl_types.specs.Same.{same_config}
use Rattle.conf_text.proofs.RowFacts.{kept-among, kept-new}
use Rattle.conf_text.proofs.rows.keep.Goals as goal

pub returns-then-is_among : goal.returns-then-is_among
returns-then-is_among c = λ configs keeps.
    let among : list_any (same_config c.args.config.now) c.args.kept.now.items ≡ true = ap (list_any (same_config c.args.config.now)) (sym c.deref.ensures.value) ∙ sym c.is_among.ensures ∙ c.if-is_among.true in
    kept-among c.args.kept.now.items configs c.args.config.now keeps among

pub returns : goal.returns
returns c = λ configs keeps.
    let new : list_any (same_config c.args.config.now) c.args.kept.now.items ≡ false = ap (list_any (same_config c.args.config.now)) (sym c.deref.ensures.value) ∙ sym c.is_among.ensures ∙ c.if-is_among.false in
    rw c.in_ok-push.ensures.items (kept-new c.args.kept.now.items configs c.args.config.now keeps new)
