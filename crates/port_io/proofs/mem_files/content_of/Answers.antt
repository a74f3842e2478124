use Rattle.std.proofs.Common.{List, ℕ, sym, ap, ◌∙◌, Some}
use Rattle.std.specs.Prelude.{bytes_eq}
use Rattle.port_io.proofs.FileFacts.{passes_at, finds_at, passes_all}
use Rattle.port_io.proofs.mem_files.content_of.Goals as goal

pub returns-then-eq : goal.returns-then-eq
returns-then-eq c =
    let here = ap (λ (b : List ℕ). bytes_eq b c.args.name.now) (sym c.as_str.ensures.value) ∙ sym c.eq.ensures ∙ c.if-eq.true in
    sym c.loop-at.invariant ∙ finds_at _ _ _ _ c.requires _ _ c.loop-at-test.true c.index-names-at.is c.index-contents-at.is here ∙ ap (λ (l : List ℕ). Some l) (sym c.deref.ensures.value)

pub loop-at-preserved : goal.loop-at-preserved
loop-at-preserved c =
    let other = ap (λ (b : List ℕ). bytes_eq b c.args.name.now) (sym c.as_str.ensures.value) ∙ sym c.eq.ensures ∙ c.if-eq.false in
    passes_at _ _ _ _ c.requires _ c.loop-at-test.true c.index-names-at.is other ∙ c.loop-at.invariant

pub returns : goal.returns
returns c = sym c.loop-at.invariant ∙ passes_all _ _ _ _ c.requires c.loop-at-test.false
