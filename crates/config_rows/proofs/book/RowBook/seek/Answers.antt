use Rattle.std.proofs.Common.{◌≡◌, length, ap, subst, refl, ◌∙◌}
use Rattle.config_rows.specs.Rows.{Rows, IsRow}
use Rattle.config_rows.specs.Index.{bucket_of}
use Rattle.config_rows.proofs.IndexLaws.{IsAt-first, IsAt-found, IsAt-next}
use Rattle.config_rows.proofs.book.RowBook.seek.Goals as goal

pub loop-row-init : goal.loop-row-init
loop-row-init c =
    let s = c.self.inside in
    let bucket : c.bucket_of.result ≡ bucket_of (length s.latest.items) c.args.config.now = c.bucket_of.ensures.value ∙ ap (λ n. bucket_of n c.args.config.now) (c.len.ensures ∙ s.latest.ok.0) in
    IsAt-first s.configs.items s.limit s.latest.items s.previous.items c.args.config.now _ c.self.invariant.index (rw bucket at c.index-row.ensures)

pub returns-then-is_same-clause-sought : goal.returns-then-is_same-clause-sought
returns-then-is_same-clause-sought c =
    let s = c.self.inside in
    let P : Rows → Type 0 = λ rows. IsRow rows c.args.config.now c.loop-row.row in
    subst P c.self.view_is (IsAt-found s.configs.items s.limit _ c.args.config.now _ c.loop-row.row c.loop-row.invariant c.loop-row-test.true c.index.ensures (c.if-is_same.ensures.same refl))

pub loop-row-smaller : goal.loop-row-smaller
loop-row-smaller c =
    let s = c.self.inside in
    (IsAt-next s.configs.items s.limit s.latest.items s.previous.items c.args.config.now _ c.loop-row.row _ c.self.invariant.index c.loop-row.invariant c.loop-row-test.true c.index.ensures (c.if-is_same.ensures.other refl) c.index-row-in-loop-row.ensures).0

pub loop-row-preserved : goal.loop-row-preserved
loop-row-preserved c =
    let s = c.self.inside in
    (IsAt-next s.configs.items s.limit s.latest.items s.previous.items c.args.config.now _ c.loop-row.row _ c.self.invariant.index c.loop-row.invariant c.loop-row-test.true c.index.ensures (c.if-is_same.ensures.other refl) c.index-row-in-loop-row.ensures).1
