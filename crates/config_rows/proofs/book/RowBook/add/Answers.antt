use Rattle.std.proofs.Common.{◌≡◌, ◌<◌, ◌++◌, [], ◌∷◌, suc, length, get_or, sym, ap, subst, ◌∙◌, rules, arith}
use Rattle.std.proofs.lemmas.List.{get_or_read}
use Rattle.config_rows.specs.Rows.{Rows, HasNoRow}
use Rattle.config_rows.specs.Index.{bucket_of}
use Rattle.config_rows.proofs.IndexLaws.{AreRows-added, IsIndex-added}
use Rattle.config_rows.proofs.book.RowBook.add.Goals as goal

pub invariant_of-self : goal.invariant_of-self
invariant_of-self c =
    let s = c.self.inside in
    let grown : c.push-2.new.self.items ≡ s.configs.items ++ c.args.config.now ∷ [] = c.in-Ok-push.ensures.items in
    let linked : c.push.new.self.items ≡ s.previous.items ++ c.index.result.now ∷ [] = c.in-Ok.ensures.items in
    let bucket : c.bucket_of-bucket.result ≡ bucket_of (length s.latest.items) c.args.config.now = c.bucket_of-bucket.ensures.value ∙ ap (λ n. bucket_of n c.args.config.now) (c.len.ensures ∙ s.latest.ok.0) in
    let read = get_or_read s.latest.items _ _ (omega (arith, c.bucket_of-bucket.ensures.inside, c.len.ensures, s.latest.ok.0)) c.index.ensures 0 in
    let link : c.index.result.now ≡ get_or s.latest.items (bucket_of (length s.latest.items) c.args.config.now) 0 = read ∙ ap (λ i. get_or s.latest.items i 0) bucket in
    let row : c.len-row.result ≡ suc (length s.configs.items) = omega (arith, c.len-row.ensures, c.in-Ok-push.ensures.len, s.configs.ok.0) in
    let None : Rows → Type 0 = λ rows. HasNoRow rows c.args.config.now in
    let Room : Rows → Type 0 = λ rows. length rows.configs < rows.limit in
    record {
      rows = rw grown (AreRows-added s.configs.items s.limit c.args.config.now c.self.invariant.rows (subst None (sym c.self.view_is) c.requires.next.0) (subst Room (sym c.self.view_is) c.requires.next.1));
      room = search rules;
      index = rw (grown, linked, link, bucket, row) (IsIndex-added s.configs.items s.limit c.args.config.now s.latest.items s.previous.items c.self.invariant.index);
      links = search rules;
    }
