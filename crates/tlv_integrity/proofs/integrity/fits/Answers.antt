use Rattle.std.proofs.Common.{◌≡◌, ℕ, ◌+◌, ◌++◌, ◌∙◌, true, false, eqb, nat_eq, List, length, take, drop, refl, sym, ap}
use Rattle.std.proofs.lemmas.Bool.{ne_eqb}
use Rattle.std.specs.Cmp.Lexicographic.{pointwise}
use Rattle.hmac_sha256.specs.Hmac.{mac128_of}
use Rattle.octet_format.specs.Octets.{field}
use Rattle.octet_format.proofs.Fields.{length-field}
use Rattle.tlv_chain.specs.Split.{split}
use Rattle.tlv_integrity.specs.Heads.{heads, all_padding}
use Rattle.tlv_integrity.specs.InnerSteps.{placed_at}
use Rattle.tlv_integrity.proofs.Cases.{fits_is}
use Rattle.tlv_integrity.proofs.integrity.fits.Goals as goal

pub returns-then-from-ne-MAC_LEN-clause-value : goal.returns-then-from-ne-MAC_LEN-clause-value
returns-then-from-ne-MAC_LEN-clause-value c =
    let s = c.args.span.now in
    let tail = c.args.tail.now in
    let len : eqb (length (field (s.at + 4) s.len tail)) 16 ≡ false = ap (λ (n : ℕ). eqb n 16) (length-field (s.at + 4) s.len tail c.requires) ∙ ne_eqb s.len 16 (λ e. c.if-from-ne-MAC_LEN.true (c.from.ensures ∙ e)) in
    fits_is c.args.key.now c.args.sequence.now tail (placed_at tail s) (split (drop (s.at + 4 + s.len) tail)).rest false _ _ len refl refl

pub returns-then-not-all_padding-clause-value : goal.returns-then-not-all_padding-clause-value
returns-then-not-all_padding-clause-value c =
    let s = c.args.span.now in
    let tail = c.args.tail.now in
    let len : eqb (length (field (s.at + 4) s.len tail)) 16 ≡ true = ap (λ (n : ℕ). eqb n 16) (length-field (s.at + 4) s.len tail c.requires ∙ sym c.from.ensures ∙ c.if-from-ne-MAC_LEN.false) in
    let after : all_padding (heads (split (drop (s.at + 4 + s.len) tail))) ≡ false =
    sym (c.all_padding.ensures ∙ ap (λ (o : List ℕ). all_padding (heads (split o))) (c.split_at.ensures.back ∙ ap (λ (n : ℕ). drop (s.at + 4 + n) tail) c.from-2.ensures)) ∙ c.if-not-all_padding.true in
    fits_is c.args.key.now c.args.sequence.now tail (placed_at tail s) (split (drop (s.at + 4 + s.len) tail)).rest true false _ len after refl

pub returns-clause-value : goal.returns-clause-value
returns-clause-value c =
    let s = c.args.span.now in
    let tail = c.args.tail.now in
    let sequence = c.args.sequence.now in
    let block = c.args.key.now in
    let len : eqb (length (field (s.at + 4) s.len tail)) 16 ≡ true = ap (λ (n : ℕ). eqb n 16) (length-field (s.at + 4) s.len tail c.requires ∙ sym c.from.ensures ∙ c.if-from-ne-MAC_LEN.false) in
    let after : all_padding (heads (split (drop (s.at + 4 + s.len) tail))) ≡ true =
    sym (c.all_padding.ensures ∙ ap (λ (o : List ℕ). all_padding (heads (split o))) (c.split_at.ensures.back ∙ ap (λ (n : ℕ). drop (s.at + 4 + n) tail) c.from-2.ensures)) ∙ c.if-not-all_padding.false in
    let value : c.field16.result ≡ field (s.at + 4) s.len tail = c.field16.ensures ∙ ap (λ (n : ℕ). field (s.at + 4) n tail) (sym (sym c.from.ensures ∙ c.if-from-ne-MAC_LEN.false)) in
    let mac : c.mac128.result ≡ mac128_of block (sequence ++ take s.at tail) = c.mac128.ensures ∙ ap (λ (x : List ℕ). mac128_of block (sequence ++ x)) c.split_at-2.ensures.front in
    let same : pointwise nat_eq (field (s.at + 4) s.len tail) (mac128_of block (sequence ++ take s.at tail)) ≡ c.eq.result =
    sym (c.eq.ensures ∙ ap (λ (x : List ℕ). pointwise nat_eq x c.mac128.result) value ∙ ap (pointwise nat_eq (field (s.at + 4) s.len tail)) mac) in
    fits_is block sequence tail (placed_at tail s) (split (drop (s.at + 4 + s.len) tail)).rest true true c.eq.result len after same
