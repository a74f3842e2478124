-- The cases of integrity.
use Rattle.std.proofs.Common.{◌≡◌, ℕ, ◌+◌, ◌∙◌, Bool, true, false, ◌&&◌, if◌then◌else◌, eqb, nat_eq, List, [], ◌∷◌, ◌++◌, length, take, drop, Option, Some, None, option_to_list, refl, sym, ap, inl, inr, ◌⊎◌}
use Rattle.std.specs.Cmp.Lexicographic.{pointwise}
use Rattle.hmac_sha256.specs.Hmac.{mac128_of}
use Rattle.refl_types.specs.declared.types.Mode.{Mode}
use Rattle.refl_types.specs.declared.config.ConfigParts.{ConfigParts}
use Rattle.tlv_chain.specs.declared.span.Span.{Span}
use Rattle.tlv_chain.specs.Tlv.{Tlv}
use Rattle.tlv_chain.specs.Split.{split}
use Rattle.tlv_integrity.proofs.Loops.{first_skips, first_takes}
use Rattle.tlv_integrity.specs.declared.integrity.Integrity.{Integrity}
use Rattle.tlv_integrity.specs.declared.integrity.Integrity.TheVariants.{Absent, Passed, Failed}
use Rattle.tlv_integrity.specs.Heads.{Placed, first_from, heads, kinds, rest_head, all_padding, has_hmac}
use Rattle.tlv_integrity.specs.Integrity.{fits, covered, integrity_of, integrity, may_lack_hmac}
use Rattle.tlv_integrity.specs.InnerSteps.{placed_at, IsFirstHmac, HasNoHmac, without, is_hmac_head}

-- ---- whether the HMAC TLV fits

pub fits_is : (block sequence tail : List ℕ) (p : Placed) (rest : List ℕ) (a b c : Bool) → eqb (length p.value) 16 ≡ a → all_padding (kinds p.after ++ option_to_list (rest_head rest)) ≡ b → pointwise nat_eq p.value (mac128_of block (sequence ++ take p.at tail)) ≡ c → (a && b && c) ≡ fits block sequence tail p rest
unfolding fits
fits_is block sequence tail p rest a b c ea eb ec = rw (ea, eb, ec) refl

-- ---- the key

pub without_key : (mode : Mode) (c : ConfigParts) (sequence tail : List ℕ) → c.key ≡ None → Absent ≡ integrity mode c sequence tail
unfolding integrity
without_key mode c sequence tail e = rw e refl

pub with_key : (mode : Mode) (c : ConfigParts) (block sequence tail : List ℕ) → c.key ≡ Some block → integrity_of mode block sequence tail (split tail) ≡ integrity mode c sequence tail
unfolding integrity
with_key mode c block sequence tail e = rw e refl

-- ---- the first head that is 8

true_or_false : (b : Bool) → (b ≡ true) ⊎ (b ≡ false)
true_or_false true = inl refl
true_or_false false = inr refl

some_hmac : (at : ℕ) (ts : List Tlv) (p : Placed) (more : List ℕ) → first_from at ts ≡ Some p → has_hmac (kinds ts ++ more) ≡ true
some_hmac at [] p more e = absurd cc
some_hmac at (t ∷ ts) p more e =
    elim (true_or_false (eqb t.kind 8)) [
      | inl y ↦ rw y refl
      | inr n ↦ rw n (some_hmac (at + 4 + length t.value) ts p more (sym (first_skips at t ts n) ∙ e))
    ]

no_hmac : (at : ℕ) (ts : List Tlv) (more : List ℕ) → first_from at ts ≡ None → has_hmac (kinds ts ++ more) ≡ has_hmac more
no_hmac at [] more e = refl
no_hmac at (t ∷ ts) more e =
    elim (true_or_false (eqb t.kind 8)) [
      | inl y ↦ let x : Some _ ≡ None = sym (first_takes at t ts y) ∙ e in absurd cc
      | inr n ↦ rw n (no_hmac (at + 4 + length t.value) ts more (sym (first_skips at t ts n) ∙ e))
    ]

pub found_is : (mode : Mode) (block sequence tail : List ℕ) (s : Span) (b : Bool) → IsFirstHmac tail s → b ≡ fits block sequence tail (placed_at tail s) (split (drop (s.at + 4 + s.len) tail)).rest → (if b then Passed s.at else Failed) ≡ integrity_of mode block sequence tail (split tail)
found_is mode block sequence tail s b first e =
    let has : has_hmac (heads (split tail)) ≡ true = some_hmac 0 (split tail).tlvs (placed_at tail s) (option_to_list (rest_head (split tail).rest)) first.first in
    rw (has, first.first, first.rest, sym e) refl

same_if : (b : Bool) (x y : Integrity) → (if b then x else y) ≡ (if (if b then true else false) then x else y)
same_if true x y = refl
same_if false x y = refl

heads_or : (h : Option ℕ) (x y : Integrity) → (if is_hmac_head h then x else y) ≡ (if has_hmac (option_to_list h) then x else y)
heads_or None x y = refl
heads_or (Some k) x y = same_if (eqb k 8) x y

pub absent_is : (mode : Mode) (block sequence tail : List ℕ) (at : ℕ) → HasNoHmac tail at → without mode (rest_head (drop at tail)) (heads (split tail)) ≡ integrity_of mode block sequence tail (split tail)
absent_is mode block sequence tail at none =
    let s = split tail in
    let lack : Integrity = if may_lack_hmac mode (heads s) then Absent else Failed in
    let has : has_hmac (heads s) ≡ has_hmac (option_to_list (rest_head (drop at tail))) =
    no_hmac 0 s.tlvs (option_to_list (rest_head s.rest)) none.none ∙ ap (λ (r : List ℕ). has_hmac (option_to_list (rest_head r))) none.rest in
    heads_or (rest_head (drop at tail)) Failed lack
    ∙ ap (λ (b : Bool). if b then Failed else lack) (sym has)
    ∙ ap (λ (o : Option Placed). if has_hmac (heads s) then covered block sequence tail o s.rest else lack) (sym none.none)
