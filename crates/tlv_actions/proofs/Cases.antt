-- The cases of a reply's TLV.
use Rattle.std.proofs.Common.{◌≡◌, ℕ, true, false, Bool, if◌then◌else◌, ◌&&◌, ◌||◌, not, List, length, take, subst, ◌∙◌, sym, ◌==◌, eqb, refl, ap}
use Rattle.std.proofs.lemmas.Bool.{eqb-true, ne_eqb}
use Rattle.refl_types.specs.declared.config.ConfigParts.{ConfigParts}
use Rattle.tlv_chain.specs.Tlv.{Tlv, unrecognized, malformed}
use Rattle.tlv_actions.specs.declared.facts.Plan.{Plan}
use Rattle.tlv_actions.specs.declared.reply.Acted.TheVariants.{Done, Malformed}
use Rattle.tlv_actions.specs.Rows.{Facts, is_understood, has_valid_length, is_at, is_malformed, is_malformed_at, measured, flags_at, reply_value, reply_tlv, acted_on}

pub reply_unknown : (c : ConfigParts) (f : Facts) (at : ℕ) (t : Tlv) → is_understood c t.kind ≡ false → (let u : Tlv = record t { flags = unrecognized } in u) ≡ reply_tlv c f at t
unfolding reply_tlv
reply_unknown c f at t e = rw e refl

pub reply_bad : (c : ConfigParts) (f : Facts) (at : ℕ) (t : Tlv) → is_understood c t.kind ≡ true → is_malformed_at c f.plan at t ≡ true → (let u : Tlv = record t { flags = malformed } in u) ≡ reply_tlv c f at t
unfolding reply_tlv
reply_bad c f at t e m = rw (e, m) refl

pub reply_good : (c : ConfigParts) (f : Facts) (at : ℕ) (t : Tlv) (flags : ℕ) (value : List ℕ) → is_understood c t.kind ≡ true → is_malformed_at c f.plan at t ≡ false → flags ≡ flags_at f.plan at t.kind → value ≡ reply_value c f.n t → (let u : Tlv = record { flags = flags; kind = t.kind; value = value } in u) ≡ reply_tlv c f at t
unfolding reply_tlv
reply_good c f at t flags value e m g v =
    rw (e, m) (ap (λ (x : ℕ). let u : Tlv = record { flags = x; kind = t.kind; value = value } in u) g ∙ ap (λ (x : List ℕ). let u : Tlv = record { flags = flags_at f.plan at t.kind; kind = t.kind; value = x } in u) v)

pub acted_unknown : (c : ConfigParts) (p : Plan) (at : ℕ) (t : Tlv) → is_understood c t.kind ≡ false → Done ≡ acted_on c p at t
unfolding is_malformed
acted_unknown c p at t e = rw e refl

pub acted_bad : (c : ConfigParts) (p : Plan) (at : ℕ) (t : Tlv) → is_malformed_at c p at t ≡ true → Malformed ≡ acted_on c p at t
acted_bad c p at t m = rw m refl

pub acted_good : (c : ConfigParts) (p : Plan) (at : ℕ) (t : Tlv) → is_malformed_at c p at t ≡ false → Done ≡ acted_on c p at t
acted_good c p at t m = rw m refl

-- what was tested of the TLV's type and length
pub malformed_same : (c : ConfigParts) (p : Plan) (at : ℕ) (t : Tlv) (b known : Bool) (len : ℕ) → length t.value ≡ len → b ≡ is_malformed c (is_at p.nine at) t.kind len → b ≡ known → is_malformed_at c p at t ≡ known
malformed_same c p at t b known len l e k = ap (λ (n : ℕ). is_malformed c (is_at p.nine at) t.kind n) l ∙ sym e ∙ k

-- Extra Padding is understood, has any length, and comes back as it was with flags 0

pub padding_reply : (c : ConfigParts) (f : Facts) (at : ℕ) (t : Tlv) → t.kind ≡ 1 → (let u : Tlv = record t { flags = 0 } in u) ≡ reply_tlv c f at t
unfolding reply_tlv is_malformed is_understood has_valid_length
padding_reply c f at t k = rw k refl

pub padding_done : (c : ConfigParts) (p : Plan) (at : ℕ) (t : Tlv) → t.kind ≡ 1 → Done ≡ acted_on c p at t
unfolding is_malformed is_understood has_valid_length
padding_done c p at t k = rw k refl

-- ---- the test of a TLV whose type is understood

and_valid : (u v f : Bool) → v ≡ true → false ≡ (u && not v && f)
and_valid true true f e = refl
and_valid false true f e = refl
and_valid u false f e = absurd cc

and_other : (u v f n : Bool) → u ≡ true → v ≡ false → n ≡ false → true ≡ (u && not v && (f || not n))
and_other true false true n e g h = refl
and_other true false false false e g h = refl
and_other true false false true e g h = absurd cc
and_other true true f n e g h = absurd cc
and_other false v f n e g h = absurd cc

and_nine : (u v f n : Bool) → u ≡ true → v ≡ false → n ≡ true → f ≡ (u && not v && (f || not n))
and_nine true false true n e g h = refl
and_nine true false false true e g h = refl
and_nine true false false false e g h = absurd cc
and_nine true true f n e g h = absurd cc
and_nine false v f n e g h = absurd cc

pub valid_is : (c : ConfigParts) (first : Bool) (kind len : ℕ) → has_valid_length kind len ≡ true → false ≡ is_malformed c first kind len
unfolding is_malformed
valid_is c first kind len v = and_valid (is_understood c kind) (has_valid_length kind len) (first || not (eqb kind 9)) v

pub other_is : (c : ConfigParts) (first : Bool) (kind len : ℕ) → is_understood c kind ≡ true → has_valid_length kind len ≡ false → (kind ≡ 9 → ⊥) → not (eqb kind 9) ≡ is_malformed c first kind len
unfolding is_malformed
other_is c first kind len u v n = ap not (ne_eqb kind 9 n) ∙ and_other (is_understood c kind) (has_valid_length kind len) first (eqb kind 9) u v (ne_eqb kind 9 n)

pub nine_is : (c : ConfigParts) (first : Bool) (kind len : ℕ) → is_understood c kind ≡ true → has_valid_length kind len ≡ false → kind ≡ 9 → first ≡ is_malformed c first kind len
unfolding is_malformed
nine_is c first kind len u v n = and_nine (is_understood c kind) (has_valid_length kind len) first (eqb kind 9) u v (ap (λ (k : ℕ). eqb k 9) n)

-- ---- what isn't malformed has a valid length

valid_if : (u v f : Bool) → u ≡ true → f ≡ true → (u && not v && f) ≡ false → v ≡ true
valid_if true true true e g m = refl
valid_if true false true e g m = absurd cc
valid_if u v false e g m = absurd cc
valid_if false v f e g m = absurd cc

other_kind : (first : Bool) (kind k : ℕ) → kind ≡ k → eqb k 9 ≡ false → (first || not (eqb kind 9)) ≡ true
other_kind true kind k e n = refl
other_kind false kind k e n = ap (λ (x : ℕ). not (eqb x 9)) e ∙ ap not n

pub valid_3 : (c : ConfigParts) (first : Bool) (kind len : ℕ) → kind ≡ 3 → is_understood c kind ≡ true → is_malformed c first kind len ≡ false → len ≡ 4
unfolding is_malformed has_valid_length
valid_3 c first kind len k u m =
    let v = valid_if (is_understood c kind) (has_valid_length kind len) (first || not (eqb kind 9)) u (other_kind first kind 3 k refl) m in
    let f : has_valid_length 3 len ≡ true = subst (λ (x : ℕ). has_valid_length x len ≡ true) k v in eqb-true len 4 f

pub valid_5 : (c : ConfigParts) (first : Bool) (kind len : ℕ) → kind ≡ 5 → is_understood c kind ≡ true → is_malformed c first kind len ≡ false → len ≡ 12
unfolding is_malformed has_valid_length
valid_5 c first kind len k u m =
    let v = valid_if (is_understood c kind) (has_valid_length kind len) (first || not (eqb kind 9)) u (other_kind first kind 5 k refl) m in
    let f : has_valid_length 5 len ≡ true = subst (λ (x : ℕ). has_valid_length x len ≡ true) k v in eqb-true len 12 f

-- ---- the flags and the values

pub flags_3 : (p : Plan) (at kind : ℕ) → kind ≡ 3 → 0 ≡ flags_at p at kind
flags_3 p at kind k = rw k refl

pub flags_5 : (p : Plan) (at kind : ℕ) → kind ≡ 5 → 0 ≡ flags_at p at kind
flags_5 p at kind k = rw k refl

pub value_3 : (c : ConfigParts) (n : ℕ) (t : Tlv) → t.kind ≡ 3 → c.info ≡ reply_value c n t
value_3 c n t k = rw k refl

pub value_5 : (c : ConfigParts) (n : ℕ) (t : Tlv) → t.kind ≡ 5 → measured n (take 4 t.value) ≡ reply_value c n t
value_5 c n t k = rw k refl

other : (kind : ℕ) (info m value : List ℕ) → (kind ≡ 3 → ⊥) → (kind ≡ 5 → ⊥) → value ≡ (if kind == 3 then info else (if kind == 5 then m else value))
other kind info m value a b = rw (ne_eqb kind 3 a, ne_eqb kind 5 b) refl

pub value_other : (c : ConfigParts) (n : ℕ) (t : Tlv) → (t.kind ≡ 3 → ⊥) → (t.kind ≡ 5 → ⊥) → t.value ≡ reply_value c n t
value_other c n t a b = other t.kind c.info (measured n (take 4 t.value)) t.value a b
