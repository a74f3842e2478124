-- Addresses of IPv6: each text is read as the octets that it spells, and no other text is read.
use Rattle.std.proofs.Common.{◌≡◌, ℕ, ◌+◌, ◌*◌, ◌/◌, ◌%◌, ◌<◌, Bool, true, false, cond, List, [], ◌∷◌, ◌++◌, Option, Some, None, refl, ap, sym, subst, ◌∙◌, arith, eqb}
use Rattle.std.proofs.lemmas.Bool.{eqb-true}
use Rattle.std.proofs.lemmas.Bool.Decides.{nat_tests}
use Rattle.text_forms.specs.Steps.{◌>>=◌}
use Rattle.text_forms.specs.Endpoints.{hex_digit, hex_octet, nibble, colon, mark_at, octet_at, groups_at, four, v6_at}
use Rattle.text_forms.proofs.Binds.{bind-some, bind-is, same-pair}

pub nibble-digit : (n : ℕ) → n < 16 → nibble (hex_digit n) ≡ Some n
nibble-digit n small = grind (arith, nat_tests)

pub digit-nibble : (c n : ℕ) → nibble c ≡ Some n → (n < 16) × (c ≡ hex_digit n)
digit-nibble c n is = (grind (arith, nat_tests), grind (arith, nat_tests))

pub octet_at-text : (a : ℕ) (rest : List ℕ) → a < 256 → octet_at (hex_octet a ++ rest) ≡ Some (a, rest)
octet_at-text a rest small =
    let high : nibble (hex_digit (a / 16)) ≡ Some (a / 16) = nibble-digit (a / 16) (omega arith) in
    let low : nibble (hex_digit (a % 16)) ≡ Some (a % 16) = nibble-digit (a % 16) (omega arith) in
    let whole : 16 * (a / 16) + a % 16 ≡ a = omega arith in
    ap (λ (o : Option ℕ). o >>= (λ h. nibble (hex_digit (a % 16)) >>= (λ l. Some (16 * h + l, rest)))) high
    ∙ ap (λ (o : Option ℕ). o >>= (λ l. Some (16 * (a / 16) + l, rest))) low
    ∙ ap (λ (n : ℕ). Some (n, rest)) whole

pub text-octet_at : (s : List ℕ) (a : ℕ) (rest : List ℕ) → octet_at s ≡ Some (a, rest) → (a < 256) × (s ≡ hex_octet a ++ rest)
text-octet_at [] a rest is = absurd cc
text-octet_at (c ∷ []) a rest is = absurd cc
text-octet_at (c ∷ d ∷ more) a rest is =
    bind-some (nibble c) _ _ is (λ h high on. bind-some (nibble d) _ _ on (λ l low end.
    let (h-small, c-is) = digit-nibble c h high in
    let (l-small, d-is) = digit-nibble d l low in
    let (whole, left) = same-pair (16 * h + l, more) (a, rest) end in
    let front : a / 16 ≡ h = omega arith in
    let back : a % 16 ≡ l = omega arith in
    (omega arith, rw (front, back, c-is, d-is, left) refl)))

pub text-mark_at : (mark : ℕ) (s rest : List ℕ) → mark_at mark s ≡ Some rest → s ≡ mark ∷ rest
text-mark_at mark [] rest is = absurd cc
text-mark_at mark (c ∷ cs) rest is = by (eqb c mark) refl is
  where
    by : (t : Bool) → eqb c mark ≡ t → cond t (Some cs) None ≡ Some rest → c ∷ cs ≡ mark ∷ rest
    by false test e = absurd cc
    by true test e =
        let same : c ≡ mark = eqb-true c mark test in
        let left : cs ≡ rest = cc in
        rw (same, left) refl

-- ---- two groups

abbrev pub Four : Type 0
Four = ℕ × ℕ × ℕ × ℕ

pub record AreOctets (g : Four) : Type 0 where
  pub first : g.0 < 256
  pub second : g.1 < 256
  pub third : g.2 < 256
  pub fourth : g.3 < 256

abbrev pub groups_text : Four → List ℕ → List ℕ
groups_text g rest = hex_octet g.0 ++ (hex_octet g.1 ++ (colon ∷ (hex_octet g.2 ++ (hex_octet g.3 ++ rest))))

pub groups_at-text : (g : Four) (rest : List ℕ) → AreOctets g → groups_at (groups_text g rest) ≡ Some (g, rest)
unfolding groups_at
groups_at-text g rest small =
    bind-is (octet_at (groups_text g rest)) _ _ _ (octet_at-text g.0 _ small.first)
    (bind-is (octet_at (hex_octet g.1 ++ (colon ∷ (hex_octet g.2 ++ (hex_octet g.3 ++ rest))))) _ _ _ (octet_at-text g.1 _ small.second)
    (bind-is (octet_at (hex_octet g.2 ++ (hex_octet g.3 ++ rest))) _ _ _ (octet_at-text g.2 _ small.third)
    (bind-is (octet_at (hex_octet g.3 ++ rest)) _ _ _ (octet_at-text g.3 _ small.fourth) refl)))

pub text-groups_at : (s : List ℕ) (g : Four) (rest : List ℕ) → groups_at s ≡ Some (g, rest) → AreOctets g × (s ≡ groups_text g rest)
unfolding groups_at
text-groups_at s g rest is =
    bind-some (octet_at s) _ _ is (λ a a-is more-a.
    bind-some (octet_at a.1) _ _ more-a (λ b b-is more-b.
    bind-some (mark_at colon b.1) _ _ more-b (λ r r-is more-r.
    bind-some (octet_at r) _ _ more-r (λ c c-is more-c.
    bind-some (octet_at c.1) _ _ more-c (λ d d-is end.
    let (a-small, a-text) = text-octet_at s a.0 a.1 a-is in
    let (b-small, b-text) = text-octet_at a.1 b.0 b.1 b-is in
    let r-text = text-mark_at colon b.1 r r-is in
    let (c-small, c-text) = text-octet_at r c.0 c.1 c-is in
    let (d-small, d-text) = text-octet_at c.1 d.0 d.1 d-is in
    let (same, left) = same-pair {A = Four} ((a.0, b.0, c.0, d.0), d.1) (g, rest) end in
    let spelled : s ≡ groups_text (a.0, b.0, c.0, d.0) rest = rw (← left, ← d-text, ← c-text, ← r-text, ← b-text) a-text in
    let small : AreOctets (a.0, b.0, c.0, d.0) = record { first = a-small; second = b-small; third = c-small; fourth = d-small } in
    let P : Four → Type 0 = λ f. AreOctets f × (s ≡ groups_text f rest) in
    subst P same (small, spelled))))))

-- ---- eight groups

unfoldable pub sixteen : Four → Four → Four → Four → List ℕ
sixteen a b c d = four a (four b (four c (four d [])))

unfoldable pub v6_text : Four → Four → Four → Four → List ℕ → List ℕ
v6_text a b c d rest = groups_text a (colon ∷ groups_text b (colon ∷ groups_text c (colon ∷ groups_text d rest)))

pub v6_at-text : (a b c d : Four) (rest : List ℕ) → AreOctets a → AreOctets b → AreOctets c → AreOctets d → v6_at (v6_text a b c d rest) ≡ Some (sixteen a b c d, rest)
unfolding v6_at v6_text sixteen
v6_at-text a b c d rest a-small b-small c-small d-small =
    bind-is (groups_at (groups_text a (colon ∷ groups_text b (colon ∷ groups_text c (colon ∷ groups_text d rest))))) _ _ _ (groups_at-text a _ a-small)
    (bind-is (groups_at (groups_text b (colon ∷ groups_text c (colon ∷ groups_text d rest)))) _ _ _ (groups_at-text b _ b-small)
    (bind-is (groups_at (groups_text c (colon ∷ groups_text d rest))) _ _ _ (groups_at-text c _ c-small)
    (bind-is (groups_at (groups_text d rest)) _ _ _ (groups_at-text d _ d-small) refl)))

pub text-v6_at : {C : Type 0} (s octets rest : List ℕ) → v6_at s ≡ Some (octets, rest) → ((a b c d : Four) → AreOctets a → AreOctets b → AreOctets c → AreOctets d → octets ≡ sixteen a b c d → s ≡ v6_text a b c d rest → C) → C
unfolding v6_at v6_text sixteen
text-v6_at s octets rest is k =
    bind-some (groups_at s) _ _ is (λ a a-is more-a.
    bind-some (mark_at colon a.1) _ _ more-a (λ r r-is more-r.
    bind-some (groups_at r) _ _ more-r (λ b b-is more-b.
    bind-some (mark_at colon b.1) _ _ more-b (λ t t-is more-t.
    bind-some (groups_at t) _ _ more-t (λ c c-is more-c.
    bind-some (mark_at colon c.1) _ _ more-c (λ u u-is more-u.
    bind-some (groups_at u) _ _ more-u (λ d d-is end.
    let (a-small, a-text) = text-groups_at s a.0 a.1 a-is in
    let r-text = text-mark_at colon a.1 r r-is in
    let (b-small, b-text) = text-groups_at r b.0 b.1 b-is in
    let t-text = text-mark_at colon b.1 t t-is in
    let (c-small, c-text) = text-groups_at t c.0 c.1 c-is in
    let u-text = text-mark_at colon c.1 u u-is in
    let (d-small, d-text) = text-groups_at u d.0 d.1 d-is in
    let (same, left) = same-pair (four a.0 (four b.0 (four c.0 (four d.0 []))), d.1) (octets, rest) end in
    let spelled : s ≡ groups_text a.0 (colon ∷ groups_text b.0 (colon ∷ groups_text c.0 (colon ∷ groups_text d.0 rest))) =
    rw (← left, ← d-text, ← u-text, ← c-text, ← t-text, ← b-text, ← r-text) a-text in
    k a.0 b.0 c.0 d.0 a-small b-small c-small d-small (sym same) spelled)))))))
