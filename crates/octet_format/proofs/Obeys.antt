-- A reader obeys a spelling: what is read is spelled so, what is spelled so is read, too few octets are the front of a
-- spelling, and octets that will not do stay so whatever follows them.
use Rattle.std.proofs.Common.{◌≡◌, ℕ, zero, suc, ◌+◌, ◌-◌, ◌^◌, ◌<◌, ◌≤◌, Bool, true, false, cond, ltb, List, [], ◌∷◌, ◌++◌, length, take, drop, replicate, Result, Ok, Err, refl, sym, ap, subst, ◌∙◌, append_assoc, arith, inl, inr, ◌⊎◌, eqb, leb, ◌&&◌}
use Rattle.std.proofs.lemmas.Bool.Decides.{nat_tests}
use Rattle.std.specs.Int.{w16, w32, w64, from_be_bytes, to_be_bytes}
use Rattle.std.proofs.lemmas.Bool.{eqb-true, cases_lt, ltb-false, ltb-true, le-ltb}
use Rattle.std.proofs.lemmas.List.{take_at, drop_at, take-append-drop, length-append, length-take, get_or-drop, get_or-take, get_or_past, length-replicate}
use Rattle.std.proofs.lemmas.Nat.{be_bytes_2, be_bytes_4, be_bytes_8, from_be_bytes-to_be_bytes_2, from_be_bytes-to_be_bytes_4, from_be_bytes-to_be_bytes_8}
use Rattle.octet_format.specs.declared.reading.Unread.{Unread}
use Rattle.octet_format.specs.declared.reading.Unread.TheVariants.{More, Bad}
use Rattle.octet_format.specs.Octets.{IsBytes, IsArray}
use Rattle.octet_format.specs.Reading.{◌>>=◌, octet_at, number_at, octets_at, zeros_at, octet_in}

-- ---- octets

pub IsBytes-drop : (n : ℕ) (bytes : List ℕ) → IsBytes bytes → IsBytes (drop n bytes)
IsBytes-drop n bytes h i = rw get_or-drop (h (n + i))

pub IsBytes-take : (n : ℕ) (bytes : List ℕ) → IsBytes bytes → IsBytes (take n bytes)
IsBytes-take n bytes h i =
    elim (cases_lt i n) [
      | inl lt ↦ rw (get_or-take n bytes i 0 lt) (h i)
      | inr le ↦ rw (get_or_past (take n bytes) i 0 (omega (arith, length-take n bytes))) (omega arith)
    ]

pub IsBytes-tail : (b : ℕ) (bytes : List ℕ) → IsBytes (b ∷ bytes) → IsBytes bytes
IsBytes-tail b bytes h i = h (suc i)

pub IsBytes-back : (a b : List ℕ) → IsBytes (a ++ b) → IsBytes b
IsBytes-back [] b h = h
IsBytes-back (x ∷ a) b h = IsBytes-back a b (IsBytes-tail x (a ++ b) h)

-- ---- results

-- the value of a step that did not fail
pub bind_ok : {A B : Type 0} (r : Result A Unread) (f : A → Result B Unread) (y : B) → (r >>= f) ≡ Ok y → (x : A) × (r ≡ Ok x) × (f x ≡ Ok y)
bind_ok (Ok x) f y e = (x, refl, e)
bind_ok (Err d) f y e = absurd cc

-- which step stopped
pub bind_err : {A B : Type 0} (r : Result A Unread) (f : A → Result B Unread) (d : Unread) → (r >>= f) ≡ Err d → (r ≡ Err d) ⊎ ((x : A) × (r ≡ Ok x) × (f x ≡ Err d))
bind_err (Ok x) f d e = inr (x, refl, e)
bind_err (Err d') f d e = inl cc

pub ok_is : {A : Type 0} (x y : A) → ◌≡◌ {A = Result A Unread} (Ok x) (Ok y) → x ≡ y
ok_is x y e = cc

pub ok_err : {A : Type 0} (x : A) (d : Unread) → ◌≡◌ {A = Result A Unread} (Ok x) (Err d) → ⊥
ok_err x d e = cc

-- ---- the four laws

pub record Obeys {A : Type 0} (read : List ℕ → Result (A × List ℕ) Unread) (spell : A → List ℕ) (Fits : A → Type 0) : Type 0 where
  pub some : (a : A) × Fits a
  pub got : (octets : List ℕ) (a : A) (rest : List ℕ) → IsBytes octets → read octets ≡ Ok (a, rest) → (octets ≡ spell a ++ rest) × Fits a
  pub again : (a : A) (rest : List ℕ) → Fits a → read (spell a ++ rest) ≡ Ok (a, rest)
  pub more : (octets : List ℕ) → IsBytes octets → read octets ≡ Err More → (a : A) × (rest : List ℕ) × Fits a × (0 < length rest) × (octets ++ rest ≡ spell a)
  pub bad : (octets tail : List ℕ) → IsBytes octets → read octets ≡ Err Bad → read (octets ++ tail) ≡ Err Bad

-- one part, and then another that may depend on it
module _ {A C : Type 0} (rf : List ℕ → Result (A × List ℕ) Unread) (sf : A → List ℕ) (Ff : A → Type 0) (key : C → A) (rg : A → List ℕ → Result (C × List ℕ) Unread) (sg : A → C → List ℕ) (Fg : A → C → Type 0) where
  pub then_obeys : Obeys rf sf Ff → ((a : A) → Ff a → Obeys (rg a) (sg a) (Fg a)) → ((a : A) (c : C) → Ff a → Fg a c → key c ≡ a)
      → Obeys (λ octets. rf octets >>= λ x. rg x.0 x.1) (λ c. sf (key c) ++ sg (key c) c) (λ c. Ff (key c) × Fg (key c) c)
  then_obeys f g keyed = record {
    some =
        let a = f.some in
        let c = (g a.0 a.1).some in
        let e = keyed a.0 c.0 a.1 c.1 in
        (c.0, (subst Ff (sym e) a.1, subst (λ (x : A). Fg x c.0) (sym e) c.1));
    got = λ octets c rest bytes e.
        let b = bind_ok (rf octets) (λ x. rg x.0 x.1) (c, rest) e in
        let first = f.got octets b.0.0 b.0.1 bytes b.1 in
        let mid : IsBytes b.0.1 = IsBytes-back (sf b.0.0) b.0.1 (subst IsBytes first.0 bytes) in
        let second = (g b.0.0 first.1).got b.0.1 c rest mid b.2 in
        let k = keyed b.0.0 c first.1 second.1 in
        let whole : octets ≡ (sf b.0.0 ++ sg b.0.0 c) ++ rest = first.0 ∙ ap (λ (r : List ℕ). sf b.0.0 ++ r) second.0 ∙ sym (append_assoc (sf b.0.0) (sg b.0.0 c) rest) in
        subst (λ (a : A). (octets ≡ (sf a ++ sg a c) ++ rest) × (Ff a × Fg a c)) (sym k) (whole, (first.1, second.1));
    again = λ c rest fits.
        let e : rf ((sf (key c) ++ sg (key c) c) ++ rest) ≡ Ok (key c, sg (key c) c ++ rest) = ap rf (append_assoc (sf (key c)) (sg (key c) c) rest) ∙ f.again (key c) (sg (key c) c ++ rest) fits.0 in
        rw e ((g (key c) fits.0).again c rest fits.1);
    more = λ octets bytes e.
        elim (bind_err (rf octets) (λ x. rg x.0 x.1) More e) [
          | inl first ↦
              let m = f.more octets bytes first in
              let c = (g m.0 m.2).some in
              let k = keyed m.0 c.0 m.2 c.1 in
              let whole : octets ++ (m.1 ++ sg m.0 c.0) ≡ sf m.0 ++ sg m.0 c.0 = sym (append_assoc octets m.1 (sg m.0 c.0)) ∙ ap (λ (r : List ℕ). r ++ sg m.0 c.0) m.4 in (
                c.0,
                m.1 ++ sg m.0 c.0,
                (subst Ff (sym k) m.2, subst (λ (a : A). Fg a c.0) (sym k) c.1),
                omega (arith, length-append m.1 (sg m.0 c.0), m.3),
                subst (λ (a : A). octets ++ (m.1 ++ sg m.0 c.0) ≡ sf a ++ sg a c.0) (sym k) whole,
              )
          | inr second ↦
              let first = f.got octets second.0.0 second.0.1 bytes second.1 in
              let mid : IsBytes second.0.1 = IsBytes-back (sf second.0.0) second.0.1 (subst IsBytes first.0 bytes) in
              let m = (g second.0.0 first.1).more second.0.1 mid second.2 in
              let k = keyed second.0.0 m.0 first.1 m.2 in
              let whole : octets ++ m.1 ≡ sf second.0.0 ++ sg second.0.0 m.0 = ap (λ (r : List ℕ). r ++ m.1) first.0 ∙ append_assoc (sf second.0.0) second.0.1 m.1 ∙ ap (λ (r : List ℕ). sf second.0.0 ++ r) m.4 in
              (m.0, m.1, (subst Ff (sym k) first.1, subst (λ (a : A). Fg a m.0) (sym k) m.2), m.3, subst (λ (a : A). octets ++ m.1 ≡ sf a ++ sg a m.0) (sym k) whole)
        ];
    bad = λ octets tail bytes e.
        elim (bind_err (rf octets) (λ x. rg x.0 x.1) Bad e) [
          | inl first ↦ rw (f.bad octets tail bytes first) refl
          | inr second ↦
              let first = f.got octets second.0.0 second.0.1 bytes second.1 in
              let mid : IsBytes second.0.1 = IsBytes-back (sf second.0.0) second.0.1 (subst IsBytes first.0 bytes) in
              let moved : rf (octets ++ tail) ≡ Ok (second.0.0, second.0.1 ++ tail) = ap rf (ap (λ (r : List ℕ). r ++ tail) first.0 ∙ append_assoc (sf second.0.0) second.0.1 tail) ∙ f.again second.0.0 (second.0.1 ++ tail) first.1 in
              rw moved ((g second.0.0 first.1).bad second.0.1 tail mid second.2)
        ];
  }

-- nothing more is read
pub done_obeys : {C : Type 0} (c : C) → Obeys (λ octets. Ok (c, octets)) (λ _. []) (λ x. c ≡ x)
done_obeys {C = C} c = record {
  some = (c, refl);
  got = λ octets x rest bytes e. let p = ok_is (c, octets) (x, rest) e in (ap (λ (y : C × List ℕ). y.1) p, ap (λ (y : C × List ℕ). y.0) p);
  again = λ x rest fits. ap (λ (y : C). Ok (y, rest)) fits;
  more = λ octets bytes e. absurd (ok_err (c, octets) More e);
  bad = λ octets tail bytes e. absurd (ok_err (c, octets) Bad e);
}

-- the same spelling and the same values, said otherwise
pub same_obeys : {A : Type 0} (read : List ℕ → Result (A × List ℕ) Unread) (s t : A → List ℕ) (F G : A → Type 0) → Obeys read s F → ((a : A) → F a → G a × (s a ≡ t a)) → ((a : A) → G a → F a) → Obeys read t G
same_obeys read s t F G o there back = record {
  some = (o.some.0, (there o.some.0 o.some.1).0);
  got = λ octets a rest bytes e.
      let g = o.got octets a rest bytes e in
      let m = there a g.1 in
      (g.0 ∙ ap (λ (r : List ℕ). r ++ rest) m.1, m.0);
  again = λ a rest fits.
      let f = back a fits in
      let m = there a f in
      ap (λ (r : List ℕ). read (r ++ rest)) (sym m.1) ∙ o.again a rest f;
  more = λ octets bytes e.
      let m = o.more octets bytes e in
      let n = there m.0 m.2 in
      (m.0, m.1, n.0, m.3, m.4 ∙ n.1);
  bad = o.bad;
}

-- the same under another name
module _ {A B : Type 0} (read : List ℕ → Result (A × List ℕ) Unread) (s : A → List ℕ) (F : A → Type 0) (to : A → B) (t : B → List ℕ) (G : B → Type 0) where
  pub into_obeys : Obeys read s F → ((a : A) → F a → G (to a) × (t (to a) ≡ s a)) → ((b : B) → G b → (a : A) × F a × (to a ≡ b))
      → Obeys (λ octets. read octets >>= λ x. Ok (to x.0, x.1)) t G
  into_obeys o there back = record {
    some = (to o.some.0, (there o.some.0 o.some.1).0);
    got = λ octets b rest bytes e.
        let x = bind_ok (read octets) (λ x. Ok (to x.0, x.1)) (b, rest) e in
        let p = ok_is (to x.0.0, x.0.1) (b, rest) x.2 in
        let g = o.got octets x.0.0 x.0.1 bytes x.1 in
        let m = there x.0.0 g.1 in
        let same : to x.0.0 ≡ b = ap (λ (y : B × List ℕ). y.0) p in
        let left : x.0.1 ≡ rest = ap (λ (y : B × List ℕ). y.1) p in
        (g.0 ∙ ap (λ (r : List ℕ). s x.0.0 ++ r) left ∙ ap (λ (r : List ℕ). r ++ rest) (sym m.1 ∙ ap t same), subst G same m.0);
    again = λ b rest fits.
        let x = back b fits in
        let m = there x.0 x.1 in
        let e : read (t b ++ rest) ≡ Ok (x.0, rest) = ap (λ (r : List ℕ). read (r ++ rest)) (ap t (sym x.2) ∙ m.1) ∙ o.again x.0 rest x.1 in
        rw e (ap (λ (y : B). Ok (y, rest)) x.2);
    more = λ octets bytes e. elim (bind_err (read octets) (λ x. Ok (to x.0, x.1)) More e) [
      | inl first ↦
          let m = o.more octets bytes first in
          let n = there m.0 m.2 in
          (to m.0, m.1, n.0, m.3, m.4 ∙ sym n.1)
      | inr second ↦ absurd (ok_err (to second.0.0, second.0.1) More second.2)
    ];
    bad = λ octets tail bytes e. elim (bind_err (read octets) (λ x. Ok (to x.0, x.1)) Bad e) [
      | inl first ↦ rw (o.bad octets tail bytes first) refl
      | inr second ↦ absurd (ok_err (to second.0.0, second.0.1) Bad second.2)
    ];
  }

-- ---- leaves

chosen : {A : Type 0} (b : Bool) (d : Unread) (x y : A) → cond b (Ok x) (Err d) ≡ Ok y → (b ≡ true) × (x ≡ y)
chosen true d x y e = (refl, ok_is x y e)
chosen false d x y e = absurd cc

refused : {A : Type 0} (b : Bool) (d f : Unread) (x : A) → cond b (Ok x) (Err d) ≡ Err f → (b ≡ false) × (d ≡ f)
refused true d f x e = absurd cc
refused false d f x e = (refl, cc)

more≢bad : More ≡ Bad → ⊥
more≢bad e = cc

bad≢more : Bad ≡ More → ⊥
bad≢more e = cc

abbrev pub FitsOctet : (ℕ → Bool) → ℕ → Type 0
FitsOctet test b = (test b ≡ true) × (b < 256)

octet_got : (test : ℕ → Bool) (octets : List ℕ) (a : ℕ) (rest : List ℕ) → IsBytes octets → octet_at test octets ≡ Ok (a, rest) → (octets ≡ (a ∷ []) ++ rest) × FitsOctet test a
octet_got test [] a rest bytes e = absurd cc
octet_got test (b ∷ octets) a rest bytes e =
    let c = chosen (test b) Bad (b, octets) (a, rest) e in
    let x : b ≡ a = ap (λ (y : ℕ × List ℕ). y.0) c.1 in
    let r : octets ≡ rest = ap (λ (y : ℕ × List ℕ). y.1) c.1 in
    (ap (λ (n : ℕ). n ∷ octets) x ∙ ap (λ (l : List ℕ). a ∷ l) r, (ap test (sym x) ∙ c.0, subst (λ (n : ℕ). n < 256) x (bytes 0)))

octet_more : (test : ℕ → Bool) (w : ℕ) → FitsOctet test w → (octets : List ℕ) → octet_at test octets ≡ Err More → (a : ℕ) × (rest : List ℕ) × FitsOctet test a × (0 < length rest) × (octets ++ rest ≡ a ∷ [])
octet_more test w fits [] e = (w, w ∷ [], fits, omega arith, refl)
octet_more test w fits (b ∷ octets) e = absurd (bad≢more (refused (test b) Bad More (b, octets) e).1)

octet_bad : (test : ℕ → Bool) (octets tail : List ℕ) → octet_at test octets ≡ Err Bad → octet_at test (octets ++ tail) ≡ Err Bad
octet_bad test [] tail e = absurd cc
octet_bad test (b ∷ octets) tail e = let c = refused (test b) Bad Bad (b, octets) e in rw c.0 refl

pub octet_obeys : (test : ℕ → Bool) (w : ℕ) → FitsOctet test w → Obeys (octet_at test) (λ b. b ∷ []) (FitsOctet test)
octet_obeys test w fits = record {
  some = (w, fits);
  got = octet_got test;
  again = λ a rest f. rw (f.0) refl;
  more = λ octets bytes e. octet_more test w fits octets e;
  bad = λ octets tail bytes e. octet_bad test octets tail e;
}

take_or_stop : {A : Type 0} (b : Bool) (x y : A) → cond b (Err More) (Ok x) ≡ Ok y → (b ≡ false) × (x ≡ y)
take_or_stop true x y e = absurd cc
take_or_stop false x y e = (refl, ok_is x y e)

take_stops : {A : Type 0} (b : Bool) (d : Unread) (x : A) → cond b (Err More) (Ok x) ≡ Err d → (b ≡ true) × (More ≡ d)
take_stops true d x e = (refl, cc)
take_stops false d x e = absurd cc

-- a string of n octets that stand for a value
pub record IsWide {A : Type 0} (n : ℕ) (of : List ℕ → A) (spell : A → List ℕ) (Fits : A → Type 0) : Type 0 where
  pub len : (a : A) → Fits a → length (spell a) ≡ n
  pub back : (bytes : List ℕ) → length bytes ≡ n → IsBytes bytes → spell (of bytes) ≡ bytes
  pub again : (a : A) → Fits a → of (spell a) ≡ a
  pub fits : (bytes : List ℕ) → length bytes ≡ n → IsBytes bytes → Fits (of bytes)

abbrev pub wide_at : {A : Type 0} → ℕ → (List ℕ → A) → List ℕ → Result (A × List ℕ) Unread
wide_at n of octets = cond (ltb (length octets) n) (Err More) (Ok (of (take n octets), drop n octets))

zeros_are_bytes : (n : ℕ) → IsBytes (replicate n 0)
zeros_are_bytes zero i = omega arith
zeros_are_bytes (suc n) zero = omega arith
zeros_are_bytes (suc n) (suc i) = zeros_are_bytes n i

bytes_append : (a b : List ℕ) → IsBytes a → IsBytes b → IsBytes (a ++ b)
bytes_append [] b ha hb i = hb i
bytes_append (x ∷ a) b ha hb zero = ha 0
bytes_append (x ∷ a) b ha hb (suc i) = bytes_append a b (IsBytes-tail x a ha) hb i

module _ {A : Type 0} (n : ℕ) (of : List ℕ → A) (spell : A → List ℕ) (Fits : A → Type 0) (w : IsWide n of spell Fits) where
  pub wide_obeys : Obeys (wide_at n of) spell Fits
  wide_obeys = record {
    some = (of (replicate n 0), w.fits (replicate n 0) (length-replicate n 0) (zeros_are_bytes n));
    got = λ octets a rest bytes e.
        let c = take_or_stop (ltb (length octets) n) (of (take n octets), drop n octets) (a, rest) e in
        let enough : n ≤ length octets = ltb-false (length octets) n c.0 in
        let len : length (take n octets) ≡ n = omega (arith, length-take n octets) in
        let made : of (take n octets) ≡ a = ap (λ (y : A × List ℕ). y.0) c.1 in
        let left : drop n octets ≡ rest = ap (λ (y : A × List ℕ). y.1) c.1 in
        let bs = IsBytes-take n octets bytes in (
          sym (take-append-drop n octets) ∙ ap (λ (r : List ℕ). r ++ drop n octets) (sym (w.back (take n octets) len bs) ∙ ap spell made) ∙ ap (λ (r : List ℕ). spell a ++ r) left,
          subst Fits made (w.fits (take n octets) len bs),
        );
    again = λ a rest f.
        let len = w.len a f in
        let test : ltb (length (spell a ++ rest)) n ≡ false = le-ltb (length (spell a ++ rest)) n (omega (arith, length-append (spell a) rest)) in
        rw (test, take_at (spell a) rest n len, drop_at (spell a) rest n len, w.again a f) refl;
    more = λ octets bytes e.
        let c = take_stops (ltb (length octets) n) More (of (take n octets), drop n octets) e in
        let short : length octets < n = ltb-true (length octets) n c.0 in
        let rest = replicate (n - length octets) 0 in
        let some : length rest ≡ n - length octets = length-replicate (n - length octets) 0 in
        let all : length (octets ++ rest) ≡ n = omega (arith, length-append octets rest) in
        let bs : IsBytes (octets ++ rest) = bytes_append octets rest bytes (zeros_are_bytes (n - length octets)) in
        (of (octets ++ rest), rest, w.fits (octets ++ rest) all bs, omega arith, sym (w.back (octets ++ rest) all bs));
    bad = λ octets tail bytes e. absurd (more≢bad (take_stops (ltb (length octets) n) Bad (of (take n octets), drop n octets) e).1);
  }

-- ---- octets within a range

abbrev pub Within : ℕ → ℕ → ℕ → Type 0
Within low high b = (low ≤ b) × (b ≤ high)

range_true : (low high b : ℕ) → Within low high b → (leb low b && leb b high) ≡ true
range_true low high b w = grind (arith, nat_tests)

true_range : (low high b : ℕ) → (leb low b && leb b high) ≡ true → Within low high b
true_range low high b e = (grind (arith, nat_tests), grind (arith, nat_tests))

pub range_obeys : (low high : ℕ) → low ≤ high → high < 256 → Obeys (octet_in low high) (λ b. b ∷ []) (Within low high)
range_obeys low high some top =
    let test : ℕ → Bool = λ b. leb low b && leb b high in
    same_obeys (octet_in low high) (λ b. b ∷ []) (λ b. b ∷ []) (FitsOctet test) (Within low high)
    (octet_obeys test low (range_true low high low (omega arith, some), omega arith))
    (λ b f. (true_range low high b f.0, refl))
    (λ b f. (range_true low high b f, omega (arith, f.1)))

-- ---- numbers, octets, zeros

wide16 : IsWide 2 (from_be_bytes w16) (to_be_bytes w16) (λ n. n < 2 ^ 16)
wide16 = record {
  len = λ n f. refl;
  back = λ bytes len fits. be_bytes_2 bytes _ len fits refl;
  again = λ n lt. from_be_bytes-to_be_bytes_2 n lt;
  fits = λ bytes len fits. omega (arith, fits 0, fits 1);
}

wide32 : IsWide 4 (from_be_bytes w32) (to_be_bytes w32) (λ n. n < 2 ^ 32)
wide32 = record {
  len = λ n f. refl;
  back = λ bytes len fits. be_bytes_4 bytes _ len fits refl;
  again = λ n lt. from_be_bytes-to_be_bytes_4 n lt;
  fits = λ bytes len fits. omega (arith, fits 0, fits 1, fits 2, fits 3);
}

wide64 : IsWide 8 (from_be_bytes w64) (to_be_bytes w64) (λ n. n < 2 ^ 64)
wide64 = record {
  len = λ n f. refl;
  back = λ bytes len fits. be_bytes_8 bytes _ len fits refl;
  again = λ n lt. from_be_bytes-to_be_bytes_8 n lt;
  fits = λ bytes len fits. omega (arith, fits 0, fits 1, fits 2, fits 3, fits 4, fits 5, fits 6, fits 7);
}

array : (n : ℕ) → IsWide n (λ x. x) (λ x. x) (IsArray n)
array n = record {
  len = λ a f. f.0;
  back = λ bytes len fits. refl;
  again = λ a f. refl;
  fits = λ bytes len fits. (len, fits);
}

pub u16_obeys : Obeys (number_at w16) (to_be_bytes w16) (λ n. n < 2 ^ 16)
u16_obeys = wide_obeys 2 (from_be_bytes w16) (to_be_bytes w16) (λ n. n < 2 ^ 16) wide16

pub u32_obeys : Obeys (number_at w32) (to_be_bytes w32) (λ n. n < 2 ^ 32)
u32_obeys = wide_obeys 4 (from_be_bytes w32) (to_be_bytes w32) (λ n. n < 2 ^ 32) wide32

pub u64_obeys : Obeys (number_at w64) (to_be_bytes w64) (λ n. n < 2 ^ 64)
u64_obeys = wide_obeys 8 (from_be_bytes w64) (to_be_bytes w64) (λ n. n < 2 ^ 64) wide64

pub octets_obeys : (n : ℕ) → Obeys (octets_at n) (λ a. a) (IsArray n)
octets_obeys n = wide_obeys n (λ x. x) (λ x. x) (IsArray n) (array n)

abbrev Always : Unit {0} → Type 0
Always x = Unit {0}

pub zeros_obeys : (n : ℕ) → Obeys (zeros_at n) (λ _. replicate n 0) Always
unfolding zeros_at
zeros_obeys zero = same_obeys (zeros_at 0) (λ _. []) (λ _. []) (λ x. tt ≡ x) Always (done_obeys tt) (λ a f. (tt, refl)) (λ a f. refl)
zeros_obeys (suc n) =
    let test : ℕ → Bool = λ b. eqb b 0 in
    let both = then_obeys (octet_at test) (λ b. b ∷ []) (FitsOctet test) (λ (x : Unit {0}). 0) (λ b. zeros_at n) (λ b x. replicate n 0) (λ b x. 0 ≡ b)
    (octet_obeys test 0 (refl, omega arith))
    (λ b fits. same_obeys (zeros_at n) (λ _. replicate n 0) (λ _. replicate n 0) Always (λ x. 0 ≡ b) (zeros_obeys n) (λ a f. (sym (eqb-true b 0 fits.0), refl)) (λ a f. tt))
    (λ b x f e. e) in
    same_obeys (zeros_at (suc n)) (λ _. 0 ∷ replicate n 0) (λ _. replicate (suc n) 0) (λ x. FitsOctet test 0 × (0 ≡ 0)) Always both (λ a f. (tt, refl)) (λ a f. ((refl, omega arith), refl))
