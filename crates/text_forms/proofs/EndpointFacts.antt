-- Each text of an endpoint is read as that endpoint, and no other text is read.
use Rattle.std.proofs.Common.{◌≡◌, ℕ, zero, suc, ◌+◌, ◌^◌, ◌<◌, ◌≤◌, Bool, true, false, cond, List, [], ◌∷◌, ◌++◌, length, drop, slice_index, decimal, Some, refl, ap, sym, subst, ◌∙◌, arith, eqb, lit≤, length-append, append_assoc}
use Rattle.std.proofs.lemmas.Bool.{eqb-true}
use Rattle.std.specs.Char.{digit_value}
use Rattle.octet_format.specs.Octets.{IsArray, IsBytes}
use Rattle.refl_types.specs.declared.types.Address.{Address}
use Rattle.refl_types.specs.declared.types.Address.TheVariants.{V4, V6}
use Rattle.refl_types.specs.declared.types.Endpoint.{Endpoint}
use Rattle.refl_types.specs.Spelling.{FitsAddress}
use Rattle.text_forms.specs.Numbers.{number_from}
use Rattle.text_forms.specs.Endpoints.{cut, dot, colon, open_bracket, close_bracket, slash, four, v4_from, prefix_from, prefix_text, v6_at, mark_at, v4_endpoint_from, v6_endpoint_from, endpoint_from, endpoint_text, HasText}
use Rattle.text_forms.proofs.Binds.{bind-some, bind-is, same-pair, some-is}
use Rattle.text_forms.proofs.NumberFacts.{number_from-decimal, text-number}
use Rattle.text_forms.proofs.DottedFacts.{Lacks, Lacks-append, Lacks-decimal, cut-text, text-cut, AreSmall, dotted_text, v4_from-text, text-v4_from}
use Rattle.text_forms.proofs.HexFacts.{Four, AreOctets, sixteen, v6_text, v6_at-text, text-v6_at, text-mark_at}

-- ---- arrays

-- the first four octets of an array
take_four : {C : Type 0} (l : List ℕ) (n : ℕ) → length l ≡ 4 + n → IsBytes l → ((g : Four) (rest : List ℕ) → AreOctets g → length rest ≡ n → IsBytes rest → l ≡ four g rest → C) → C
take_four [] n len bytes k = absurd (omega arith)
take_four (a ∷ []) n len bytes k = absurd (omega arith)
take_four (a ∷ b ∷ []) n len bytes k = absurd (omega arith)
take_four (a ∷ b ∷ c ∷ []) n len bytes k = absurd (omega arith)
take_four (a ∷ b ∷ c ∷ d ∷ rest) n len bytes k =
    k (a, b, c, d) rest (record { first = bytes 0; second = bytes 1; third = bytes 2; fourth = bytes 3 }) (omega arith) (λ i. bytes (suc (suc (suc (suc i))))) refl

four-bytes : (g : Four) (rest : List ℕ) → AreOctets g → IsBytes rest → IsBytes (four g rest)
four-bytes g rest small bytes zero = small.first
four-bytes g rest small bytes (suc zero) = small.second
four-bytes g rest small bytes (suc (suc zero)) = small.third
four-bytes g rest small bytes (suc (suc (suc zero))) = small.fourth
four-bytes g rest small bytes (suc (suc (suc (suc i)))) = bytes i

no-bytes : IsBytes []
no-bytes i = omega arith

nothing_left : (l : List ℕ) → length l ≡ 0 → l ≡ []
nothing_left [] len = refl
nothing_left (x ∷ l) len = absurd (omega arith)

sixteen-is : (octets l m n o : List ℕ) (a b c d : Four) → octets ≡ four a l → l ≡ four b m → m ≡ four c n → n ≡ four d o → o ≡ [] → octets ≡ sixteen a b c d
unfolding sixteen
sixteen-is octets l m n o a b c d l-is m-is n-is o-is end =
    l-is ∙ ap (four a) (m-is ∙ ap (four b) (n-is ∙ ap (four c) (o-is ∙ ap (four d) end)))

-- ---- IPv6

v6_text_is : (a b c d : Four) (port : ℕ) → (let e : Endpoint = record { address = V6 (sixteen a b c d); port = port } in endpoint_text e) ≡ open_bracket ∷ v6_text a b c d (close_bracket ∷ colon ∷ decimal port)
unfolding sixteen v6_text
v6_text_is a b c d port = refl

v6-written : (a b c d : Four) (port : ℕ) → AreOctets a → AreOctets b → AreOctets c → AreOctets d → 1 ≤ port → port < 2 ^ 16 → v6_endpoint_from (v6_text a b c d (close_bracket ∷ colon ∷ decimal port)) ≡ Some (record { address = V6 (sixteen a b c d); port = port })
v6-written a b c d port a-small b-small c-small d-small least most =
    bind-is (v6_at (v6_text a b c d (close_bracket ∷ colon ∷ decimal port))) _ _ _ (v6_at-text a b c d _ a-small b-small c-small d-small)
    (bind-is (number_from 1 65535 (decimal port)) port _ _ (number_from-decimal 1 65535 port (decimal port) (omega arith) least (omega arith) refl) refl)

v6-fits : (a b c d : Four) (port : ℕ) → AreOctets a → AreOctets b → AreOctets c → AreOctets d → 1 ≤ port → port ≤ 65535 → HasText (record { address = V6 (sixteen a b c d); port = port })
unfolding sixteen
v6-fits a b c d port a-small b-small c-small d-small least most =
    record {
      fits = record {
        address = (refl, four-bytes a (four b (four c (four d []))) a-small (four-bytes b (four c (four d [])) b-small (four-bytes c (four d []) c-small (four-bytes d [] d-small no-bytes))));
        port = omega arith;
      };
      port = least;
    }

v6-read : (s : List ℕ) (e : Endpoint) → v6_endpoint_from s ≡ Some e → HasText e × (open_bracket ∷ s ≡ endpoint_text e)
v6-read s e is =
    bind-some (v6_at s) _ _ is (λ a a-is more-a.
    bind-some (mark_at close_bracket a.1) _ _ more-a (λ r r-is more-r.
    bind-some (mark_at colon r) _ _ more-r (λ digits digits-is more-digits.
    bind-some (number_from 1 65535 digits) _ _ more-digits (λ port port-is end.
    text-v6_at s a.0 a.1 a-is (λ g h i j g-small h-small i-small j-small octets-is s-is.
    let (port-text, least, most) = text-number 1 65535 port digits port-is in
    let rest : a.1 ≡ close_bracket ∷ colon ∷ decimal port = rw (← port-text, ← text-mark_at colon r digits digits-is) (text-mark_at close_bracket a.1 r r-is) in
    let P : Endpoint → Type 0 = λ f. HasText f × (open_bracket ∷ s ≡ endpoint_text f) in
    let same : (let f : Endpoint = record { address = V6 (sixteen g h i j); port = port } in f) ≡ e =
    ap (λ (o : List ℕ). let f : Endpoint = record { address = V6 o; port = port } in f) (sym octets-is) ∙ some-is _ _ end in
    subst P same (
      v6-fits g h i j port g-small h-small i-small j-small least most,
      ap (λ (l : List ℕ). open_bracket ∷ l) (s-is ∙ ap (v6_text g h i j) rest) ∙ sym (v6_text_is g h i j port),
    ))))))

-- ---- IPv4

v4_text_is : (w x y z port : ℕ) → (let e : Endpoint = record { address = V4 (w ∷ x ∷ y ∷ z ∷ []); port = port } in endpoint_text e) ≡ dotted_text w x y z ++ colon ∷ decimal port
v4_text_is w x y z port = simp append_assoc

first-is_no_bracket : (ds rest : List ℕ) → 0 < length ds → Lacks open_bracket ds → eqb (slice_index (ds ++ rest) 0) open_bracket ≡ false
first-is_no_bracket [] rest long lacks = absurd (omega arith)
first-is_no_bracket (c ∷ cs) rest long lacks = lacks.0

dotted-lacks : (mark w x y z : ℕ) → AreSmall w x y z → 10 ≤ digit_value mark → eqb dot mark ≡ false → Lacks mark (dotted_text w x y z)
dotted-lacks mark w x y z small is no-dot =
    Lacks-append mark (decimal w) _ (Lacks-decimal mark w is (omega (arith, small.first))) (
      no-dot,
      Lacks-append mark (decimal x) _ (Lacks-decimal mark x is (omega (arith, small.second))) (
        no-dot,
        Lacks-append mark (decimal y) _ (Lacks-decimal mark y is (omega (arith, small.third)))
            (no-dot, Lacks-decimal mark z is (omega (arith, small.fourth))),
      ),
    )

v4-written : (w x y z port : ℕ) → AreSmall w x y z → 1 ≤ port → port < 2 ^ 16 → endpoint_from (dotted_text w x y z ++ colon ∷ decimal port) ≡ Some (record { address = V4 (w ∷ x ∷ y ∷ z ∷ []); port = port })
v4-written w x y z port small least most =
    let front = dotted_text w x y z in
    let long : 0 < length front = omega (arith, length-append (decimal w) (dot ∷ (decimal x ++ dot ∷ (decimal y ++ dot ∷ decimal z)))) in
    let plain : eqb (slice_index (front ++ colon ∷ decimal port) 0) open_bracket ≡ false = first-is_no_bracket front _ long (dotted-lacks open_bracket w x y z small (lit≤ tt) refl) in
    ap (λ (t : Bool). cond t (v6_endpoint_from (drop 1 (front ++ colon ∷ decimal port))) (v4_endpoint_from (front ++ colon ∷ decimal port))) plain
    ∙ bind-is (cut colon (front ++ colon ∷ decimal port)) _ _ _ (cut-text colon front (decimal port) (dotted-lacks colon w x y z small (lit≤ tt) refl))
    (bind-is (v4_from front) _ _ _ (v4_from-text w x y z small)
    (bind-is (number_from 1 65535 (decimal port)) port _ _ (number_from-decimal 1 65535 port (decimal port) (omega arith) least (omega arith) refl) refl))

small-bytes : (w x y z : ℕ) → AreSmall w x y z → IsBytes (w ∷ x ∷ y ∷ z ∷ [])
small-bytes w x y z small = four-bytes (w, x, y, z) [] (record { first = omega (arith, small.first); second = omega (arith, small.second); third = omega (arith, small.third); fourth = omega (arith, small.fourth) }) no-bytes

v4-read : (s : List ℕ) (e : Endpoint) → v4_endpoint_from s ≡ Some e → HasText e × (s ≡ endpoint_text e)
v4-read s e is =
    bind-some (cut colon s) _ _ is (λ p p-is more-p.
    bind-some (v4_from p.0) _ _ more-p (λ octets octets-is more-octets.
    bind-some (number_from 1 65535 p.1) _ _ more-octets (λ port port-is end.
    text-v4_from p.0 octets octets-is (λ w x y z small same-octets p-text.
    let (port-text, least, most) = text-number 1 65535 port p.1 port-is in
    let P : Endpoint → Type 0 = λ f. HasText f × (s ≡ endpoint_text f) in
    let same : (let f : Endpoint = record { address = V4 (w ∷ x ∷ y ∷ z ∷ []); port = port } in f) ≡ e =
    ap (λ (o : List ℕ). let f : Endpoint = record { address = V4 o; port = port } in f) (sym same-octets) ∙ some-is _ _ end in
    let text : s ≡ dotted_text w x y z ++ colon ∷ decimal port = rw (← p-text, ← port-text) (text-cut colon s p p-is) in
    let fits : HasText (record { address = V4 (w ∷ x ∷ y ∷ z ∷ []); port = port }) = record { fits = record { address = (refl, small-bytes w x y z small); port = omega arith }; port = least } in
    subst P same (fits, text ∙ sym (v4_text_is w x y z port))))))

-- ---- a prefix

prefix_text_is : (w x y z len : ℕ) → prefix_text (w ∷ x ∷ y ∷ z ∷ []) len ≡ dotted_text w x y z ++ slash ∷ decimal len
prefix_text_is w x y z len = simp append_assoc

pub prefix-read : (octets : List ℕ) (len : ℕ) (s : List ℕ) → prefix_from s ≡ Some (octets, len) → IsArray 4 octets × (len ≤ 32) × (s ≡ prefix_text octets len)
prefix-read octets len s is =
    bind-some (cut slash s) _ _ is (λ p p-is more-p.
    bind-some (v4_from p.0) _ _ more-p (λ read read-is more-read.
    bind-some (number_from 0 32 p.1) _ _ more-read (λ n n-is end.
    text-v4_from p.0 read read-is (λ w x y z small same p-text.
    let (n-text, least, most) = text-number 0 32 n p.1 n-is in
    let pair = same-pair (read, n) (octets, len) end in
    let text : s ≡ dotted_text w x y z ++ slash ∷ decimal n = rw (← p-text, ← n-text) (text-cut slash s p p-is) in
    let all : octets ≡ w ∷ x ∷ y ∷ z ∷ [] = sym pair.0 ∙ same in (
      subst (IsArray 4) (sym all) (refl, small-bytes w x y z small),
      subst (λ (k : ℕ). k ≤ 32) pair.1 most,
      rw (all, ← pair.1) (text ∙ sym (prefix_text_is w x y z n)),
    )))))

pub prefix-written : (octets : List ℕ) (len : ℕ) → IsArray 4 octets → len ≤ 32 → prefix_from (prefix_text octets len) ≡ Some (octets, len)
prefix-written octets len fits most =
    take_four octets 0 fits.0 fits.1 (λ a l a-small l-len l-bytes l-is.
    let all : octets ≡ four a [] = l-is ∙ ap (four a) (nothing_left l l-len) in
    let small : AreSmall a.0 a.1 a.2 a.3 = record { first = omega (arith, a-small.first); second = omega (arith, a-small.second); third = omega (arith, a-small.third); fourth = omega (arith, a-small.fourth) } in
    let front = dotted_text a.0 a.1 a.2 a.3 in
    let P : List ℕ → Type 0 = λ s. prefix_from (prefix_text s len) ≡ Some (s, len) in
    subst P (sym all) (ap prefix_from (prefix_text_is a.0 a.1 a.2 a.3 len)
    ∙ bind-is (cut slash (front ++ slash ∷ decimal len)) _ _ _ (cut-text slash front (decimal len) (dotted-lacks slash a.0 a.1 a.2 a.3 small (lit≤ tt) refl))
    (bind-is (v4_from front) _ _ _ (v4_from-text a.0 a.1 a.2 a.3 small)
    (bind-is (number_from 0 32 (decimal len)) len _ _ (number_from-decimal 0 32 len (decimal len) (omega (arith, most)) (omega arith) most refl) refl))))

-- ---- either

begins : (s : List ℕ) → eqb (slice_index s 0) open_bracket ≡ true → open_bracket ∷ drop 1 s ≡ s
begins [] is = absurd cc
begins (c ∷ cs) is = ap (λ (n : ℕ). n ∷ cs) (sym (eqb-true c open_bracket is))

pub endpoint-read : (e : Endpoint) (s : List ℕ) → endpoint_from s ≡ Some e → HasText e × (s ≡ endpoint_text e)
endpoint-read e s is = by (eqb (slice_index s 0) open_bracket) refl is
  where
    by : (t : Bool) → eqb (slice_index s 0) open_bracket ≡ t → cond t (v6_endpoint_from (drop 1 s)) (v4_endpoint_from s) ≡ Some e → HasText e × (s ≡ endpoint_text e)
    by false test found = v4-read s e found
    by true test found = let (fits, text) = v6-read (drop 1 s) e found in (fits, sym (begins s test) ∙ text)

written-v6 : (octets : List ℕ) (port : ℕ) → IsArray 16 octets → 1 ≤ port → port < 2 ^ 16 → (let e : Endpoint = record { address = V6 octets; port = port } in endpoint_from (endpoint_text e) ≡ Some e)
written-v6 octets port fits least most =
    take_four octets 12 fits.0 fits.1 (λ a l a-small l-len l-bytes l-is.
    take_four l 8 l-len l-bytes (λ b m b-small m-len m-bytes m-is.
    take_four m 4 m-len m-bytes (λ c n c-small n-len n-bytes n-is.
    take_four n 0 n-len n-bytes (λ d o d-small o-len o-bytes o-is.
    let all : octets ≡ sixteen a b c d = sixteen-is octets l m n o a b c d l-is m-is n-is o-is (nothing_left o o-len) in
    let P : List ℕ → Type 0 = λ s. (let e : Endpoint = record { address = V6 s; port = port } in endpoint_from (endpoint_text e) ≡ Some e) in
    subst P (sym all) (ap endpoint_from (v6_text_is a b c d port) ∙ v6-written a b c d port a-small b-small c-small d-small least most)))))

written-v4 : (octets : List ℕ) (port : ℕ) → IsArray 4 octets → 1 ≤ port → port < 2 ^ 16 → (let e : Endpoint = record { address = V4 octets; port = port } in endpoint_from (endpoint_text e) ≡ Some e)
written-v4 octets port fits least most =
    take_four octets 0 fits.0 fits.1 (λ a l a-small l-len l-bytes l-is.
    let all : octets ≡ four a [] = l-is ∙ ap (four a) (nothing_left l l-len) in
    let small : AreSmall a.0 a.1 a.2 a.3 = record { first = omega (arith, a-small.first); second = omega (arith, a-small.second); third = omega (arith, a-small.third); fourth = omega (arith, a-small.fourth) } in
    let P : List ℕ → Type 0 = λ s. (let e : Endpoint = record { address = V4 s; port = port } in endpoint_from (endpoint_text e) ≡ Some e) in
    subst P (sym all) (ap endpoint_from (v4_text_is a.0 a.1 a.2 a.3 port) ∙ v4-written a.0 a.1 a.2 a.3 port small least most))

written-to : (a : Address) (port : ℕ) → FitsAddress a → 1 ≤ port → port < 2 ^ 16 → (let e : Endpoint = record { address = a; port = port } in endpoint_from (endpoint_text e) ≡ Some e)
written-to (V4 octets) port fits least most = written-v4 octets port fits least most
written-to (V6 octets) port fits least most = written-v6 octets port fits least most

pub endpoint-written : (e : Endpoint) → HasText e → endpoint_from (endpoint_text e) ≡ Some e
endpoint-written e has = written-to e.address e.port has.fits.address has.port has.fits.port
