-- A datagram at its places is the spelling of its record, and the spelling of a record stands at these places.
use Rattle.std.proofs.lemmas.Bool.{eqb-true}
use Rattle.std.proofs.Common.{◌≡◌, true, ℕ, suc, ◌+◌, ◌^◌, ◌<◌, ◌≤◌, Option, Some, None, List, [], ◌∷◌, ◌++◌, length, take, drop, get_or, replicate, refl, sym, ap, subst, ◌∙◌, append_assoc, arith, drop-cons}
use Rattle.std.proofs.Math.Seq.{take-add}
use Rattle.std.proofs.lemmas.List.{drop-drop, take_at, drop_at, length-append}
use Rattle.std.proofs.lemmas.Nat.{be_bytes_8, from_be_bytes-to_be_bytes_2, from_be_bytes-to_be_bytes_4, from_be_bytes-to_be_bytes_8}
use Rattle.std.specs.Int.{w16, w32, w64, from_be_bytes, to_be_bytes}
use Rattle.octet_format.specs.Octets.{IsBytes, field}
use Rattle.octet_format.proofs.Obeys.{IsBytes-drop, IsBytes-take}
use Rattle.octet_format.proofs.Fields.{cut, length-field, field_16, field_32}
use Rattle.refl_types.specs.Limits.{datagram_limit}
use Rattle.refl_types.specs.declared.types.Address.{Address}
use Rattle.refl_types.specs.declared.types.Address.TheVariants.{V4, V6}
use Rattle.refl_types.specs.declared.types.Meta.{Meta}
use Rattle.refl_types.specs.Spelling.{family, address_octets, FitsEndpoint}
use Rattle.replay_format.specs.Records.{Arrives, Datagram, datagram_of, datagram_octets, ttl_octets, spelling, FitsTtl, FitsDatagram}
use Rattle.replay_format.specs.View.{IsFront}
use Rattle.replay_format.specs.declared.whole.Family.{Family}
use Rattle.replay_format.specs.declared.whole.Family.TheVariants.{Any, Ipv4, Ipv6}
use Rattle.replay_format.specs.Whole.{HasAddress, HasHead, is_asked, IsAsked}
use Rattle.session_octets.proofs.Formats.{address_octets_length}
use Rattle.replay_format.proofs.Formats.{ttl_octets_length, datagram_length}

pub field_64 : (at : ℕ) (octets : List ℕ) → IsBytes octets → at + 8 ≤ length octets → to_be_bytes w64 (from_be_bytes w64 (field at 8 octets)) ≡ field at 8 octets
field_64 at octets bytes le = be_bytes_8 (field at 8 octets) (from_be_bytes w64 (field at 8 octets)) (length-field at 8 octets le) (IsBytes-take 8 (drop at octets) (IsBytes-drop at octets bytes)) refl

pub field_8 : (at : ℕ) (octets : List ℕ) → at < length octets → field at 1 octets ≡ get_or octets at 0 ∷ []
field_8 at octets lt = ap (take 1) (drop-cons octets at 0 lt)

pub field-add : (at m n : ℕ) (octets : List ℕ) → field at (m + n) octets ≡ field at m octets ++ field (at + m) n octets
field-add at m n octets = take-add m n (drop at octets) ∙ ap (λ (l : List ℕ). field at m octets ++ take n l) (drop-drop m at octets)

pub two_octets : (at : ℕ) (octets : List ℕ) → at + 1 < length octets → field at 2 octets ≡ get_or octets at 0 ∷ get_or octets (at + 1) 0 ∷ []
two_octets at octets lt = field-add at 1 1 octets ∙ ap (λ (l : List ℕ). l ++ field (at + 1) 1 octets) (field_8 at octets (omega arith)) ∙ ap (λ (l : List ℕ). get_or octets at 0 ∷ l) (field_8 (at + 1) octets lt)

bytes_at : (at n : ℕ) (octets : List ℕ) → IsBytes octets → IsBytes (field at n octets)
bytes_at at n octets bytes = IsBytes-take n (drop at octets) (IsBytes-drop at octets bytes)

-- ---- twelve zeros as two numbers

pub zeros_here : (octets : List ℕ) → IsBytes octets → 44 ≤ length octets → from_be_bytes w64 (field 12 8 octets) ≡ 0 → from_be_bytes w32 (field 20 4 octets) ≡ 0 → field 12 12 octets ≡ replicate 12 0
zeros_here octets bytes le first last =
    let a : field 12 8 octets ≡ replicate 8 0 = sym (field_64 12 octets bytes (omega arith)) ∙ ap (to_be_bytes w64) first in
    let b : field 20 4 octets ≡ replicate 4 0 = sym (field_32 20 octets bytes (omega arith)) ∙ ap (to_be_bytes w32) last in
    field-add 12 8 4 octets ∙ ap (λ (l : List ℕ). l ++ field 20 4 octets) a ∙ ap (λ (l : List ℕ). replicate 8 0 ++ l) b

pub first_zero : (octets : List ℕ) → 44 ≤ length octets → field 12 12 octets ≡ replicate 12 0 → from_be_bytes w64 (field 12 8 octets) ≡ 0
first_zero octets le e =
    ap (from_be_bytes w64) (sym (take_at (field 12 8 octets) (field 20 4 octets) 8 (length-field 12 8 octets (omega arith))) ∙ ap (take 8) (sym (field-add 12 8 4 octets) ∙ e))

pub last_zero : (octets : List ℕ) → 44 ≤ length octets → field 12 12 octets ≡ replicate 12 0 → from_be_bytes w32 (field 20 4 octets) ≡ 0
last_zero octets le e =
    ap (from_be_bytes w32) (sym (drop_at (field 12 8 octets) (field 20 4 octets) 8 (length-field 12 8 octets (omega arith))) ∙ ap (drop 8) (sym (field-add 12 8 4 octets) ∙ e))

-- ---- the address

family_first : (octets : List ℕ) → 44 ≤ length octets → field 7 17 octets ≡ get_or octets 7 0 ∷ field 8 16 octets
family_first octets le = field-add 7 1 16 octets ∙ ap (λ (l : List ℕ). l ++ field 8 16 octets) (field_8 7 octets (omega arith))

pub v4_here : (octets : List ℕ) → IsBytes octets → 44 ≤ length octets → get_or octets 7 0 ≡ 4 → field 12 12 octets ≡ replicate 12 0 → HasAddress octets (V4 (field 8 4 octets))
v4_here octets bytes le four zeros = record {
  spelled = family_first octets le ∙ ap (λ (n : ℕ). n ∷ field 8 16 octets) four ∙ ap (λ (l : List ℕ). 4 ∷ l) (field-add 8 4 12 octets ∙ ap (λ (l : List ℕ). field 8 4 octets ++ l) zeros);
  fits = (length-field 8 4 octets (omega arith), bytes_at 8 4 octets bytes);
}

pub v6_here : (octets : List ℕ) → IsBytes octets → 44 ≤ length octets → get_or octets 7 0 ≡ 6 → HasAddress octets (V6 (field 8 16 octets))
v6_here octets bytes le six = record {
  spelled = family_first octets le ∙ ap (λ (n : ℕ). n ∷ field 8 16 octets) six;
  fits = (length-field 8 16 octets (omega arith), bytes_at 8 16 octets bytes);
}

pub family_here : (octets : List ℕ) (a : Address) → 44 ≤ length octets → HasAddress octets a → get_or octets 7 0 ≡ family a
family_here octets a le h = ap (λ (l : List ℕ). get_or l 0 0) (sym (family_first octets le) ∙ h.spelled)

pub no_family : (octets : List ℕ) (a : Address) → 44 ≤ length octets → HasAddress octets a → (get_or octets 7 0 ≡ 4 → ⊥) → (get_or octets 7 0 ≡ 6 → ⊥) → ⊥
no_family octets (V4 x) le h four six = four (family_here octets (V4 x) le h)
no_family octets (V6 x) le h four six = six (family_here octets (V6 x) le h)

-- an IPv4 address has zeros behind it
pub asked_code : (f : Family) (a : Address) → IsAsked f a → is_asked f (family a) ≡ true
asked_code Any a h = refl
asked_code Ipv4 a h = rw h refl
asked_code Ipv6 a h = rw h refl

pub code_asked : (f : Family) (a : Address) → is_asked f (family a) ≡ true → IsAsked f a
code_asked Any a e = tt
code_asked Ipv4 a e = eqb-true (family a) 4 e
code_asked Ipv6 a e = eqb-true (family a) 6 e

pub zeros_behind : (octets : List ℕ) (a : Address) → 44 ≤ length octets → HasAddress octets a → get_or octets 7 0 ≡ 4 → field 12 12 octets ≡ replicate 12 0
zeros_behind octets (V6 x) le h four = absurd (let e : 4 ≡ 6 = sym four ∙ family_here octets (V6 x) le h in cc)
zeros_behind octets (V4 x) le h four =
    let e : field 8 4 octets ++ field 12 12 octets ≡ x ++ replicate 12 0 = sym (field-add 8 4 12 octets) ∙ ap (drop 1) (sym (family_first octets le) ∙ h.spelled) in
    sym (drop_at (field 8 4 octets) (field 12 12 octets) 4 (length-field 8 4 octets (omega arith))) ∙ ap (drop 4) e ∙ drop_at x (replicate 12 0) 4 h.fits.0

-- ---- from the places to the record

-- eight parts and what follows them
joined : (o a b c f g h i j o1 o5 o7 o24 o26 o28 o36 o44 : List ℕ)
    → o ≡ a ++ o1 → o1 ≡ b ++ o5 → o5 ≡ c ++ o7 → o7 ≡ f ++ o24 → o24 ≡ g ++ o26 → o26 ≡ h ++ o28 → o28 ≡ i ++ o36 → o36 ≡ j ++ o44
    → o ≡ a ++ (b ++ (c ++ (f ++ (g ++ (h ++ (i ++ (j ++ o44)))))))
joined o a b c f g h i j o1 o5 o7 o24 o26 o28 o36 o44 p1 p2 p3 p4 p5 p6 p7 p8 = rw (p1, p2, p3, p4, p5, p6, p7, p8) refl

regrouped : (b c f g h i j k rest : List ℕ) → b ++ (c ++ (f ++ (g ++ (h ++ (i ++ (j ++ (k ++ rest))))))) ≡ (b ++ (((((c ++ (f ++ g)) ++ h) ++ i) ++ j) ++ k)) ++ rest
regrouped b c f g h i j k rest = simp append_assoc

below_16 : (f : List ℕ) → IsBytes f → from_be_bytes w16 f < 2 ^ 16
below_16 f b = omega (arith, b 0, b 1)

below_64 : (f : List ℕ) → IsBytes f → from_be_bytes w64 f < 2 ^ 64
below_64 f b = omega (arith, b 0, b 1, b 2, b 3, b 4, b 5, b 6, b 7)

ttl_fits : (f : List ℕ) (ttl : Option ℕ) → IsBytes f → f ≡ ttl_octets ttl → FitsTtl ttl
ttl_fits f None b e = tt
ttl_fits f (Some n) b e = subst (λ (m : ℕ). m < 256) (ap (λ (l : List ℕ). get_or l 1 0) e) (b 1)

pub whole_front : (octets : List ℕ) (m : Meta) (t3 k : ℕ) → IsBytes octets → 44 + k ≤ length octets → k ≤ datagram_limit → HasHead octets m k → get_or octets 0 0 ≡ 4
    → from_be_bytes w32 (field 1 4 octets) ≡ 39 + k → t3 ≡ from_be_bytes w64 (field 36 8 octets) → IsFront octets (Arrives (datagram_of m t3 (field 44 k octets))) (44 + k)
whole_front octets m t3 k bytes enough small head tag body moment =
    let text = field 44 k octets in
    let d : Datagram = datagram_of m t3 text in
    let address : List ℕ = family m.peer.address ∷ address_octets m.peer.address in
    let sized : length text ≡ k = length-field 44 k octets enough in
    let peer : FitsEndpoint d.peer = record { address = head.address.fits; port = subst (λ (n : ℕ). n < 2 ^ 16) (sym head.port) (below_16 (field 24 2 octets) (bytes_at 24 2 octets bytes)) } in
    let fits : FitsDatagram d = record {
      local = subst (λ (n : ℕ). n < 2 ^ 16) (sym head.local) (below_16 (field 5 2 octets) (bytes_at 5 2 octets bytes));
      peer = peer;
      ttl = ttl_fits (field 26 2 octets) m.ttl (bytes_at 26 2 octets bytes) head.ttl;
      arrival = subst (λ (n : ℕ). n < 2 ^ 64) (sym head.arrival) (below_64 (field 28 8 octets) (bytes_at 28 8 octets bytes));
      t3 = subst (λ (n : ℕ). n < 2 ^ 64) (sym moment) (below_64 (field 36 8 octets) (bytes_at 36 8 octets bytes));
      octets = bytes_at 44 k octets bytes;
      len = omega (arith, sized);
    } in
    let long : length (datagram_octets d) ≡ 39 + k = datagram_length d peer ∙ ap (λ (n : ℕ). 39 + n) sized in
    let b = to_be_bytes w32 (39 + k) in
    let len : b ≡ field 1 4 octets = ap (to_be_bytes w32) (sym body) ∙ field_32 1 octets bytes (omega arith) in
    let p1 : octets ≡ (4 ∷ []) ++ drop 1 octets = cut 0 1 1 octets refl ∙ ap (λ (l : List ℕ). l ++ drop 1 octets) (field_8 0 octets (omega arith) ∙ ap (λ (n : ℕ). n ∷ []) tag) in
    let p2 : drop 1 octets ≡ b ++ drop 5 octets = cut 1 4 5 octets refl ∙ ap (λ (l : List ℕ). l ++ drop 5 octets) (sym len) in
    let p3 : drop 5 octets ≡ to_be_bytes w16 m.local ++ drop 7 octets = cut 5 2 7 octets refl ∙ ap (λ (l : List ℕ). l ++ drop 7 octets) (sym (field_16 5 octets bytes (omega arith)) ∙ ap (to_be_bytes w16) (sym head.local)) in
    let p4 : drop 7 octets ≡ address ++ drop 24 octets = cut 7 17 24 octets refl ∙ ap (λ (l : List ℕ). l ++ drop 24 octets) head.address.spelled in
    let p5 : drop 24 octets ≡ to_be_bytes w16 m.peer.port ++ drop 26 octets = cut 24 2 26 octets refl ∙ ap (λ (l : List ℕ). l ++ drop 26 octets) (sym (field_16 24 octets bytes (omega arith)) ∙ ap (to_be_bytes w16) (sym head.port)) in
    let p6 : drop 26 octets ≡ ttl_octets m.ttl ++ drop 28 octets = cut 26 2 28 octets refl ∙ ap (λ (l : List ℕ). l ++ drop 28 octets) head.ttl in
    let p7 : drop 28 octets ≡ to_be_bytes w64 m.arrival ++ drop 36 octets = cut 28 8 36 octets refl ∙ ap (λ (l : List ℕ). l ++ drop 36 octets) (sym (field_64 28 octets bytes (omega arith)) ∙ ap (to_be_bytes w64) (sym head.arrival)) in
    let p8 : drop 36 octets ≡ to_be_bytes w64 t3 ++ drop 44 octets = cut 36 8 44 octets refl ∙ ap (λ (l : List ℕ). l ++ drop 44 octets) (sym (field_64 36 octets bytes (omega arith)) ∙ ap (to_be_bytes w64) (sym moment)) in
    let p9 : drop 44 octets ≡ text ++ drop (44 + k) octets = cut 44 k (44 + k) octets refl in
    let parts = joined octets (4 ∷ []) b (to_be_bytes w16 m.local) address (to_be_bytes w16 m.peer.port) (ttl_octets m.ttl) (to_be_bytes w64 m.arrival) (to_be_bytes w64 t3) (drop 1 octets) (drop 5 octets) (drop 7 octets) (drop 24 octets) (drop 26 octets) (drop 28 octets) (drop 36 octets) (text ++ drop (44 + k) octets) p1 p2 p3 p4 p5 p6 p7 (p8 ∙ ap (λ (l : List ℕ). to_be_bytes w64 t3 ++ l) p9) in
    let spelled : octets ≡ spelling (Arrives d) ++ drop (44 + k) octets =
    parts
    ∙ ap (λ (l : List ℕ). 4 ∷ l) (regrouped b (to_be_bytes w16 m.local) address (to_be_bytes w16 m.peer.port) (ttl_octets m.ttl) (to_be_bytes w64 m.arrival) (to_be_bytes w64 t3) text (drop (44 + k) octets))
    ∙ ap (λ (n : ℕ). (4 ∷ to_be_bytes w32 n ++ datagram_octets d) ++ drop (44 + k) octets) (sym long) in
    record { fits = fits; len = omega (arith, long); spelled = spelled }

-- ---- from the record to the places

-- octets are a front and a rest, and the front ends at a place
record At (front rest octets : List ℕ) (at : ℕ) : Type 0 where
  parts : octets ≡ front ++ rest
  len : length front ≡ at

part : (front p rest octets : List ℕ) (at n : ℕ) → At front (p ++ rest) octets at → length p ≡ n → field at n octets ≡ p
part front p rest octets at n here len = ap (λ (l : List ℕ). take n (drop at l)) here.parts ∙ ap (take n) (drop_at front (p ++ rest) at here.len) ∙ take_at p rest n len

behind : (front p rest octets : List ℕ) (at n next : ℕ) → At front (p ++ rest) octets at → length p ≡ n → at + n ≡ next → At (front ++ p) rest octets next
behind front p rest octets at n next here len sum = record { parts = here.parts ∙ sym (append_assoc front p rest); len = omega (arith, length-append front p, here.len, len, sum) }

-- what is told of a datagram besides its octets
abbrev pub told : Datagram → Meta
told d = record { local = d.local; peer = d.peer; len = length d.octets; ttl = d.ttl; arrival = d.arrival }

pub record Parts (octets : List ℕ) (d : Datagram) : Type 0 where
  pub long : 44 + length d.octets ≤ length octets
  pub small : length d.octets ≤ datagram_limit
  pub tag : get_or octets 0 0 ≡ 4
  pub body : from_be_bytes w32 (field 1 4 octets) ≡ 39 + length d.octets
  pub head : HasHead octets (told d) (length d.octets)

pub parts_of : (octets : List ℕ) (d : Datagram) (n : ℕ) → IsFront octets (Arrives d) n → Parts octets d
parts_of octets d n f =
    let fits : FitsDatagram d = f.fits in
    let size : length (datagram_octets d) ≡ 39 + length d.octets = datagram_length d fits.peer in
    let b = to_be_bytes w32 (length (datagram_octets d)) in
    let c = to_be_bytes w16 d.local in
    let a : List ℕ = family d.peer.address ∷ address_octets d.peer.address in
    let g = to_be_bytes w16 d.peer.port in
    let h = ttl_octets d.ttl in
    let i = to_be_bytes w64 d.arrival in
    let j = to_be_bytes w64 d.t3 in
    let rest = drop n octets in
    let whole : octets ≡ (4 ∷ []) ++ (b ++ (c ++ (a ++ (g ++ (h ++ (i ++ (j ++ (d.octets ++ rest)))))))) = f.spelled ∙ ap (λ (l : List ℕ). 4 ∷ l) (sym (regrouped b c a g h i j d.octets rest)) in
    let s1 : At (4 ∷ []) (b ++ (c ++ (a ++ (g ++ (h ++ (i ++ (j ++ (d.octets ++ rest)))))))) octets 1 = record { parts = whole; len = refl } in
    let s5 = behind (4 ∷ []) b (c ++ (a ++ (g ++ (h ++ (i ++ (j ++ (d.octets ++ rest))))))) octets 1 4 5 s1 refl refl in
    let s7 = behind ((4 ∷ []) ++ b) c (a ++ (g ++ (h ++ (i ++ (j ++ (d.octets ++ rest)))))) octets 5 2 7 s5 refl refl in
    let la : length a ≡ 17 = ap (λ (m : ℕ). suc m) (address_octets_length d.peer.address fits.peer.address) in
    let s24 = behind (((4 ∷ []) ++ b) ++ c) a (g ++ (h ++ (i ++ (j ++ (d.octets ++ rest))))) octets 7 17 24 s7 la refl in
    let s26 = behind ((((4 ∷ []) ++ b) ++ c) ++ a) g (h ++ (i ++ (j ++ (d.octets ++ rest)))) octets 24 2 26 s24 refl refl in
    let s28 = behind (((((4 ∷ []) ++ b) ++ c) ++ a) ++ g) h (i ++ (j ++ (d.octets ++ rest))) octets 26 2 28 s26 (ttl_octets_length d.ttl) refl in
    let body : length (datagram_octets d) < 2 ^ 32 = omega (arith, size, fits.len) in
    record {
      long = omega (arith, f.len, size, ap length f.spelled, length-append (spelling (Arrives d)) rest);
      small = fits.len;
      tag = ap (λ (l : List ℕ). get_or l 0 0) whole;
      body = ap (from_be_bytes w32) (part (4 ∷ []) b (c ++ (a ++ (g ++ (h ++ (i ++ (j ++ (d.octets ++ rest))))))) octets 1 4 s1 refl) ∙ from_be_bytes-to_be_bytes_4 (length (datagram_octets d)) body ∙ size;
      head = record {
        local = sym (ap (from_be_bytes w16) (part ((4 ∷ []) ++ b) c (a ++ (g ++ (h ++ (i ++ (j ++ (d.octets ++ rest)))))) octets 5 2 s5 refl) ∙ from_be_bytes-to_be_bytes_2 d.local fits.local);
        address = record { spelled = part (((4 ∷ []) ++ b) ++ c) a (g ++ (h ++ (i ++ (j ++ (d.octets ++ rest))))) octets 7 17 s7 la; fits = fits.peer.address };
        port = sym (ap (from_be_bytes w16) (part ((((4 ∷ []) ++ b) ++ c) ++ a) g (h ++ (i ++ (j ++ (d.octets ++ rest)))) octets 24 2 s24 refl) ∙ from_be_bytes-to_be_bytes_2 d.peer.port fits.peer.port);
        ttl = part (((((4 ∷ []) ++ b) ++ c) ++ a) ++ g) h (i ++ (j ++ (d.octets ++ rest))) octets 26 2 s26 (ttl_octets_length d.ttl);
        arrival = sym (ap (from_be_bytes w64) (part ((((((4 ∷ []) ++ b) ++ c) ++ a) ++ g) ++ h) i (j ++ (d.octets ++ rest)) octets 28 8 s28 refl) ∙ from_be_bytes-to_be_bytes_8 d.arrival fits.arrival);
        len = refl;
      };
    }
