-- Each part of a record obeys its spelling.
use Rattle.std.proofs.Common.{◌≡◌, ℕ, ◌+◌, ◌-◌, ◌*◌, ◌/◌, ◌%◌, ◌^◌, ◌<◌, ◌≤◌, Bool, true, false, cond, eqb, ◌&&◌, not, List, [], ◌∷◌, ◌++◌, length, replicate, Option, Some, None, refl, sym, ap, subst, ◌∙◌, append_assoc, arith, inl, inr, ◌⊎◌}
use Rattle.std.specs.Int.{w16, w32, w64, to_be_bytes}
use Rattle.std.proofs.lemmas.Bool.{eqb-true}
use Rattle.std.proofs.lemmas.Bool.Decides.{nat_tests}
use Rattle.std.proofs.lemmas.List.{append-nil, length-append}
use Rattle.refl_types.specs.declared.types.Endpoint.{Endpoint}
use Rattle.refl_types.specs.declared.types.Mode.{Mode}
use Rattle.refl_types.specs.declared.types.Mode.TheVariants.{Plain, Auth, Twamp}
use Rattle.refl_types.specs.declared.types.Key.{Key}
use Rattle.refl_types.specs.declared.types.Extra.{Extra}
use Rattle.octet_format.specs.Octets.{IsArray}
use Rattle.refl_types.specs.Keys.{is_sound, is_sound_in, has_no_extra}
use Rattle.refl_types.specs.Spelling.{endpoint_octets, key_octets, extra_octets, config_octets, FitsEndpoint, FitsKey, FitsSession, FitsConfig}
use Rattle.replay_format.proofs.ListFormat.{locals_body, length-locals, locals_obeys}
use Rattle.replay_format.specs.Records.{Item, Opens, Sets, Closes, Arrives, Lists, Opening, Setting, Datagram, ttl_octets, opening_octets, setting_octets, datagram_octets, spelling, no_extra, FitsTtl, FitsDatagram, FitsOpening, FitsSetting, FitsLocals, Fits}
use Rattle.replay_format.specs.InnerReading.{body_len_at, ttl_at, datagram_at, opening_at, setting_at, closing_at, locals_at, body_at, item_at}
use Rattle.refl_types.proofs.SameFacts.{both_true}
use Rattle.session_octets.specs.Sound.{FitsInMode, HasNoExtra, FitsExtra}
use Rattle.session_octets.proofs.Formats.{endpoint_obeys, key_obeys, extra_obeys, config_obeys, endpoint_octets_length, key_octets_length, extra_octets_length, config_octets_length}
use Rattle.octet_format.proofs.Obeys.{Obeys, then_obeys, done_obeys, same_obeys, into_obeys, Within, range_obeys, u16_obeys, u64_obeys, octets_obeys, zeros_obeys}

-- ---- a TTL that was ttl_octets or not

abbrev is_told : Option ℕ → ℕ
is_told None = 0
is_told (Some n) = 1

abbrev ttl_octet : Option ℕ → ℕ
ttl_octet None = 0
ttl_octet (Some n) = n

abbrev made_ttl : ℕ → ℕ → Option ℕ
made_ttl t n = cond (eqb t 0) None (Some n)

abbrev top_ttl : ℕ → ℕ
top_ttl t = cond (eqb t 0) 0 255

top_ttl_fits : (t : ℕ) → top_ttl t < 256
top_ttl_fits t = grind (arith, nat_tests)

zero_or_one : (t : ℕ) → Within 0 1 t → (t ≡ 0) ⊎ (t ≡ 1)
zero_or_one t w = grind (arith, nat_tests)

told_is : (t n : ℕ) → Within 0 1 t → is_told (made_ttl t n) ≡ t
told_is t n w = elim (zero_or_one t w) [
  | inl e ↦ rw e refl
  | inr e ↦ rw e refl
]

ttl_is : (t n : ℕ) → Within 0 1 t → Within 0 (top_ttl t) n → ttl_octet (made_ttl t n) ≡ n
ttl_is t n w v = elim (zero_or_one t w) [
  | inl e ↦ let z : n ≤ 0 = subst (λ (k : ℕ). n ≤ top_ttl k) e v.1 in rw e (omega arith)
  | inr e ↦ rw e refl
]

abbrev TtlParts : Option ℕ → Type 0
TtlParts o = Within 0 1 (is_told o) × (Within 0 (top_ttl (is_told o)) (ttl_octet o) × (made_ttl (is_told o) (ttl_octet o) ≡ o))

ttl_fits : (o : Option ℕ) → TtlParts o → FitsTtl o × ((is_told o ∷ []) ++ ((ttl_octet o ∷ []) ++ []) ≡ ttl_octets o)
ttl_fits None f = (tt, refl)
ttl_fits (Some n) f = (omega (arith, f.1.0.1), refl)

ttl_back : (o : Option ℕ) → FitsTtl o → TtlParts o
ttl_back None f = ((omega arith, omega arith), ((omega arith, omega arith), refl))
ttl_back (Some n) f = ((omega arith, omega arith), ((omega arith, omega arith), refl))

pub ttl_obeys : Obeys ttl_at ttl_octets FitsTtl
unfolding ttl_at
ttl_obeys = same_obeys ttl_at (λ o. (is_told o ∷ []) ++ ((ttl_octet o ∷ []) ++ [])) ttl_octets TtlParts FitsTtl
    (then_obeys _ _ _ is_told _ _ _ (range_obeys 0 1 (omega arith) (omega arith))
    (λ t ft. then_obeys _ _ _ ttl_octet _ _ _ (range_obeys 0 (top_ttl t) (omega arith) (top_ttl_fits t)) (λ n fn. done_obeys (made_ttl t n)) (λ n o fn fo. ap ttl_octet (sym fo) ∙ ttl_is t n ft fn))
    (λ t o ft fo. ap is_told (sym fo.1) ∙ told_is t (ttl_octet o) ft))
    ttl_fits ttl_back

-- ---- the length of a body

abbrev digit : ℕ → ℕ → ℕ
digit k n = n / k % 256

abbrev third_top : ℕ → ℕ
third_top b = cond (eqb b 0) 255 0

abbrev last_low : ℕ → ℕ → ℕ
last_low b c = cond (eqb b 0 && eqb c 0) 39 0

abbrev last_top : ℕ → ℕ
last_top b = cond (eqb b 0) 255 10

abbrev sum_of : ℕ → ℕ → ℕ → ℕ
sum_of b c d = b * 65536 + c * 256 + d

abbrev LenParts : ℕ → Type 0
LenParts n = Within 0 0 (digit 16777216 n) × (Within 0 1 (digit 65536 n) × (Within 0 (third_top (digit 65536 n)) (digit 256 n) × (Within (last_low (digit 65536 n) (digit 256 n)) (last_top (digit 65536 n)) (n % 256) × (sum_of (digit 65536 n) (digit 256 n) (n % 256) ≡ n))))

len_bounds : (b c d n : ℕ) → Within 0 1 b → Within 0 (third_top b) c → Within (last_low b c) (last_top b) d → sum_of b c d ≡ n → Within 39 65546 n
len_bounds b c d n wb wc wd e = elim (zero_or_one b wb) [
  | inl z ↦ (grind (arith, nat_tests), grind (arith, nat_tests))
  | inr o ↦ (grind (arith, nat_tests), grind (arith, nat_tests))
]

len_digits : (b c d : ℕ) → b < 256 → c < 256 → d < 256 → (digit 16777216 (sum_of b c d) ≡ 0) × (digit 65536 (sum_of b c d) ≡ b) × (digit 256 (sum_of b c d) ≡ c) × (sum_of b c d % 256 ≡ d)
len_digits b c d lb lc ld = (omega arith, omega arith, omega arith, omega arith)

parts_within : (b c d n : ℕ) → b < 256 → c < 256 → d < 256 → sum_of b c d ≡ n → Within 39 65546 n → Within 0 1 b × Within 0 (third_top b) c × Within (last_low b c) (last_top b) d
parts_within b c d n lb lc ld e w = ((omega arith, omega arith), (omega arith, grind (arith, nat_tests)), (grind (arith, nat_tests), grind (arith, nat_tests)))

third_top_fits : (b : ℕ) → third_top b < 256
third_top_fits b = grind (arith, nat_tests)

last_range : (b c : ℕ) → Within 0 1 b → (last_low b c ≤ last_top b) × (last_top b < 256)
last_range b c w = elim (zero_or_one b w) [
  | inl z ↦ (grind (arith, nat_tests), grind (arith, nat_tests))
  | inr o ↦ (grind (arith, nat_tests), grind (arith, nat_tests))
]

len_fits : (n : ℕ) → LenParts n → Within 39 65546 n × ((digit 16777216 n ∷ []) ++ ((digit 65536 n ∷ []) ++ ((digit 256 n ∷ []) ++ ((n % 256 ∷ []) ++ []))) ≡ to_be_bytes w32 n)
len_fits n f = (len_bounds (digit 65536 n) (digit 256 n) (n % 256) n f.1.0 f.1.1.0 f.1.1.1.0 f.1.1.1.1, refl)

len_back : (n : ℕ) → Within 39 65546 n → LenParts n
len_back n w =
    let s : sum_of (digit 65536 n) (digit 256 n) (n % 256) ≡ n = omega arith in
    let p = parts_within (digit 65536 n) (digit 256 n) (n % 256) n (omega arith) (omega arith) (omega arith) s w in
    ((omega arith, omega arith), (p.0, (p.1, (p.2, s))))

pub body_len_obeys : Obeys body_len_at (to_be_bytes w32) (Within 39 65546)
unfolding body_len_at
body_len_obeys = same_obeys body_len_at (λ n. (digit 16777216 n ∷ []) ++ ((digit 65536 n ∷ []) ++ ((digit 256 n ∷ []) ++ ((n % 256 ∷ []) ++ [])))) (to_be_bytes w32) LenParts (Within 39 65546)
    (then_obeys _ _ _ (digit 16777216) _ _ _ (range_obeys 0 0 (omega arith) (omega arith))
    (λ a fa. then_obeys _ _ _ (digit 65536) _ _ _ (range_obeys 0 1 (omega arith) (omega arith))
    (λ b fb. then_obeys _ _ _ (digit 256) _ _ _ (range_obeys 0 (third_top b) (omega arith) (third_top_fits b))
    (λ c fc. then_obeys _ _ _ (λ (n : ℕ). n % 256) _ _ _ (range_obeys (last_low b c) (last_top b) (last_range b c fb).0 (last_range b c fb).1)
    (λ d fd. done_obeys (sum_of b c d))
    (λ d n fd e. ap (λ (x : ℕ). x % 256) (sym e) ∙ (len_digits b c d (omega arith) (omega (arith, third_top_fits b)) (omega (arith, last_range b c fb))).3))
    (λ c n fc fn. ap (digit 256) (sym fn.1) ∙ (len_digits b c (n % 256) (omega arith) (omega (arith, third_top_fits b)) (omega arith)).2))
    (λ b n fb fn. ap (digit 65536) (sym fn.1.1) ∙ (len_digits b (digit 256 n) (n % 256) (omega arith) (omega arith) (omega arith)).1))
    (λ a n fa fn. omega arith))
    len_fits len_back

-- ---- datagrams

pub ttl_octets_length : (o : Option ℕ) → length (ttl_octets o) ≡ 2
ttl_octets_length None = refl
ttl_octets_length (Some n) = refl

pub datagram_length : (d : Datagram) → FitsEndpoint d.peer → length (datagram_octets d) ≡ 39 + length d.octets
datagram_length d f =
    let a : length (to_be_bytes w16 d.local) ≡ 2 = refl in
    let b : length (to_be_bytes w64 d.arrival) ≡ 8 = refl in
    let c : length (to_be_bytes w64 d.t3) ≡ 8 = refl in
    let e = length-append (to_be_bytes w16 d.local) (endpoint_octets d.peer) in
    let g = length-append (to_be_bytes w16 d.local ++ endpoint_octets d.peer) (ttl_octets d.ttl) in
    let h = length-append (to_be_bytes w16 d.local ++ endpoint_octets d.peer ++ ttl_octets d.ttl) (to_be_bytes w64 d.arrival) in
    let i = length-append (to_be_bytes w16 d.local ++ endpoint_octets d.peer ++ ttl_octets d.ttl ++ to_be_bytes w64 d.arrival) (to_be_bytes w64 d.t3) in
    let j = length-append (to_be_bytes w16 d.local ++ endpoint_octets d.peer ++ ttl_octets d.ttl ++ to_be_bytes w64 d.arrival ++ to_be_bytes w64 d.t3) d.octets in
    omega (arith, endpoint_octets_length d.peer f, ttl_octets_length d.ttl)

abbrev body_len : Datagram → ℕ
body_len d = 39 + length d.octets

abbrev DatagramParts : Datagram → Type 0
DatagramParts d = Within 39 65546 (body_len d) × ((d.local < 2 ^ 16) × (FitsEndpoint d.peer × (FitsTtl d.ttl × ((d.arrival < 2 ^ 64) × ((d.t3 < 2 ^ 64) × (IsArray (body_len d - 39) d.octets
    × (record { local = d.local; peer = d.peer; ttl = d.ttl; arrival = d.arrival; t3 = d.t3; octets = d.octets } ≡ d)))))))

abbrev datagram_text : Datagram → List ℕ
datagram_text d = to_be_bytes w32 (body_len d) ++ (to_be_bytes w16 d.local ++ (endpoint_octets d.peer ++ (ttl_octets d.ttl ++ (to_be_bytes w64 d.arrival ++ (to_be_bytes w64 d.t3 ++ (d.octets ++ []))))))

abbrev datagram_body : Datagram → List ℕ
datagram_body d = to_be_bytes w32 (length (datagram_octets d)) ++ datagram_octets d

-- six parts behind a head, grouped to the left
regroup_six : (h a b c d e f : List ℕ) → h ++ (a ++ (b ++ (c ++ (d ++ (e ++ (f ++ [])))))) ≡ h ++ (((((a ++ b) ++ c) ++ d) ++ e) ++ f)
regroup_six h a b c d e f = simp (append_assoc, append-nil)

datagram_fits : (d : Datagram) → DatagramParts d → FitsDatagram d × (datagram_text d ≡ datagram_body d)
datagram_fits d f =
    let fits : FitsDatagram d = record { local = f.1.0; peer = f.1.1.0; ttl = f.1.1.1.0; arrival = f.1.1.1.1.0; t3 = f.1.1.1.1.1.0; octets = f.1.1.1.1.1.1.0.1; len = omega (arith, f.0.1) } in
    (fits, ap (λ (n : ℕ). to_be_bytes w32 n ++ (to_be_bytes w16 d.local ++ (endpoint_octets d.peer ++ (ttl_octets d.ttl ++ (to_be_bytes w64 d.arrival ++ (to_be_bytes w64 d.t3 ++ (d.octets ++ []))))))) (sym (datagram_length d f.1.1.0)) ∙ regroup_six (to_be_bytes w32 (length (datagram_octets d))) (to_be_bytes w16 d.local) (endpoint_octets d.peer) (ttl_octets d.ttl) (to_be_bytes w64 d.arrival) (to_be_bytes w64 d.t3) d.octets)

datagram_back : (d : Datagram) → FitsDatagram d → DatagramParts d
datagram_back d f = ((omega arith, omega (arith, f.len)), (f.local, (f.peer, (f.ttl, (f.arrival, (f.t3, ((omega arith, f.octets), refl)))))))

pub datagram_obeys : Obeys datagram_at datagram_body FitsDatagram
unfolding datagram_at
datagram_obeys = same_obeys datagram_at datagram_text datagram_body DatagramParts FitsDatagram
    (then_obeys _ _ _ body_len _ _ _ body_len_obeys
    (λ n fn. then_obeys _ _ _ (λ (d : Datagram). d.local) _ _ _ u16_obeys
    (λ l fl. then_obeys _ _ _ (λ (d : Datagram). d.peer) _ _ _ endpoint_obeys
    (λ p fp. then_obeys _ _ _ (λ (d : Datagram). d.ttl) _ _ _ ttl_obeys
    (λ t ft. then_obeys _ _ _ (λ (d : Datagram). d.arrival) _ _ _ u64_obeys
    (λ a fa. then_obeys _ _ _ (λ (d : Datagram). d.t3) _ _ _ u64_obeys
    (λ s fs. then_obeys _ _ _ (λ (d : Datagram). d.octets) _ _ _ (octets_obeys (n - 39))
    (λ o fo. done_obeys (let d : Datagram = record { local = l; peer = p; ttl = t; arrival = a; t3 = s; octets = o } in d))
    (λ o d fo fd. ap (λ (x : Datagram). x.octets) (sym fd)))
    (λ s d fs fd. ap (λ (x : Datagram). x.t3) (sym fd.1)))
    (λ a d fa fd. ap (λ (x : Datagram). x.arrival) (sym fd.1.1)))
    (λ t d ft fd. ap (λ (x : Datagram). x.ttl) (sym fd.1.1.1)))
    (λ p d fp fd. ap (λ (x : Datagram). x.peer) (sym fd.1.1.1.1)))
    (λ l d fl fd. ap (λ (x : Datagram). x.local) (sym fd.1.1.1.1.1)))
    (λ n d fn fd. omega (arith, fd.1.1.1.1.1.0.0)))
    datagram_fits datagram_back

-- ---- records

abbrev OpeningFit : Opening → Type 0
OpeningFit o = Unit {0} × (Within 103 103 103 × (FitsInMode o.key × (FitsExtra o.key.mode o.extra × (FitsConfig o.config × ((let y : Opening = record { key = o.key; extra = o.extra; config = o.config } in y) ≡ o)))))

abbrev opening_text : Opening → List ℕ
opening_text o = replicate 3 0 ++ ((103 ∷ []) ++ (key_octets o.key ++ (extra_octets o.extra ++ (config_octets o.config ++ []))))

abbrev opening_body : Opening → List ℕ
opening_body o = to_be_bytes w32 (length (opening_octets o)) ++ opening_octets o

pub opening_length : (o : Opening) → FitsKey o.key → FitsConfig o.config → length (opening_octets o) ≡ 103
opening_length o k c = omega (arith, key_octets_length o.key k, extra_octets_length o.extra, config_octets_length o.config c, length-append (key_octets o.key ++ extra_octets o.extra) (config_octets o.config), length-append (key_octets o.key) (extra_octets o.extra))

-- what may be held of a mode's SSID and extra, as one test
sound_test : (k : Key) (x : Extra) → (k.mode ≡ Twamp → k.ssid ≡ 0) → HasNoExtra k.mode x → is_sound k x ≡ true
sound_test k x ssid none = of_mode k.mode ssid none
  where
    of_mode : (m : Mode) → (m ≡ Twamp → k.ssid ≡ 0) → HasNoExtra m x → is_sound_in m k.ssid x ≡ true
    of_mode Plain s n = rw (n.0, n.1) refl
    of_mode Auth s n = rw (n.0, n.1) refl
    of_mode Twamp s n = rw (s refl) refl

no_extra_parts : (x : Extra) → has_no_extra x ≡ true → (x.symmetrical ≡ false) × (x.reflect ≡ 0)
no_extra_parts x e =
    let p = both_true (not x.symmetrical) (eqb x.reflect 0) e in
    (not_true x.symmetrical p.0, eqb-true x.reflect 0 p.1)
  where
    not_true : (b : Bool) → not b ≡ true → b ≡ false
    not_true true e = absurd cc
    not_true false e = refl

sound_ssid : (k : Key) (x : Extra) → is_sound k x ≡ true → k.mode ≡ Twamp → k.ssid ≡ 0
sound_ssid k x e m = eqb-true k.ssid 0 (ap (λ (n : Mode). is_sound_in n k.ssid x) (sym m) ∙ e)

sound_extra : (k : Key) (x : Extra) → is_sound k x ≡ true → HasNoExtra k.mode x
sound_extra k x e = of_mode k.mode e
  where
    of_mode : (m : Mode) → is_sound_in m k.ssid x ≡ true → HasNoExtra m x
    of_mode Plain s = no_extra_parts x s
    of_mode Auth s = no_extra_parts x s
    of_mode Twamp s = tt

-- three parts behind a head, grouped to the left
regroup : (h a b c : List ℕ) → h ++ (a ++ (b ++ (c ++ []))) ≡ h ++ ((a ++ b) ++ c)
regroup h a b c = simp (append_assoc, append-nil)

opening_fits : (o : Opening) → OpeningFit o → FitsOpening o × (opening_text o ≡ opening_body o)
opening_fits o f =
    let fits : FitsOpening o = record { session = record { key = f.1.1.0.fits; reflect = f.1.1.1.0.1; sound = sound_test o.key o.extra f.1.1.0.sound f.1.1.1.0.0 }; config = f.1.1.1.1.0 } in
    (fits, regroup (0 ∷ 0 ∷ 0 ∷ 103 ∷ []) (key_octets o.key) (extra_octets o.extra) (config_octets o.config) ∙ ap (λ (n : ℕ). to_be_bytes w32 n ++ opening_octets o) (sym (opening_length o fits.session.key fits.config)))

opening_parts : (o : Opening) → FitsOpening o → OpeningFit o
opening_parts o f =
    let k : FitsInMode o.key = record { fits = f.session.key; sound = sound_ssid o.key o.extra f.session.sound } in
    (tt, ((omega arith, omega arith), (k, ((sound_extra o.key o.extra f.session.sound, f.session.reflect), (f.config, refl)))))

pub opening_obeys : Obeys opening_at opening_body FitsOpening
unfolding opening_at
opening_obeys = same_obeys opening_at opening_text opening_body OpeningFit FitsOpening
    (then_obeys _ _ _ (λ (o : Opening). tt) _ _ _ (zeros_obeys 3)
    (λ z fz. then_obeys _ _ _ (λ (o : Opening). 103) _ _ _ (range_obeys 103 103 (omega arith) (omega arith))
    (λ n fn. then_obeys _ _ _ (λ (o : Opening). o.key) _ _ _ key_obeys
    (λ k fk. then_obeys _ _ _ (λ (o : Opening). o.extra) _ _ _ (extra_obeys k.mode)
    (λ x fx. then_obeys _ _ _ (λ (o : Opening). o.config) _ _ _ config_obeys
    (λ c fc. done_obeys (let y : Opening = record { key = k; extra = x; config = c } in y))
    (λ c o fc fo. ap (λ (y : Opening). y.config) (sym fo)))
    (λ x o fx fo. ap (λ (y : Opening). y.extra) (sym fo.1)))
    (λ k o fk fo. ap (λ (y : Opening). y.key) (sym fo.1.1)))
    (λ n o fn fo. omega (arith, fn)))
    (λ z o fz fo. refl))
    opening_fits opening_parts

-- ---- keys without an extra

key_sound : (k : Key) → FitsInMode k → FitsSession k no_extra
key_sound k f = record { key = f.fits; reflect = omega arith; sound = sound_test k no_extra f.sound (none k.mode) }
  where
    none : (m : Mode) → HasNoExtra m no_extra
    none Plain = (refl, refl)
    none Auth = (refl, refl)
    none Twamp = tt

key_in_mode : (k : Key) → FitsSession k no_extra → FitsInMode k
key_in_mode k f = record { fits = f.key; sound = sound_ssid k no_extra f.sound }

abbrev SettingFit : Setting → Type 0
SettingFit s = Unit {0} × (Within 100 100 100 × (FitsInMode s.key × (FitsConfig s.config × ((let y : Setting = record { key = s.key; config = s.config } in y) ≡ s))))

abbrev setting_text : Setting → List ℕ
setting_text s = replicate 3 0 ++ ((100 ∷ []) ++ (key_octets s.key ++ (config_octets s.config ++ [])))

abbrev setting_body : Setting → List ℕ
setting_body s = to_be_bytes w32 (length (setting_octets s)) ++ setting_octets s

setting_length : (s : Setting) → FitsKey s.key → FitsConfig s.config → length (setting_octets s) ≡ 100
setting_length s k c = omega (arith, key_octets_length s.key k, config_octets_length s.config c, length-append (key_octets s.key) (config_octets s.config))

setting_fits : (s : Setting) → SettingFit s → FitsSetting s × (setting_text s ≡ setting_body s)
setting_fits s f =
    let fits : FitsSetting s = record { session = key_sound s.key f.1.1.0; config = f.1.1.1.0 } in
    (fits, ap (λ (l : List ℕ). 0 ∷ 0 ∷ 0 ∷ 100 ∷ (key_octets s.key ++ l)) (append-nil (config_octets s.config)) ∙ ap (λ (n : ℕ). to_be_bytes w32 n ++ setting_octets s) (sym (setting_length s f.1.1.0.fits fits.config)))

setting_parts : (s : Setting) → FitsSetting s → SettingFit s
setting_parts s f = (tt, ((omega arith, omega arith), (key_in_mode s.key f.session, (f.config, refl))))

pub setting_obeys : Obeys setting_at setting_body FitsSetting
unfolding setting_at
setting_obeys = same_obeys setting_at setting_text setting_body SettingFit FitsSetting
    (then_obeys _ _ _ (λ (s : Setting). tt) _ _ _ (zeros_obeys 3)
    (λ z fz. then_obeys _ _ _ (λ (s : Setting). 100) _ _ _ (range_obeys 100 100 (omega arith) (omega arith))
    (λ n fn. then_obeys _ _ _ (λ (s : Setting). s.key) _ _ _ key_obeys
    (λ k fk. then_obeys _ _ _ (λ (s : Setting). s.config) _ _ _ config_obeys
    (λ c fc. done_obeys (let y : Setting = record { key = k; config = c } in y))
    (λ c s fc fs. ap (λ (y : Setting). y.config) (sym fs)))
    (λ k s fk fs. ap (λ (y : Setting). y.key) (sym fs.1)))
    (λ n s fn fs. omega (arith, fn)))
    (λ z s fz fs. refl))
    setting_fits setting_parts

abbrev ClosingFit : Key → Type 0
ClosingFit k = Unit {0} × (Within 24 24 24 × FitsInMode k)

abbrev closing_text : Key → List ℕ
closing_text k = replicate 3 0 ++ ((24 ∷ []) ++ key_octets k)

abbrev closing_body : Key → List ℕ
closing_body k = to_be_bytes w32 (length (key_octets k)) ++ key_octets k

abbrev FitsClosing : Key → Type 0
FitsClosing k = FitsSession k no_extra

closing_fits : (k : Key) → ClosingFit k → FitsClosing k × (closing_text k ≡ closing_body k)
closing_fits k f = (key_sound k f.1.1, ap (λ (n : ℕ). to_be_bytes w32 n ++ key_octets k) (sym (key_octets_length k f.1.1.fits)))

closing_parts : (k : Key) → FitsClosing k → ClosingFit k
closing_parts k f = (tt, ((omega arith, omega arith), key_in_mode k f))

pub closing_obeys : Obeys closing_at closing_body FitsClosing
unfolding closing_at
closing_obeys = same_obeys closing_at closing_text closing_body ClosingFit FitsClosing
    (then_obeys _ _ _ (λ (k : Key). tt) _ _ _ (zeros_obeys 3)
    (λ z fz. then_obeys _ _ _ (λ (k : Key). 24) _ _ _ (range_obeys 24 24 (omega arith) (omega arith))
    (λ n fn. key_obeys)
    (λ n k fn fk. omega (arith, fn)))
    (λ z k fz fk. refl))
    closing_fits closing_parts

-- ---- records by their tags

abbrev tag_of : Item → ℕ
tag_of (Opens o) = 1
tag_of (Sets s) = 2
tag_of (Closes k) = 3
tag_of (Arrives d) = 4
tag_of (Lists ls) = 5

abbrev body_text : Item → List ℕ
body_text (Opens o) = opening_body o
body_text (Sets s) = setting_body s
body_text (Closes k) = closing_body k
body_text (Arrives d) = datagram_body d
body_text (Lists ls) = locals_body ls

abbrev BodyFits : ℕ → Item → Type 0
BodyFits t i = (tag_of i ≡ t) × Fits i

opening_back : (i : Item) → BodyFits 1 i → (o : Opening) × FitsOpening o × (Opens o ≡ i)
opening_back (Opens o) f = (o, f.1, refl)
opening_back (Sets s) f = absurd (omega (arith, f.0))
opening_back (Closes k) f = absurd (omega (arith, f.0))
opening_back (Arrives d) f = absurd (omega (arith, f.0))
opening_back (Lists ls) f = absurd (omega (arith, f.0))

setting_back : (i : Item) → BodyFits 2 i → (s : Setting) × FitsSetting s × (Sets s ≡ i)
setting_back (Opens o) f = absurd (omega (arith, f.0))
setting_back (Sets s) f = (s, f.1, refl)
setting_back (Closes k) f = absurd (omega (arith, f.0))
setting_back (Arrives d) f = absurd (omega (arith, f.0))
setting_back (Lists ls) f = absurd (omega (arith, f.0))

closing_back : (i : Item) → BodyFits 3 i → (k : Key) × FitsClosing k × (Closes k ≡ i)
closing_back (Opens o) f = absurd (omega (arith, f.0))
closing_back (Sets s) f = absurd (omega (arith, f.0))
closing_back (Closes k) f = (k, f.1, refl)
closing_back (Arrives d) f = absurd (omega (arith, f.0))
closing_back (Lists ls) f = absurd (omega (arith, f.0))

arrived_back : (i : Item) → BodyFits 4 i → (d : Datagram) × FitsDatagram d × (Arrives d ≡ i)
arrived_back (Opens o) f = absurd (omega (arith, f.0))
arrived_back (Sets s) f = absurd (omega (arith, f.0))
arrived_back (Closes k) f = absurd (omega (arith, f.0))
arrived_back (Arrives d) f = (d, f.1, refl)
arrived_back (Lists ls) f = absurd (omega (arith, f.0))

listed_back : (i : Item) → BodyFits 5 i → (ls : List Endpoint) × FitsLocals ls × (Lists ls ≡ i)
listed_back (Opens o) f = absurd (omega (arith, f.0))
listed_back (Sets s) f = absurd (omega (arith, f.0))
listed_back (Closes k) f = absurd (omega (arith, f.0))
listed_back (Arrives d) f = absurd (omega (arith, f.0))
listed_back (Lists ls) f = (ls, f.1, refl)

body_1 : Obeys (body_at 1) body_text (BodyFits 1)
unfolding body_at
body_1 = into_obeys opening_at opening_body FitsOpening (λ o. Opens o) body_text (BodyFits 1) opening_obeys (λ o f. ((refl, f), refl)) opening_back

body_2 : Obeys (body_at 2) body_text (BodyFits 2)
unfolding body_at
body_2 = into_obeys setting_at setting_body FitsSetting (λ s. Sets s) body_text (BodyFits 2) setting_obeys (λ s f. ((refl, f), refl)) setting_back

body_3 : Obeys (body_at 3) body_text (BodyFits 3)
unfolding body_at
body_3 = into_obeys closing_at closing_body FitsClosing (λ k. Closes k) body_text (BodyFits 3) closing_obeys (λ k f. ((refl, f), refl)) closing_back

body_4 : Obeys (body_at 4) body_text (BodyFits 4)
unfolding body_at
body_4 = into_obeys datagram_at datagram_body FitsDatagram (λ d. Arrives d) body_text (BodyFits 4) datagram_obeys (λ d f. ((refl, f), refl)) arrived_back

body_5 : Obeys (body_at 5) body_text (BodyFits 5)
unfolding body_at
body_5 = into_obeys locals_at locals_body FitsLocals (λ ls. Lists ls) body_text (BodyFits 5) locals_obeys (λ ls f. ((refl, f), refl)) listed_back

five_tags : (t : ℕ) → Within 1 5 t → (t ≡ 1) ⊎ ((t ≡ 2) ⊎ ((t ≡ 3) ⊎ ((t ≡ 4) ⊎ (t ≡ 5))))
five_tags t w = grind (arith, nat_tests)

body_obeys : (t : ℕ) → Within 1 5 t → Obeys (body_at t) body_text (BodyFits t)
body_obeys t w =
    let P : ℕ → Type 0 = λ n. Obeys (body_at n) body_text (BodyFits n) in
    elim (five_tags t w) [
      | inl e ↦ subst P (sym e) body_1
      | inr r ↦ elim r [
        | inl e ↦ subst P (sym e) body_2
        | inr r ↦ elim r [
          | inl e ↦ subst P (sym e) body_3
          | inr r ↦ elim r [ inl e ↦ subst P (sym e) body_4 | inr e ↦ subst P (sym e) body_5 ]
        ]
      ]
    ]

item_fits : (i : Item) → Within 1 5 (tag_of i) × BodyFits (tag_of i) i → Fits i × ((tag_of i ∷ []) ++ body_text i ≡ spelling i)
item_fits (Opens o) f = (f.1.1, refl)
item_fits (Sets s) f = (f.1.1, refl)
item_fits (Closes k) f = (f.1.1, refl)
item_fits (Arrives d) f = (f.1.1, refl)
item_fits (Lists ls) f = (f.1.1, refl)

item_back : (i : Item) → Fits i → Within 1 5 (tag_of i) × BodyFits (tag_of i) i
item_back (Opens o) f = ((omega arith, omega arith), (refl, f))
item_back (Sets s) f = ((omega arith, omega arith), (refl, f))
item_back (Closes k) f = ((omega arith, omega arith), (refl, f))
item_back (Arrives d) f = ((omega arith, omega arith), (refl, f))
item_back (Lists ls) f = ((omega arith, omega arith), (refl, f))

pub item_obeys : Obeys item_at spelling Fits
unfolding item_at
item_obeys = same_obeys item_at (λ i. (tag_of i ∷ []) ++ body_text i) spelling (λ i. Within 1 5 (tag_of i) × BodyFits (tag_of i) i) Fits
    (then_obeys _ _ _ tag_of _ _ _ (range_obeys 1 5 (omega arith) (omega arith)) body_obeys (λ t i ft fi. fi.0))
    item_fits item_back

-- no spelling is longer than that of the longest datagram
pub spelling_short : (i : Item) → Fits i → length (spelling i) ≤ 65551
spelling_short (Opens o) f = omega (arith, opening_length o f.session.key f.config)
spelling_short (Sets s) f = omega (arith, setting_length s f.session.key f.config)
spelling_short (Closes k) f = omega (arith, key_octets_length k f.key)
spelling_short (Arrives d) f = omega (arith, datagram_length d f.peer, f.len)
spelling_short (Lists ls) f = omega (arith, length-locals ls f.each, f.count)
