-- Endpoints, keys, extras and configurations obey their spellings.
use Rattle.std.proofs.Common.{◌≡◌, ℕ, ◌+◌, ◌*◌, ◌/◌, ◌%◌, ◌^◌, ◌<◌, Bool, true, false, cond, eqb, ◌||◌, List, [], ◌∷◌, ◌++◌, length, replicate, Option, Some, None, Result, Ok, refl, sym, ap, subst, ◌∙◌, append_assoc, arith, inl, inr, ◌⊎◌}
use Rattle.std.specs.Int.{w16, w32, to_be_bytes}
use Rattle.std.proofs.lemmas.Bool.Decides.{nat_tests}
use Rattle.std.proofs.lemmas.List.{append-nil, length-append}
use Rattle.octet_format.specs.declared.reading.Unread.{Unread}
use Rattle.refl_types.specs.declared.types.Address.{Address}
use Rattle.refl_types.specs.declared.types.Address.TheVariants.{V4, V6}
use Rattle.refl_types.specs.declared.types.Endpoint.{Endpoint}
use Rattle.refl_types.specs.declared.types.Mode.{Mode}
use Rattle.refl_types.specs.declared.types.Mode.TheVariants.{Plain, Auth, Twamp}
use Rattle.refl_types.specs.declared.config.Clock.{Clock}
use Rattle.refl_types.specs.declared.config.Clock.TheVariants.{Ntp, Ptp}
use Rattle.refl_types.specs.declared.types.Key.{Key}
use Rattle.refl_types.specs.declared.types.Extra.{Extra}
use Rattle.refl_types.specs.declared.config.ConfigParts.{ConfigParts}
use Rattle.octet_format.specs.Octets.{IsArray}
use Rattle.octet_format.specs.Reading.{◌>>=◌, number_at, octets_at, zeros_at}
use Rattle.refl_types.specs.Configs.{are_known_tlvs}
use Rattle.refl_types.specs.Spelling.{flag, family, address_octets, endpoint_octets, mode_code, key_octets, extra_octets, is_ptp, has, block_octets, config_flags, config_octets, FitsAddress, FitsEndpoint, FitsKey, FitsBlock, FitsConfig}
use Rattle.session_octets.specs.Sound.{FitsInMode, FitsExtra}
use Rattle.session_octets.specs.Reading.{address_at, endpoint_at, mode_of, ssid_at, key_at, extra_at, tlvs_at, block_at, has_bit, config_at}
use Rattle.refl_types.proofs.TlvFacts.{known_none, known_small, known_low, known_high, known_joined}
use Rattle.octet_format.proofs.Obeys.{Obeys, then_obeys, done_obeys, same_obeys, octet_obeys, FitsOctet, Within, range_obeys, u16_obeys, octets_obeys, zeros_obeys}

-- ---- addresses

abbrev address_text : Address → List ℕ
address_text x = family x ∷ address_octets x

abbrev body : Address → List ℕ
body (V4 a) = a
body (V6 a) = a

abbrev after_family : ℕ → List ℕ → Result (Address × List ℕ) Unread
after_family f octets = cond (eqb f 4) (octets_at 4 octets >>= λ a. zeros_at 12 a.1 >>= λ z. Ok (V4 a.0, z.1)) (octets_at 16 octets >>= λ a. Ok (V6 a.0, a.1))

abbrev AfterFits : ℕ → Address → Type 0
AfterFits f x = (family x ≡ f) × FitsAddress x

v4_fits : (x : Address) → IsArray 4 (body x) × (Unit {0} × (V4 (body x) ≡ x)) → AfterFits 4 x × (body x ++ (replicate 12 0 ++ []) ≡ address_octets x)
v4_fits (V4 a) f = ((refl, f.0), refl)
v4_fits (V6 a) f = absurd cc

v4_back : (x : Address) → AfterFits 4 x → IsArray 4 (body x) × (Unit {0} × (V4 (body x) ≡ x))
v4_back (V4 a) f = (f.1, (tt, refl))
v4_back (V6 a) f = absurd (omega (arith, f.0))

after_4 : Obeys (after_family 4) address_octets (AfterFits 4)
after_4 = same_obeys (after_family 4) (λ x. body x ++ (replicate 12 0 ++ [])) address_octets (λ x. IsArray 4 (body x) × (Unit {0} × (V4 (body x) ≡ x))) (AfterFits 4)
    (then_obeys _ _ _ body _ _ _ (octets_obeys 4) (λ a fa. then_obeys _ _ _ (λ (x : Address). tt) _ _ _ (zeros_obeys 12) (λ z fz. done_obeys (V4 a)) (λ z x fz fx. refl)) (λ a x fa fx. ap body (sym fx.1)))
    v4_fits v4_back

v6_fits : (x : Address) → IsArray 16 (body x) × (V6 (body x) ≡ x) → AfterFits 6 x × (body x ++ [] ≡ address_octets x)
v6_fits (V4 a) f = absurd cc
v6_fits (V6 a) f = ((refl, f.0), append-nil a)

v6_back : (x : Address) → AfterFits 6 x → IsArray 16 (body x) × (V6 (body x) ≡ x)
v6_back (V4 a) f = absurd (omega (arith, f.0))
v6_back (V6 a) f = (f.1, refl)

after_6 : Obeys (after_family 6) address_octets (AfterFits 6)
after_6 = same_obeys (after_family 6) (λ x. body x ++ []) address_octets (λ x. IsArray 16 (body x) × (V6 (body x) ≡ x)) (AfterFits 6)
    (then_obeys _ _ _ body _ _ _ (octets_obeys 16) (λ a fa. done_obeys (V6 a)) (λ a x fa fx. ap body (sym fx)))
    v6_fits v6_back

abbrev is_family : ℕ → Bool
is_family b = eqb b 4 || eqb b 6

two_families : (f : ℕ) → is_family f ≡ true → (f ≡ 4) ⊎ (f ≡ 6)
two_families f e = grind (arith, nat_tests)

after_both : (f : ℕ) → FitsOctet is_family f → Obeys (after_family f) address_octets (AfterFits f)
after_both f fits = elim (two_families f fits.0) [
  | inl e ↦ subst (λ (n : ℕ). Obeys (after_family n) address_octets (AfterFits n)) (sym e) after_4
  | inr e ↦ subst (λ (n : ℕ). Obeys (after_family n) address_octets (AfterFits n)) (sym e) after_6
]

address_fits : (x : Address) → FitsOctet is_family (family x) × AfterFits (family x) x → FitsAddress x × ((family x ∷ []) ++ address_octets x ≡ address_text x)
address_fits (V4 a) f = (f.1.1, refl)
address_fits (V6 a) f = (f.1.1, refl)

address_back : (x : Address) → FitsAddress x → FitsOctet is_family (family x) × AfterFits (family x) x
address_back (V4 a) f = ((refl, omega arith), (refl, f))
address_back (V6 a) f = ((refl, omega arith), (refl, f))

pub address_obeys : Obeys address_at address_text FitsAddress
unfolding address_at
address_obeys = same_obeys address_at (λ x. (family x ∷ []) ++ address_octets x) address_text (λ x. FitsOctet is_family (family x) × AfterFits (family x) x) FitsAddress
    (then_obeys _ _ _ family _ _ _ (octet_obeys is_family 4 (refl, omega arith)) after_both (λ f x ff fx. fx.0))
    address_fits address_back

-- ---- endpoints

pub endpoint_obeys : Obeys endpoint_at endpoint_octets FitsEndpoint
unfolding endpoint_at
endpoint_obeys = same_obeys endpoint_at (λ e. address_text e.address ++ (to_be_bytes w16 e.port ++ [])) endpoint_octets (λ e. FitsAddress e.address × ((e.port < 2 ^ 16) × ((record { address = e.address; port = e.port }) ≡ e))) FitsEndpoint
    (then_obeys _ _ _ (λ (e : Endpoint). e.address) _ _ _ address_obeys
    (λ a fa. then_obeys _ _ _ (λ (e : Endpoint). e.port) _ _ _ u16_obeys (λ p fp. done_obeys (let e : Endpoint = record { address = a; port = p } in e)) (λ p e fp fe. ap (λ (x : Endpoint). x.port) (sym fe)))
    (λ a e fa fe. ap (λ (x : Endpoint). x.address) (sym fe.1)))
    (λ e f. (record { address = f.0; port = f.1.0 }, refl))
    (λ e f. (f.address, (f.port, refl)))

-- ---- keys

abbrev SoundSsid : ℕ → ℕ → Type 0
SoundSsid m s = (s < 2 ^ 16) × (m ≡ 2 → s ≡ 0)

three_modes : (m : ℕ) → Within 0 2 m → (m ≡ 0) ⊎ ((m ≡ 1) ⊎ (m ≡ 2))
three_modes m w = grind (arith, nat_tests)

ssid_2 : Obeys (ssid_at 2) (to_be_bytes w16) (SoundSsid 2)
unfolding ssid_at
ssid_2 = same_obeys (ssid_at 2) (λ s. replicate 2 0 ++ []) (to_be_bytes w16) (λ s. Unit {0} × (0 ≡ s)) (SoundSsid 2)
    (then_obeys _ _ _ (λ (s : ℕ). tt) _ _ _ (zeros_obeys 2) (λ z fz. done_obeys 0) (λ z s fz fs. refl))
    (λ s f. ((omega (arith, f.1), λ e. sym f.1), subst (λ (n : ℕ). (replicate 2 0 ++ []) ≡ to_be_bytes w16 n) f.1 refl))
    (λ s f. (tt, sym (f.1 refl)))

ssid_0 : Obeys (ssid_at 0) (to_be_bytes w16) (SoundSsid 0)
unfolding ssid_at
ssid_0 = same_obeys (number_at w16) (to_be_bytes w16) (to_be_bytes w16) (λ s. s < 2 ^ 16) (SoundSsid 0) u16_obeys (λ s f. ((f, λ e. omega arith), refl)) (λ s f. f.0)

ssid_1 : Obeys (ssid_at 1) (to_be_bytes w16) (SoundSsid 1)
unfolding ssid_at
ssid_1 = same_obeys (number_at w16) (to_be_bytes w16) (to_be_bytes w16) (λ s. s < 2 ^ 16) (SoundSsid 1) u16_obeys (λ s f. ((f, λ e. omega arith), refl)) (λ s f. f.0)

ssid_obeys : (m : ℕ) → Within 0 2 m → Obeys (ssid_at m) (to_be_bytes w16) (SoundSsid m)
ssid_obeys m w = elim (three_modes m w) [
  | inl e ↦ subst (λ (n : ℕ). Obeys (ssid_at n) (to_be_bytes w16) (SoundSsid n)) (sym e) ssid_0
  | inr r ↦ elim r [
    | inl e ↦ subst (λ (n : ℕ). Obeys (ssid_at n) (to_be_bytes w16) (SoundSsid n)) (sym e) ssid_1
    | inr e ↦ subst (λ (n : ℕ). Obeys (ssid_at n) (to_be_bytes w16) (SoundSsid n)) (sym e) ssid_2
  ]
]

mode_within : (m : Mode) → Within 0 2 (mode_code m)
mode_within Plain = (omega arith, omega arith)
mode_within Auth = (omega arith, omega arith)
mode_within Twamp = (omega arith, omega arith)

mode_back : (m : Mode) → mode_of (mode_code m) ≡ m
mode_back Plain = refl
mode_back Auth = refl
mode_back Twamp = refl

mode_there : (m : ℕ) → Within 0 2 m → mode_code (mode_of m) ≡ m
mode_there m w = elim (three_modes m w) [
  | inl e ↦ rw e refl
  | inr r ↦ elim r [ inl e ↦ rw e refl | inr e ↦ rw e refl ]
]

twamp_only : (m : Mode) → mode_code m ≡ 2 → m ≡ Twamp
twamp_only Plain e = absurd (omega arith)
twamp_only Auth e = absurd (omega arith)
twamp_only Twamp e = refl

abbrev KeyParts : Key → Type 0
KeyParts k = (k.local < 2 ^ 16) × (FitsEndpoint k.peer × (Within 0 2 (mode_code k.mode) × (SoundSsid (mode_code k.mode) k.ssid × (record { local = k.local; peer = k.peer; mode = mode_of (mode_code k.mode); ssid = k.ssid } ≡ k))))

abbrev key_text : Key → List ℕ
key_text k = to_be_bytes w16 k.local ++ (endpoint_octets k.peer ++ ((mode_code k.mode ∷ []) ++ (to_be_bytes w16 k.ssid ++ [])))

regroup_three : (a b c d : List ℕ) → a ++ (b ++ (c ++ (d ++ []))) ≡ (a ++ b) ++ (c ++ d)
regroup_three a b c d = simp (append_assoc, append-nil)

key_fits : (k : Key) → KeyParts k → FitsInMode k × (key_text k ≡ key_octets k)
key_fits k f = (record { fits = record { local = f.0; peer = f.1.0; ssid = f.1.1.1.0.0 }; sound = λ e. f.1.1.1.0.1 (ap mode_code e) }, regroup_three (to_be_bytes w16 k.local) (endpoint_octets k.peer) (mode_code k.mode ∷ []) (to_be_bytes w16 k.ssid))

key_back : (k : Key) → FitsInMode k → KeyParts k
key_back k f =
    let same : (let x : Key = record { local = k.local; peer = k.peer; mode = mode_of (mode_code k.mode); ssid = k.ssid } in x) ≡ k = ap (λ (m : Mode). let x : Key = record { local = k.local; peer = k.peer; mode = m; ssid = k.ssid } in x) (mode_back k.mode) in
    (f.fits.local, (f.fits.peer, (mode_within k.mode, ((f.fits.ssid, λ e. f.sound (twamp_only k.mode e)), same))))

pub key_obeys : Obeys key_at key_octets FitsInMode
unfolding key_at
key_obeys = same_obeys key_at key_text key_octets KeyParts FitsInMode
    (then_obeys _ _ _ (λ (k : Key). k.local) _ _ _ u16_obeys
    (λ l fl. then_obeys _ _ _ (λ (k : Key). k.peer) _ _ _ endpoint_obeys
    (λ p fp. then_obeys _ _ _ (λ (k : Key). mode_code k.mode) _ _ _ (range_obeys 0 2 (omega arith) (omega arith))
    (λ m fm. then_obeys _ _ _ (λ (k : Key). k.ssid) _ _ _ (ssid_obeys m fm)
    (λ s fs. done_obeys (let k : Key = record { local = l; peer = p; mode = mode_of m; ssid = s } in k))
    (λ s k fs fk. ap (λ (x : Key). x.ssid) (sym fk)))
    (λ m k fm fk. ap (λ (x : Key). mode_code x.mode) (sym fk.1) ∙ mode_there m fm))
    (λ p k fp fk. ap (λ (x : Key). x.peer) (sym fk.1.1)))
    (λ l k fl fk. ap (λ (x : Key). x.local) (sym fk.1.1.1)))
    key_fits key_back

-- ---- extras

abbrev none_text : List ℕ
none_text = replicate 3 0 ++ []

none_fits : (x : Extra) → Unit {0} × ((let y : Extra = record { symmetrical = false; reflect = 0 } in y) ≡ x) → ((x.symmetrical ≡ false) × (x.reflect ≡ 0)) × (x.reflect < 2 ^ 16) × (none_text ≡ extra_octets x)
none_fits x f = ((ap (λ (y : Extra). y.symmetrical) (sym f.1), ap (λ (y : Extra). y.reflect) (sym f.1)), subst (λ (y : Extra). y.reflect < 2 ^ 16) f.1 (omega arith), subst (λ (y : Extra). none_text ≡ extra_octets y) f.1 refl)

none_back : (x : Extra) → ((x.symmetrical ≡ false) × (x.reflect ≡ 0)) → Unit {0} × ((let y : Extra = record { symmetrical = false; reflect = 0 } in y) ≡ x)
none_back x f = (tt, ap (λ (b : Bool). let y : Extra = record { symmetrical = b; reflect = 0 } in y) (sym f.0) ∙ ap (λ (n : ℕ). let y : Extra = record { symmetrical = x.symmetrical; reflect = n } in y) (sym f.1))

plain_extra : Obeys (extra_at Plain) extra_octets (FitsExtra Plain)
unfolding extra_at
plain_extra = same_obeys (extra_at Plain) (λ x. none_text) extra_octets (λ x. Unit {0} × ((let y : Extra = record { symmetrical = false; reflect = 0 } in y) ≡ x)) (FitsExtra Plain)
    (then_obeys _ _ _ (λ (x : Extra). tt) _ _ _ (zeros_obeys 3) (λ z fz. done_obeys (let y : Extra = record { symmetrical = false; reflect = 0 } in y)) (λ z s fz fs. refl))
    (λ x f. let n = none_fits x f in ((n.0, n.1), n.2))
    (λ x f. none_back x f.0)

auth_extra : Obeys (extra_at Auth) extra_octets (FitsExtra Auth)
unfolding extra_at
auth_extra = same_obeys (extra_at Auth) (λ x. none_text) extra_octets (λ x. Unit {0} × ((let y : Extra = record { symmetrical = false; reflect = 0 } in y) ≡ x)) (FitsExtra Auth)
    (then_obeys _ _ _ (λ (x : Extra). tt) _ _ _ (zeros_obeys 3) (λ z fz. done_obeys (let y : Extra = record { symmetrical = false; reflect = 0 } in y)) (λ z s fz fs. refl))
    (λ x f. let n = none_fits x f in ((n.0, n.1), n.2))
    (λ x f. none_back x f.0)

zero_or_one : (t : ℕ) → Within 0 1 t → (t ≡ 0) ⊎ (t ≡ 1)
zero_or_one t w = grind (arith, nat_tests)

flag_within : (b : Bool) → Within 0 1 (flag b)
flag_within true = (omega arith, omega arith)
flag_within false = (omega arith, omega arith)

flag_back : (b : Bool) → eqb (flag b) 1 ≡ b
flag_back true = refl
flag_back false = refl

flag_there : (n : ℕ) → Within 0 1 n → flag (eqb n 1) ≡ n
flag_there n w = elim (zero_or_one n w) [ inl e ↦ rw e refl | inr e ↦ rw e refl ]

abbrev ExtraParts : Extra → Type 0
ExtraParts x = Within 0 1 (flag x.symmetrical) × ((x.reflect < 2 ^ 16) × ((let y : Extra = record { symmetrical = eqb (flag x.symmetrical) 1; reflect = x.reflect } in y) ≡ x))

twamp_extra : Obeys (extra_at Twamp) extra_octets (FitsExtra Twamp)
unfolding extra_at
twamp_extra = same_obeys (extra_at Twamp) (λ x. (flag x.symmetrical ∷ []) ++ (to_be_bytes w16 x.reflect ++ [])) extra_octets ExtraParts (FitsExtra Twamp)
    (then_obeys _ _ _ (λ (x : Extra). flag x.symmetrical) _ _ _ (range_obeys 0 1 (omega arith) (omega arith))
    (λ s fs. then_obeys _ _ _ (λ (x : Extra). x.reflect) _ _ _ u16_obeys
    (λ r fr. done_obeys (let y : Extra = record { symmetrical = eqb s 1; reflect = r } in y))
    (λ r x fr fx. ap (λ (y : Extra). y.reflect) (sym fx)))
    (λ s x fs fx. ap (λ (y : Extra). flag y.symmetrical) (sym fx.1) ∙ flag_there s fs))
    (λ x f. ((tt, f.1.0), refl))
    (λ x f. (flag_within x.symmetrical, (f.1, ap (λ (b : Bool). let y : Extra = record { symmetrical = b; reflect = x.reflect } in y) (flag_back x.symmetrical))))

pub extra_obeys : (m : Mode) → Obeys (extra_at m) extra_octets (FitsExtra m)
extra_obeys Plain = plain_extra
extra_obeys Auth = auth_extra
extra_obeys Twamp = twamp_extra

-- ---- configurations

abbrev BlockFits : Bool → Option (List ℕ) → Type 0
BlockFits b o = (has o ≡ b) × FitsBlock o

abbrev block_body : Option (List ℕ) → List ℕ
block_body None = []
block_body (Some b) = b

some_fits : (o : Option (List ℕ)) → IsArray 64 (block_body o) × (Some (block_body o) ≡ o) → BlockFits true o × (block_body o ++ [] ≡ block_octets o)
some_fits None f = absurd cc
some_fits (Some b) f = ((refl, f.0), append-nil b)

some_back : (o : Option (List ℕ)) → BlockFits true o → IsArray 64 (block_body o) × (Some (block_body o) ≡ o)
some_back None f = absurd (cc (f.0))
some_back (Some b) f = (f.1, refl)

abbrev no_block : Option (List ℕ)
no_block = None

no_fits : (o : Option (List ℕ)) → Unit {0} × (no_block ≡ o) → BlockFits false o × (replicate 64 0 ++ [] ≡ block_octets o)
no_fits None f = ((refl, tt), refl)
no_fits (Some b) f = absurd (cc (f.1))

no_back : (o : Option (List ℕ)) → BlockFits false o → Unit {0} × (no_block ≡ o)
no_back None f = (tt, refl)
no_back (Some b) f = absurd (cc (f.0))

block_obeys : (b : Bool) → Obeys (block_at b) block_octets (BlockFits b)
unfolding block_at
block_obeys true = same_obeys (block_at true) (λ o. block_body o ++ []) block_octets (λ o. IsArray 64 (block_body o) × (Some (block_body o) ≡ o)) (BlockFits true)
    (then_obeys _ _ _ block_body _ _ _ (octets_obeys 64) (λ a fa. done_obeys (Some a)) (λ a x fa fx. ap block_body (sym fx)))
    some_fits some_back
block_obeys false = same_obeys (block_at false) (λ o. replicate 64 0 ++ []) block_octets (λ o. Unit {0} × (no_block ≡ o)) (BlockFits false)
    (then_obeys _ _ _ (λ (o : Option (List ℕ)). tt) _ _ _ (zeros_obeys 64) (λ z fz. done_obeys no_block) (λ z s fz fs. refl))
    no_fits no_back

abbrev four : Bool → Bool → Bool → Bool → ℕ
four a b c d = flag a + 2 * flag b + 4 * flag c + 8 * flag d

bits : (a b c d : Bool) → (has_bit (four a b c d) 1 ≡ a) × (has_bit (four a b c d) 2 ≡ b) × (has_bit (four a b c d) 4 ≡ c) × (has_bit (four a b c d) 8 ≡ d)
bits true true true true = (refl, refl, refl, refl)
bits true true true false = (refl, refl, refl, refl)
bits true true false true = (refl, refl, refl, refl)
bits true true false false = (refl, refl, refl, refl)
bits true false true true = (refl, refl, refl, refl)
bits true false true false = (refl, refl, refl, refl)
bits true false false true = (refl, refl, refl, refl)
bits true false false false = (refl, refl, refl, refl)
bits false true true true = (refl, refl, refl, refl)
bits false true true false = (refl, refl, refl, refl)
bits false true false true = (refl, refl, refl, refl)
bits false true false false = (refl, refl, refl, refl)
bits false false true true = (refl, refl, refl, refl)
bits false false true false = (refl, refl, refl, refl)
bits false false false true = (refl, refl, refl, refl)
bits false false false false = (refl, refl, refl, refl)

four_within : (a b c d : Bool) → Within 0 15 (four a b c d)
four_within a b c d = (omega arith, omega (arith, flag_within a, flag_within b, flag_within c, flag_within d))

flag_bit : (n : ℕ) → flag (eqb (n % 2) 1) ≡ n % 2
flag_bit n = flag_there (n % 2) (omega arith, omega arith)

four_bits : (n : ℕ) → Within 0 15 n → four (has_bit n 1) (has_bit n 2) (has_bit n 4) (has_bit n 8) ≡ n
four_bits n w = omega (arith, flag_bit (n / 1), flag_bit (n / 2), flag_bit (n / 4), flag_bit (n / 8))

abbrev clock_of : Bool → Clock
clock_of b = cond b Ptp Ntp

ptp_back : (c : Clock) → clock_of (is_ptp c) ≡ c
ptp_back Ntp = refl
ptp_back Ptp = refl

ptp_there : (b : Bool) → is_ptp (clock_of b) ≡ b
ptp_there true = refl
ptp_there false = refl

abbrev made_config : ℕ → ℕ → ℕ → ℕ → List ℕ → ℕ → Option (List ℕ) → ConfigParts
made_config f o s m i t k = record { stateful = has_bit f 1; clock = clock_of (has_bit f 2); offset = o; synced = has_bit f 8; scale = s; multiplier = m; info = i; tlvs = t; key = k }

made_flags : (f o s m : ℕ) (i : List ℕ) (t : ℕ) (k : Option (List ℕ)) → Within 0 15 f → has k ≡ has_bit f 4 → config_flags (made_config f o s m i t k) ≡ f
made_flags f o s m i t k w e = rw (ptp_there (has_bit f 2), e) (four_bits f w)

made_same : (c : ConfigParts) → made_config (config_flags c) c.offset c.scale c.multiplier c.info c.tlvs c.key ≡ c
made_same c =
    let b = bits c.stateful (is_ptp c.clock) (has c.key) c.synced in
    let k : clock_of (has_bit (config_flags c) 2) ≡ c.clock = ap clock_of b.1 ∙ ptp_back c.clock in
    ap (λ (x : Bool). let y : ConfigParts = record { stateful = x; clock = clock_of (has_bit (config_flags c) 2); offset = c.offset; synced = has_bit (config_flags c) 8; scale = c.scale; multiplier = c.multiplier; info = c.info; tlvs = c.tlvs; key = c.key } in y) b.0
    ∙ ap (λ (x : Clock). let y : ConfigParts = record { stateful = c.stateful; clock = x; offset = c.offset; synced = has_bit (config_flags c) 8; scale = c.scale; multiplier = c.multiplier; info = c.info; tlvs = c.tlvs; key = c.key } in y) k
    ∙ ap (λ (x : Bool). let y : ConfigParts = record { stateful = c.stateful; clock = c.clock; offset = c.offset; synced = x; scale = c.scale; multiplier = c.multiplier; info = c.info; tlvs = c.tlvs; key = c.key } in y) b.3

-- ---- TLV types

abbrev third : ℕ → ℕ
third n = n / 256

abbrev TlvsFit : ℕ → Type 0
TlvsFit n = Unit {0} × (FitsOctet (λ b. are_known_tlvs (b * 256)) (third n) × (FitsOctet are_known_tlvs (n % 256) × (third n * 256 + n % 256 ≡ n)))

pub record FitTlvs (n : ℕ) : Type 0 where
  pub known : are_known_tlvs n ≡ true
  pub range : n < 2 ^ 32

low_number : (n : ℕ) → n < 65536 → 0 ∷ 0 ∷ n / 256 ∷ n % 256 ∷ [] ≡ to_be_bytes w32 n
low_number n lt =
    let a : n / 16777216 % 256 ≡ 0 = omega arith in
    let b : n / 65536 % 256 ≡ 0 = omega arith in
    let c : n / 256 % 256 ≡ n / 256 = omega arith in
    rw (a, b, c) refl

tlvs_fit : (n : ℕ) → TlvsFit n → FitTlvs n × (replicate 2 0 ++ ((third n ∷ []) ++ ((n % 256 ∷ []) ++ [])) ≡ to_be_bytes w32 n)
tlvs_fit n f =
    let lt : n < 65536 = omega (arith, f.1.0.1) in
    let known : are_known_tlvs n ≡ true = subst (λ (x : ℕ). are_known_tlvs x ≡ true) f.1.1.1 (known_joined (third n) (n % 256) (omega arith) f.1.0.0 f.1.1.0.0) in
    (record { known = known; range = omega (arith, lt) }, low_number n lt)

tlvs_back : (n : ℕ) → FitTlvs n → TlvsFit n
tlvs_back n f =
    let small = known_small n f.range f.known in
    (tt, ((known_high n f.known, omega (arith, small)), ((known_low n f.known, omega arith), omega arith)))

tlvs_obeys : Obeys tlvs_at (to_be_bytes w32) FitTlvs
unfolding tlvs_at
tlvs_obeys = same_obeys tlvs_at (λ n. replicate 2 0 ++ ((third n ∷ []) ++ ((n % 256 ∷ []) ++ []))) (to_be_bytes w32) TlvsFit FitTlvs
    (then_obeys _ _ _ (λ (n : ℕ). tt) _ _ _ (zeros_obeys 2)
    (λ z fz. then_obeys _ _ _ third _ _ _ (octet_obeys (λ b. are_known_tlvs (b * 256)) 0 (known_high 0 known_none, omega arith))
    (λ h fh. then_obeys _ _ _ (λ (n : ℕ). n % 256) _ _ _ (octet_obeys are_known_tlvs 0 (known_none, omega arith))
    (λ l fl. done_obeys (h * 256 + l))
    (λ l n fl fn. omega (arith, fl.1, fn)))
    (λ h n fh fn. omega (arith, fn.1)))
    (λ z n fz fn. refl))
    tlvs_fit tlvs_back

-- ---- configurations

abbrev ConfigFit : ConfigParts → Type 0
ConfigFit c = Within 0 15 (config_flags c) × (Within 0 255 c.offset × (Within 0 63 c.scale × (Within 1 255 c.multiplier × (IsArray 4 c.info × (FitTlvs c.tlvs × (BlockFits (has_bit (config_flags c) 4) c.key × (made_config (config_flags c) c.offset c.scale c.multiplier c.info c.tlvs c.key ≡ c)))))))

abbrev config_text : ConfigParts → List ℕ
config_text c = (config_flags c ∷ []) ++ ((c.offset ∷ []) ++ ((c.scale ∷ []) ++ ((c.multiplier ∷ []) ++ (c.info ++ (to_be_bytes w32 c.tlvs ++ (block_octets c.key ++ []))))))

config_fits : (c : ConfigParts) → ConfigFit c → FitsConfig c × (config_text c ≡ config_octets c)
config_fits c f =
    let t = f.1.1.1.1.1.0 in (
      record { is_config = record { multiplier = f.1.1.1.0.0; scale = f.1.1.0.1; tlvs = t.known }; offset = omega (arith, f.1.0.1); multiplier = omega (arith, f.1.1.1.0.1); info = f.1.1.1.1.0; tlvs = t.range; block = f.1.1.1.1.1.1.0.1 },
      ap (λ (r : List ℕ). config_flags c ∷ c.offset ∷ c.scale ∷ c.multiplier ∷ (c.info ++ (to_be_bytes w32 c.tlvs ++ r))) (append-nil (block_octets c.key))
          ∙ ap (λ (r : List ℕ). config_flags c ∷ c.offset ∷ c.scale ∷ c.multiplier ∷ r) (sym (append_assoc c.info (to_be_bytes w32 c.tlvs) (block_octets c.key))),
    )

config_back : (c : ConfigParts) → FitsConfig c → ConfigFit c
config_back c f =
    let b = bits c.stateful (is_ptp c.clock) (has c.key) c.synced in
    (four_within c.stateful (is_ptp c.clock) (has c.key) c.synced, ((omega arith, omega (arith, f.offset)), ((omega arith, f.is_config.scale), ((f.is_config.multiplier, omega (arith, f.multiplier)), (f.info, (record { known = f.is_config.tlvs; range = f.tlvs }, ((sym b.2, f.block), made_same c)))))))

pub config_obeys : Obeys config_at config_octets FitsConfig
unfolding config_at
config_obeys = same_obeys config_at config_text config_octets ConfigFit FitsConfig
    (then_obeys _ _ _ config_flags _ _ _ (range_obeys 0 15 (omega arith) (omega arith))
    (λ f ff. then_obeys _ _ _ (λ (c : ConfigParts). c.offset) _ _ _ (range_obeys 0 255 (omega arith) (omega arith))
    (λ o fo. then_obeys _ _ _ (λ (c : ConfigParts). c.scale) _ _ _ (range_obeys 0 63 (omega arith) (omega arith))
    (λ s fs. then_obeys _ _ _ (λ (c : ConfigParts). c.multiplier) _ _ _ (range_obeys 1 255 (omega arith) (omega arith))
    (λ m fm. then_obeys _ _ _ (λ (c : ConfigParts). c.info) _ _ _ (octets_obeys 4)
    (λ i fi. then_obeys _ _ _ (λ (c : ConfigParts). c.tlvs) _ _ _ tlvs_obeys
    (λ t ft. then_obeys _ _ _ (λ (c : ConfigParts). c.key) _ _ _ (block_obeys (has_bit f 4))
    (λ k fk. done_obeys (made_config f o s m i t k))
    (λ k c fk fc. ap (λ (x : ConfigParts). x.key) (sym fc)))
    (λ t c ft fc. ap (λ (x : ConfigParts). x.tlvs) (sym fc.1)))
    (λ i c fi fc. ap (λ (x : ConfigParts). x.info) (sym fc.1.1)))
    (λ m c fm fc. ap (λ (x : ConfigParts). x.multiplier) (sym fc.1.1.1)))
    (λ s c fs fc. ap (λ (x : ConfigParts). x.scale) (sym fc.1.1.1.1)))
    (λ o c fo fc. ap (λ (x : ConfigParts). x.offset) (sym fc.1.1.1.1.1)))
    (λ f c ff fc. ap config_flags (sym fc.1.1.1.1.1.1) ∙ made_flags f c.offset c.scale c.multiplier c.info c.tlvs c.key ff fc.1.1.1.1.1.0.0))
    config_fits config_back

-- ---- lengths

pub address_octets_length : (x : Address) → FitsAddress x → length (address_octets x) ≡ 16
address_octets_length (V4 a) f = omega (arith, length-append a (replicate 12 0), f.0)
address_octets_length (V6 a) f = omega (arith, f.0)

pub endpoint_octets_length : (e : Endpoint) → FitsEndpoint e → length (endpoint_octets e) ≡ 19
endpoint_octets_length e f =
    let port : length (to_be_bytes w16 e.port) ≡ 2 = refl in
    omega (arith, address_octets_length e.address f.address, length-append (family e.address ∷ address_octets e.address) (to_be_bytes w16 e.port))

pub key_octets_length : (k : Key) → FitsKey k → length (key_octets k) ≡ 24
key_octets_length k f =
    let a : length (to_be_bytes w16 k.local) ≡ 2 = refl in
    let b : length (mode_code k.mode ∷ to_be_bytes w16 k.ssid) ≡ 3 = refl in
    omega (arith, endpoint_octets_length k.peer f.peer, length-append (to_be_bytes w16 k.local) (endpoint_octets k.peer), length-append (to_be_bytes w16 k.local ++ endpoint_octets k.peer) (mode_code k.mode ∷ to_be_bytes w16 k.ssid))

pub extra_octets_length : (x : Extra) → length (extra_octets x) ≡ 3
extra_octets_length x = refl

block_octets_length : (o : Option (List ℕ)) → FitsBlock o → length (block_octets o) ≡ 64
block_octets_length None f = refl
block_octets_length (Some b) f = f.0

pub config_octets_length : (c : ConfigParts) → FitsConfig c → length (config_octets c) ≡ 76
config_octets_length c f =
    let t : length (to_be_bytes w32 c.tlvs) ≡ 4 = refl in
    omega (arith, f.info.0, block_octets_length c.key f.block, length-append (config_flags c ∷ c.offset ∷ c.scale ∷ c.multiplier ∷ c.info) (to_be_bytes w32 c.tlvs), length-append ((config_flags c ∷ c.offset ∷ c.scale ∷ c.multiplier ∷ c.info) ++ to_be_bytes w32 c.tlvs) (block_octets c.key))
