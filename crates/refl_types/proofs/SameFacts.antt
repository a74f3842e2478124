-- What passes a test of equality is equal, and what is equal passes it.
use Rattle.std.proofs.Common.{◌≡◌, ℕ, Bool, true, false, ◌&&◌, List, [], ◌∷◌, Option, Some, None, refl, ap, ◌∙◌, arith, eqb}
use Rattle.std.proofs.lemmas.Bool.{eqb-true}
use Rattle.std.proofs.lemmas.Bool.Decides.{nat_tests}
use Rattle.refl_types.specs.declared.types.Address.{Address}
use Rattle.refl_types.specs.declared.types.Address.TheVariants.{V4, V6}
use Rattle.refl_types.specs.declared.types.Endpoint.{Endpoint}
use Rattle.refl_types.specs.declared.types.Mode.{Mode}
use Rattle.refl_types.specs.declared.types.Mode.TheVariants.{Plain, Auth, Twamp}
use Rattle.refl_types.specs.declared.types.Key.{Key}
use Rattle.refl_types.specs.declared.config.Clock.{Clock}
use Rattle.refl_types.specs.declared.config.Clock.TheVariants.{Ntp, Ptp}
use Rattle.refl_types.specs.declared.config.ConfigParts.{ConfigParts}
use Rattle.refl_types.specs.Same.{same_octets, same_address, same_endpoint, same_mode, same_key, same_flag, same_clock, same_block, same_config}

pub both_true : (a b : Bool) → (a && b) ≡ true → (a ≡ true) × (b ≡ true)
both_true true b e = (refl, e)
both_true false b e = absurd cc

pub eqb-same : (n : ℕ) → eqb n n ≡ true
eqb-same n = grind (arith, nat_tests)

pub octets_same : (a b : List ℕ) → same_octets a b ≡ true → a ≡ b
octets_same [] [] e = refl
octets_same [] (y ∷ ys) e = absurd cc
octets_same (x ∷ xs) [] e = absurd cc
octets_same (x ∷ xs) (y ∷ ys) e =
    let p = both_true (eqb x y) (same_octets xs ys) e in
    ap (λ (n : ℕ). n ∷ xs) (eqb-true x y p.0) ∙ ap (λ (l : List ℕ). y ∷ l) (octets_same xs ys p.1)

pub same_octets-refl : (a : List ℕ) → same_octets a a ≡ true
same_octets-refl [] = refl
same_octets-refl (x ∷ xs) = rw (eqb-same x, same_octets-refl xs) refl

pub address_same : (a b : Address) → same_address a b ≡ true → a ≡ b
address_same (V4 a) (V4 b) e = ap (λ (l : List ℕ). V4 l) (octets_same a b e)
address_same (V6 a) (V6 b) e = ap (λ (l : List ℕ). V6 l) (octets_same a b e)
address_same (V4 a) (V6 b) e = absurd cc
address_same (V6 a) (V4 b) e = absurd cc

pub same_address-refl : (a : Address) → same_address a a ≡ true
same_address-refl (V4 a) = same_octets-refl a
same_address-refl (V6 a) = same_octets-refl a

pub endpoint_same : (a b : Endpoint) → same_endpoint a b ≡ true → a ≡ b
endpoint_same a b e =
    let p = both_true (same_address a.address b.address) (eqb a.port b.port) e in
    let x : a.address ≡ b.address = address_same a.address b.address p.0 in
    let y : a.port ≡ b.port = eqb-true a.port b.port p.1 in
    ap (λ (n : Address). let z : Endpoint = record { address = n; port = a.port } in z) x ∙ ap (λ (n : ℕ). let z : Endpoint = record { address = b.address; port = n } in z) y

pub same_endpoint-refl : (a : Endpoint) → same_endpoint a a ≡ true
same_endpoint-refl a = rw (same_address-refl a.address, eqb-same a.port) refl

pub mode_same : (a b : Mode) → same_mode a b ≡ true → a ≡ b
mode_same Plain Plain e = refl
mode_same Auth Auth e = refl
mode_same Twamp Twamp e = refl
mode_same Plain Auth e = absurd cc
mode_same Plain Twamp e = absurd cc
mode_same Auth Plain e = absurd cc
mode_same Auth Twamp e = absurd cc
mode_same Twamp Plain e = absurd cc
mode_same Twamp Auth e = absurd cc

pub same_mode-refl : (a : Mode) → same_mode a a ≡ true
same_mode-refl Plain = refl
same_mode-refl Auth = refl
same_mode-refl Twamp = refl

pub key_same : (a b : Key) → same_key a b ≡ true → a ≡ b
unfolding same_key
key_same a b e =
    let p = both_true (eqb a.local b.local && same_endpoint a.peer b.peer && same_mode a.mode b.mode) (eqb a.ssid b.ssid) e in
    let q = both_true (eqb a.local b.local && same_endpoint a.peer b.peer) (same_mode a.mode b.mode) p.0 in
    let r = both_true (eqb a.local b.local) (same_endpoint a.peer b.peer) q.0 in
    let w : a.local ≡ b.local = eqb-true a.local b.local r.0 in
    let x : a.peer ≡ b.peer = endpoint_same a.peer b.peer r.1 in
    let y : a.mode ≡ b.mode = mode_same a.mode b.mode q.1 in
    let z : a.ssid ≡ b.ssid = eqb-true a.ssid b.ssid p.1 in
    ap (λ (n : ℕ). let k : Key = record { local = n; peer = a.peer; mode = a.mode; ssid = a.ssid } in k) w
    ∙ ap (λ (n : Endpoint). let k : Key = record { local = b.local; peer = n; mode = a.mode; ssid = a.ssid } in k) x
    ∙ ap (λ (n : Mode). let k : Key = record { local = b.local; peer = b.peer; mode = n; ssid = a.ssid } in k) y
    ∙ ap (λ (n : ℕ). let k : Key = record { local = b.local; peer = b.peer; mode = b.mode; ssid = n } in k) z

pub same_key-refl : (a : Key) → same_key a a ≡ true
unfolding same_key
same_key-refl a = rw (eqb-same a.local, same_endpoint-refl a.peer, same_mode-refl a.mode, eqb-same a.ssid) refl

-- ---- configurations

pub flag_same : (a b : Bool) → same_flag a b ≡ true → a ≡ b
flag_same true true e = refl
flag_same false false e = refl
flag_same true false e = absurd cc
flag_same false true e = absurd cc

pub same_flag-refl : (a : Bool) → same_flag a a ≡ true
same_flag-refl true = refl
same_flag-refl false = refl

pub clock_same : (a b : Clock) → same_clock a b ≡ true → a ≡ b
clock_same Ntp Ntp e = refl
clock_same Ptp Ptp e = refl
clock_same Ntp Ptp e = absurd cc
clock_same Ptp Ntp e = absurd cc

pub same_clock-refl : (a : Clock) → same_clock a a ≡ true
same_clock-refl Ntp = refl
same_clock-refl Ptp = refl

pub block_same : (a b : Option (List ℕ)) → same_block a b ≡ true → a ≡ b
block_same None None e = refl
block_same (Some a) (Some b) e = ap (λ (l : List ℕ). Some l) (octets_same a b e)
block_same None (Some b) e = absurd cc
block_same (Some a) None e = absurd cc

pub same_block-refl : (a : Option (List ℕ)) → same_block a a ≡ true
same_block-refl None = refl
same_block-refl (Some a) = same_octets-refl a

pub config_same : (a b : ConfigParts) → same_config a b ≡ true → a ≡ b
unfolding same_config
config_same a b e =
    let p = both_true ((same_flag a.stateful b.stateful && same_clock a.clock b.clock && eqb a.offset b.offset && same_flag a.synced b.synced) && (eqb a.scale b.scale && eqb a.multiplier b.multiplier)) (same_octets a.info b.info && eqb a.tlvs b.tlvs && same_block a.key b.key) e in
    let front = both_true (same_flag a.stateful b.stateful && same_clock a.clock b.clock && eqb a.offset b.offset && same_flag a.synced b.synced) (eqb a.scale b.scale && eqb a.multiplier b.multiplier) p.0 in
    let f = both_true (same_flag a.stateful b.stateful && same_clock a.clock b.clock && eqb a.offset b.offset) (same_flag a.synced b.synced) front.0 in
    let g = both_true (same_flag a.stateful b.stateful && same_clock a.clock b.clock) (eqb a.offset b.offset) f.0 in
    let h = both_true (same_flag a.stateful b.stateful) (same_clock a.clock b.clock) g.0 in
    let m = both_true (eqb a.scale b.scale) (eqb a.multiplier b.multiplier) front.1 in
    let i = both_true (same_octets a.info b.info && eqb a.tlvs b.tlvs) (same_block a.key b.key) p.1 in
    let j = both_true (same_octets a.info b.info) (eqb a.tlvs b.tlvs) i.0 in
    let stateful : a.stateful ≡ b.stateful = flag_same a.stateful b.stateful h.0 in
    let clock : a.clock ≡ b.clock = clock_same a.clock b.clock h.1 in
    let offset : a.offset ≡ b.offset = eqb-true a.offset b.offset g.1 in
    let synced : a.synced ≡ b.synced = flag_same a.synced b.synced f.1 in
    let scale : a.scale ≡ b.scale = eqb-true a.scale b.scale m.0 in
    let multiplier : a.multiplier ≡ b.multiplier = eqb-true a.multiplier b.multiplier m.1 in
    let info : a.info ≡ b.info = octets_same a.info b.info j.0 in
    let tlvs : a.tlvs ≡ b.tlvs = eqb-true a.tlvs b.tlvs j.1 in
    let key : a.key ≡ b.key = block_same a.key b.key i.1 in
    ap (λ (x : Bool). let c : ConfigParts = record { stateful = x; clock = a.clock; offset = a.offset; synced = a.synced; scale = a.scale; multiplier = a.multiplier; info = a.info; tlvs = a.tlvs; key = a.key } in c) stateful
    ∙ ap (λ (x : Clock). let c : ConfigParts = record { stateful = b.stateful; clock = x; offset = a.offset; synced = a.synced; scale = a.scale; multiplier = a.multiplier; info = a.info; tlvs = a.tlvs; key = a.key } in c) clock
    ∙ ap (λ (x : ℕ). let c : ConfigParts = record { stateful = b.stateful; clock = b.clock; offset = x; synced = a.synced; scale = a.scale; multiplier = a.multiplier; info = a.info; tlvs = a.tlvs; key = a.key } in c) offset
    ∙ ap (λ (x : Bool). let c : ConfigParts = record { stateful = b.stateful; clock = b.clock; offset = b.offset; synced = x; scale = a.scale; multiplier = a.multiplier; info = a.info; tlvs = a.tlvs; key = a.key } in c) synced
    ∙ ap (λ (x : ℕ). let c : ConfigParts = record { stateful = b.stateful; clock = b.clock; offset = b.offset; synced = b.synced; scale = x; multiplier = a.multiplier; info = a.info; tlvs = a.tlvs; key = a.key } in c) scale
    ∙ ap (λ (x : ℕ). let c : ConfigParts = record { stateful = b.stateful; clock = b.clock; offset = b.offset; synced = b.synced; scale = b.scale; multiplier = x; info = a.info; tlvs = a.tlvs; key = a.key } in c) multiplier
    ∙ ap (λ (x : List ℕ). let c : ConfigParts = record { stateful = b.stateful; clock = b.clock; offset = b.offset; synced = b.synced; scale = b.scale; multiplier = b.multiplier; info = x; tlvs = a.tlvs; key = a.key } in c) info
    ∙ ap (λ (x : ℕ). let c : ConfigParts = record { stateful = b.stateful; clock = b.clock; offset = b.offset; synced = b.synced; scale = b.scale; multiplier = b.multiplier; info = b.info; tlvs = x; key = a.key } in c) tlvs
    ∙ ap (λ (x : Option (List ℕ)). let c : ConfigParts = record { stateful = b.stateful; clock = b.clock; offset = b.offset; synced = b.synced; scale = b.scale; multiplier = b.multiplier; info = b.info; tlvs = b.tlvs; key = x } in c) key

pub same_config-refl : (a : ConfigParts) → same_config a a ≡ true
unfolding same_config
same_config-refl a = rw (same_flag-refl a.stateful, same_clock-refl a.clock, eqb-same a.offset, same_flag-refl a.synced, eqb-same a.scale, eqb-same a.multiplier, same_octets-refl a.info, eqb-same a.tlvs, same_block-refl a.key) refl
