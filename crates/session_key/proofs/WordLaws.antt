-- Keys in words and back.
use Rattle.std.proofs.Common.{◌≡◌, ℕ, zero, suc, ◌+◌, ◌*◌, ◌/◌, ◌%◌, ◌^◌, ◌<◌, ◌==◌, Bool, true, false, List, [], ◌∷◌, ◌++◌, length, take, drop, get_or, replicate, refl, sym, ap, subst, ◌∙◌, arith}
use Rattle.std.specs.Int.{w64, from_be_bytes, to_be_bytes}
use Rattle.std.proofs.lemmas.List.{take_at, take-take, take-append-drop, length-append, length-take, length-drop, get_or-take}
use Rattle.std.proofs.lemmas.Nat.{be_bytes_8}
use Rattle.octet_format.specs.Octets.{IsBytes, IsArray}
use Rattle.octet_format.proofs.Obeys.{IsBytes-take, IsBytes-drop}
use Rattle.refl_types.specs.declared.types.Address.{Address}
use Rattle.refl_types.specs.declared.types.Address.TheVariants.{V4, V6}
use Rattle.refl_types.specs.declared.types.Mode.{Mode}
use Rattle.refl_types.specs.declared.types.Mode.TheVariants.{Plain, Auth, Twamp}
use Rattle.refl_types.specs.declared.types.Key.{Key}
use Rattle.refl_types.specs.declared.types.Extra.{Extra}
use Rattle.refl_types.specs.Spelling.{flag, address_octets, mode_code, FitsAddress, FitsKey, FitsSession}
use Rattle.session_key.specs.Words.{key_words, AreKeyWords, key_of_words, extra_of_words, address_of, mode_of, is_v6, ends_word}

-- ---- octets of an address

bytes_append : (a b : List ℕ) → IsBytes a → IsBytes b → IsBytes (a ++ b)
bytes_append [] b ha hb i = hb i
bytes_append (x ∷ a) b ha hb zero = ha 0
bytes_append (x ∷ a) b ha hb (suc i) = bytes_append a b (λ j. ha (suc j)) hb i

zeros_are_bytes : (n : ℕ) → IsBytes (replicate n 0)
zeros_are_bytes zero i = omega arith
zeros_are_bytes (suc n) zero = omega arith
zeros_are_bytes (suc n) (suc i) = zeros_are_bytes n i

octets_are : (a : Address) → FitsAddress a → IsArray 16 (address_octets a)
octets_are (V4 a) f = (omega (arith, length-append a (replicate 12 0), f.0), bytes_append a (replicate 12 0) f.1 (zeros_are_bytes 12))
octets_are (V6 a) f = f

first_back : (o : List ℕ) → IsArray 16 o → to_be_bytes w64 (from_be_bytes w64 (take 8 o)) ≡ take 8 o
first_back o f = be_bytes_8 (take 8 o) _ (omega (arith, length-take 8 o, f.0)) (IsBytes-take 8 o f.1) refl

second_back : (o : List ℕ) → IsArray 16 o → to_be_bytes w64 (from_be_bytes w64 (drop 8 o)) ≡ drop 8 o
second_back o f = be_bytes_8 (drop 8 o) _ (omega (arith, length-drop 8 o, f.0)) (IsBytes-drop 8 o f.1) refl

address_back : (a : Address) → FitsAddress a → address_of (from_be_bytes w64 (take 8 (address_octets a))) (from_be_bytes w64 (drop 8 (address_octets a))) (is_v6 a) ≡ a
address_back (V4 a) f =
    let o = a ++ replicate 12 0 in
    ap (λ (l : List ℕ). V4 l) (ap (take 4) (first_back o (octets_are (V4 a) f)) ∙ (take-take 4 8 o (omega arith) ∙ take_at a (replicate 12 0) 4 f.0))
address_back (V6 a) f =
    ap (λ (l : List ℕ). V6 l) ((λ i. first_back a f i ++ second_back a f i) ∙ take-append-drop 8 a)

-- ---- the numbers of the third word

code_range : (m : Mode) → mode_code m < 3
code_range Plain = omega arith
code_range Auth = omega arith
code_range Twamp = omega arith

mode_back : (m : Mode) → mode_of (mode_code m) ≡ m
mode_back Plain = refl
mode_back Auth = refl
mode_back Twamp = refl

flag_range : (b : Bool) → flag b < 2
flag_range true = omega arith
flag_range false = omega arith

flag_back : (b : Bool) → (flag b == 1) ≡ b
flag_back true = refl
flag_back false = refl

abbrev tail_word : Key → ℕ
tail_word k = ends_word k.peer.port k.ssid k.local k.mode (is_v6 k.peer.address)

record TailFields (k : Key) : Type 0 where
  pub family : tail_word k % 2 ≡ flag (is_v6 k.peer.address)
  pub mode : tail_word k / 2 % 2 ^ 15 ≡ mode_code k.mode
  pub local : tail_word k / 2 ^ 16 % 2 ^ 16 ≡ k.local
  pub ssid : tail_word k / 2 ^ 32 % 2 ^ 16 ≡ k.ssid
  pub port : tail_word k / 2 ^ 48 ≡ k.peer.port
  pub small : tail_word k < 2 ^ 64

tail_of : (port ssid local mode family : ℕ) → port < 2 ^ 16 → ssid < 2 ^ 16 → local < 2 ^ 16 → mode < 3 → family < 2
    → let n = port * 2 ^ 48 + ssid * 2 ^ 32 + local * 2 ^ 16 + mode * 2 + family in
    (n % 2 ≡ family) × (n / 2 % 2 ^ 15 ≡ mode) × (n / 2 ^ 16 % 2 ^ 16 ≡ local) × (n / 2 ^ 32 % 2 ^ 16 ≡ ssid) × (n / 2 ^ 48 ≡ port) × (n < 2 ^ 64)
tail_of port ssid local mode family a b c d e = (omega arith, omega arith, omega arith, omega arith, omega arith, omega arith)

tail_fields : (k : Key) → FitsKey k → TailFields k
tail_fields k f =
    let t = tail_of k.peer.port k.ssid k.local (mode_code k.mode) (flag (is_v6 k.peer.address)) f.peer.port f.ssid f.local (code_range k.mode) (flag_range (is_v6 k.peer.address)) in
    record { family = t.0; mode = t.1; local = t.2; ssid = t.3; port = t.4; small = t.5 }

-- ---- and back

pub key_back : (k : Key) (x : Extra) → FitsSession k x → key_of_words (key_words k x) ≡ k
unfolding key_words key_of_words
key_back k x f =
    let t = tail_fields k f.key in
    let o = address_octets k.peer.address in
    let family : (tail_word k % 2 == 1) ≡ is_v6 k.peer.address = ap (λ (n : ℕ). n == 1) t.family ∙ flag_back (is_v6 k.peer.address) in
    let address : address_of (from_be_bytes w64 (take 8 o)) (from_be_bytes w64 (drop 8 o)) (tail_word k % 2 == 1) ≡ k.peer.address =
    ap (address_of (from_be_bytes w64 (take 8 o)) (from_be_bytes w64 (drop 8 o))) family ∙ address_back k.peer.address f.key.peer.address in
    let mode : mode_of (tail_word k / 2 % 2 ^ 15) ≡ k.mode = ap mode_of t.mode ∙ mode_back k.mode in
    λ i. record { local = t.local i; peer = record { address = address i; port = t.port i }; mode = mode i; ssid = t.ssid i }

extra_of : (reflect agreed : ℕ) → agreed < 2 → ((reflect * 2 + agreed) / 2 ≡ reflect) × ((reflect * 2 + agreed) % 2 ≡ agreed)
extra_of reflect agreed h = (omega arith, omega arith)

pub extra_back : (k : Key) (x : Extra) → extra_of_words (key_words k x) ≡ x
unfolding key_words extra_of_words
extra_back k x =
    let t = extra_of x.reflect (flag x.symmetrical) (flag_range x.symmetrical) in
    let symmetrical = ap (λ (n : ℕ). n == 1) t.1 ∙ flag_back x.symmetrical in
    λ i. record { symmetrical = symmetrical i; reflect = t.0 i }

pub are_key_words : (k : Key) (x : Extra) → FitsSession k x → AreKeyWords (key_words k x)
unfolding AreKeyWords
are_key_words k x f = (k, x, f, refl)

pub words_back : (words : List ℕ) → AreKeyWords words → key_words (key_of_words words) (extra_of_words words) ≡ words
unfolding AreKeyWords
words_back words a =
    let key : key_of_words words ≡ a.0 = ap key_of_words a.3 ∙ key_back a.0 a.1 a.2 in
    let extra : extra_of_words words ≡ a.1 = ap extra_of_words a.3 ∙ extra_back a.0 a.1 in
    (λ i. key_words (key i) (extra i)) ∙ sym a.3

-- the words of a session's key are those of one that fits
pub key_words_fit : (words : List ℕ) → AreKeyWords words → FitsSession (key_of_words words) (extra_of_words words)
unfolding AreKeyWords
key_words_fit words a =
    let key : key_of_words words ≡ a.0 = ap key_of_words a.3 ∙ key_back a.0 a.1 a.2 in
    let extra : extra_of_words words ≡ a.1 = ap extra_of_words a.3 ∙ extra_back a.0 a.1 in
    subst (λ (k : Key). FitsSession k (extra_of_words words)) (sym key) (subst (λ (x : Extra). FitsSession a.0 x) (sym extra) a.2)

-- equal words are of equal keys and extras
pub key_words_one : (j k : Key) (x y : Extra) → FitsSession j x → FitsSession k y → key_words j x ≡ key_words k y → (j ≡ k) × (x ≡ y)
key_words_one j k x y f g e =
    (sym (key_back j x f) ∙ (ap key_of_words e ∙ key_back k y g), sym (extra_back j x) ∙ (ap extra_of_words e ∙ extra_back k y))

word_range : (bytes : List ℕ) → IsBytes bytes → from_be_bytes w64 bytes < 2 ^ 64
word_range bytes h = omega (arith, h 0, h 1, h 2, h 3, h 4, h 5, h 6, h 7)

-- each of four words is below 2 ^ 64
pub record InRange (words : List ℕ) : Type 0 where
  pub len : length words ≡ 4
  pub small : (i : ℕ) → get_or words i 0 < 2 ^ 64

pub key_words_range : (k : Key) (x : Extra) → FitsSession k x → InRange (key_words k x)
unfolding key_words
key_words_range k x f =
    let o = octets_are k.peer.address f.key.peer.address in
    let t = tail_fields k f.key in
    let first = word_range (take 8 (address_octets k.peer.address)) (IsBytes-take 8 (address_octets k.peer.address) o.1) in
    let second = word_range (drop 8 (address_octets k.peer.address)) (IsBytes-drop 8 (address_octets k.peer.address) o.1) in
    let fourth : x.reflect * 2 + flag x.symmetrical < 2 ^ 64 = omega (arith, f.reflect, flag_range x.symmetrical) in
    record { len = refl; small = four _ _ _ _ first second t.small fourth } where
      four : (a b c d : ℕ) → a < 2 ^ 64 → b < 2 ^ 64 → c < 2 ^ 64 → d < 2 ^ 64 → (i : ℕ) → get_or (a ∷ b ∷ c ∷ d ∷ []) i 0 < 2 ^ 64
      four a b c d ha hb hc hd zero = ha
      four a b c d ha hb hc hd (suc zero) = hb
      four a b c d ha hb hc hd (suc (suc zero)) = hc
      four a b c d ha hb hc hd (suc (suc (suc zero))) = hd
      four a b c d ha hb hc hd (suc (suc (suc (suc i)))) = omega arith

pub are_key_words_range : (words : List ℕ) → AreKeyWords words → InRange words
unfolding AreKeyWords
are_key_words_range words a = subst InRange (sym a.3) (key_words_range a.0 a.1 a.2)

-- what a reader of eight octets gives
pub first_word : (o : List ℕ) → from_be_bytes w64 (take 8 o) ≡ from_be_bytes w64 o
first_word o = rw (get_or-take 8 o 0 0 (omega arith), get_or-take 8 o 1 0 (omega arith), get_or-take 8 o 2 0 (omega arith), get_or-take 8 o 3 0 (omega arith), get_or-take 8 o 4 0 (omega arith), get_or-take 8 o 5 0 (omega arith), get_or-take 8 o 6 0 (omega arith), get_or-take 8 o 7 0 (omega arith)) refl
