-- Configurations in words and back.
use Rattle.std.proofs.Common.{◌≡◌, ℕ, zero, suc, ◌+◌, ◌*◌, ◌/◌, ◌%◌, ◌^◌, ◌<◌, ◌≤◌, ◌==◌, Bool, true, false, List, [], ◌∷◌, ◌++◌, length, take, drop, get_or, Option, Some, None, Ok, refl, sym, ap, subst, ◌∙◌, arith, eqb, ltb, replicate, ne_eqb}
use Rattle.std.proofs.lemmas.Bool.{le-ltb}
use Rattle.std.specs.Int.{w32, w64, from_be_bytes, to_be_bytes}
use Rattle.std.proofs.lemmas.List.{take-append-drop, length-take, length-drop, take_all, drop-drop}
use Rattle.std.proofs.lemmas.Nat.{be_bytes_4, be_bytes_8}
use Rattle.octet_format.specs.Octets.{IsBytes}
use Rattle.octet_format.proofs.Obeys.{IsBytes-take, IsBytes-drop}
use Rattle.refl_types.specs.declared.config.Clock.{Clock}
use Rattle.refl_types.specs.declared.config.Clock.TheVariants.{Ntp, Ptp}
use Rattle.refl_types.specs.declared.config.ConfigParts.{ConfigParts}
use Rattle.refl_types.specs.Configs.{IsConfig, config_made}
use Rattle.refl_types.specs.Spelling.{flag, is_ptp, has, config_flags, block_octets, FitsBlock, FitsConfig}
use Rattle.config_rows.specs.Words.{words_of, octets_of, row_words, AreConfigWords, clock_of, key_of, config_of_words}

-- ---- octets in words

nothing : (octets : List ℕ) → length octets ≡ 0 → [] ≡ octets
nothing [] h = refl
nothing (x ∷ octets) h = absurd (omega (arith, h))

pub octets_back : (n : ℕ) (octets : List ℕ) → length octets ≡ n * 8 → IsBytes octets → octets_of (words_of n octets) ≡ octets
unfolding words_of
octets_back zero octets len bytes = nothing octets (omega (arith, len))
octets_back (suc n) octets len bytes =
    let eight : length (take 8 octets) ≡ 8 = omega (arith, length-take 8 octets, len) in
    let rest : length (drop 8 octets) ≡ n * 8 = omega (arith, length-drop 8 octets, len) in
    let front : to_be_bytes w64 (from_be_bytes w64 (take 8 octets)) ≡ take 8 octets = be_bytes_8 (take 8 octets) _ eight (IsBytes-take 8 octets bytes) refl in
    (λ i. front i ++ octets_back n (drop 8 octets) rest (IsBytes-drop 8 octets bytes) i) ∙ take-append-drop 8 octets

-- ---- flags

flag_range : (b : Bool) → flag b < 2
flag_range true = omega arith
flag_range false = omega arith

flag_back : (b : Bool) → (flag b == 1) ≡ b
flag_back true = refl
flag_back false = refl

clock_back : (c : Clock) → clock_of (is_ptp c) ≡ c
clock_back Ntp = refl
clock_back Ptp = refl

block_back : (k : Option (List ℕ)) → FitsBlock k → key_of (has k) (words_of 8 (block_octets k)) ≡ k
block_back None f = refl
block_back (Some b) f = ap (λ (l : List ℕ). Some l) (octets_back 8 b f.0 f.1)

head_of : (s p k y offset scale multiplier head : ℕ) → s < 2 → p < 2 → k < 2 → y < 2 → offset < 256 → scale < 256 → multiplier < 256
    → head ≡ (s + 2 * p + 4 * k + 8 * y) * 2 ^ 24 + offset * 2 ^ 16 + scale * 2 ^ 8 + multiplier
    → (head / 2 ^ 24 % 2 ≡ s) × (head / 2 ^ 25 % 2 ≡ p) × (head / 2 ^ 26 % 2 ≡ k) × (head / 2 ^ 27 % 2 ≡ y) × (head / 2 ^ 16 % 2 ^ 8 ≡ offset) × (head / 2 ^ 8 % 2 ^ 8 ≡ scale) × (head % 2 ^ 8 ≡ multiplier)
head_of s p k y offset scale multiplier head hs hp hk hy ho hc hm e = (omega arith, omega arith, omega arith, omega arith, omega arith, omega arith, omega arith)

abbrev head_word : ConfigParts → ℕ
head_word c = from_be_bytes w32 (config_flags c ∷ c.offset ∷ c.scale ∷ c.multiplier ∷ [])

record HeadFields (c : ConfigParts) : Type 0 where
  stateful : head_word c / 2 ^ 24 % 2 ≡ flag c.stateful
  ptp : head_word c / 2 ^ 25 % 2 ≡ flag (is_ptp c.clock)
  keyed : head_word c / 2 ^ 26 % 2 ≡ flag (has c.key)
  synced : head_word c / 2 ^ 27 % 2 ≡ flag c.synced
  offset : head_word c / 2 ^ 16 % 2 ^ 8 ≡ c.offset
  scale : head_word c / 2 ^ 8 % 2 ^ 8 ≡ c.scale
  multiplier : head_word c % 2 ^ 8 ≡ c.multiplier

head_fields : (c : ConfigParts) → FitsConfig c → HeadFields c
head_fields c f =
    let t = head_of (flag c.stateful) (flag (is_ptp c.clock)) (flag (has c.key)) (flag c.synced) c.offset c.scale c.multiplier (head_word c) (flag_range c.stateful) (flag_range (is_ptp c.clock)) (flag_range (has c.key)) (flag_range c.synced) f.offset (omega (arith, f.is_config.scale)) f.multiplier (omega arith) in
    record { stateful = t.0; ptp = t.1; keyed = t.2; synced = t.3; offset = t.4; scale = t.5; multiplier = t.6 }

one : (n : ℕ) (b : Bool) → n ≡ flag b → (n == 1) ≡ b
one n b e = ap (λ (m : ℕ). m == 1) e ∙ flag_back b

pub config_back : (c : ConfigParts) → FitsConfig c → config_of_words (row_words c) ≡ c
unfolding row_words config_of_words
config_back c f =
    let t = head_fields c f in
    let info = be_bytes_4 c.info _ f.info.0 f.info.1 refl in
    let stateful = one _ c.stateful t.stateful in
    let clock = ap clock_of (one _ (is_ptp c.clock) t.ptp) ∙ clock_back c.clock in
    let synced = one _ c.synced t.synced in
    let key = ap (λ (b : Bool). key_of b (words_of 8 (block_octets c.key))) (one _ (has c.key) t.keyed) ∙ block_back c.key f.block in
    λ i. record { stateful = stateful i; clock = clock i; offset = t.offset i; synced = synced i; scale = t.scale i; multiplier = t.multiplier i; info = info i; tlvs = c.tlvs; key = key i }

pub are_config_words : (c : ConfigParts) → FitsConfig c → AreConfigWords (row_words c)
unfolding AreConfigWords
are_config_words c f = (c, f, refl)

config_is : (words : List ℕ) (a : (c : ConfigParts) × FitsConfig c × (words ≡ row_words c)) → config_of_words words ≡ a.0
config_is words a = ap config_of_words a.2 ∙ config_back a.0 a.1

pub words_back : (words : List ℕ) → AreConfigWords words → row_words (config_of_words words) ≡ words
unfolding AreConfigWords
words_back words a = ap row_words (config_is words a) ∙ sym a.2

pub config_words_fit : (words : List ℕ) → AreConfigWords words → FitsConfig (config_of_words words)
unfolding AreConfigWords
config_words_fit words a = subst FitsConfig (sym (config_is words a)) a.1

-- equal words are of equal configurations
pub config_words_one : (c d : ConfigParts) → FitsConfig c → FitsConfig d → row_words c ≡ row_words d → c ≡ d
config_words_one c d f g e = sym (config_back c f) ∙ (ap config_of_words e ∙ config_back d g)

word_range : (bytes : List ℕ) → IsBytes bytes → from_be_bytes w64 bytes < 2 ^ 64
word_range bytes h = omega (arith, h 0, h 1, h 2, h 3, h 4, h 5, h 6, h 7)

zeros_are_bytes : (n : ℕ) → IsBytes (replicate n 0)
zeros_are_bytes zero i = omega arith
zeros_are_bytes (suc n) zero = omega arith
zeros_are_bytes (suc n) (suc i) = zeros_are_bytes n i

-- so many words below 2 ^ 64
pub record InRange (n : ℕ) (words : List ℕ) : Type 0 where
  pub len : length words ≡ n
  pub small : (i : ℕ) → get_or words i 0 < 2 ^ 64

in_range_more : (n word : ℕ) (words : List ℕ) → word < 2 ^ 64 → InRange n words → InRange (suc n) (word ∷ words)
in_range_more n word words h r = record { len = omega (arith, r.len); small = small } where
  small : (i : ℕ) → get_or (word ∷ words) i 0 < 2 ^ 64
  small zero = h
  small (suc i) = r.small i

words_of_range : (n : ℕ) (octets : List ℕ) → IsBytes octets → InRange n (words_of n octets)
unfolding words_of
words_of_range zero octets h = record { len = refl; small = λ i. omega arith }
words_of_range (suc n) octets h = in_range_more n (from_be_bytes w64 (take 8 octets)) (words_of n (drop 8 octets)) (word_range (take 8 octets) (IsBytes-take 8 octets h)) (words_of_range n (drop 8 octets) (IsBytes-drop 8 octets h))

block_bytes : (k : Option (List ℕ)) → FitsBlock k → IsBytes (block_octets k)
block_bytes None f = λ i. zeros_are_bytes 64 i
block_bytes (Some b) f = f.1

pub row_words_range : (c : ConfigParts) → FitsConfig c → InRange 12 (row_words c)
unfolding row_words
row_words_range c f =
    let head : head_word c < 2 ^ 64 = omega (arith, flag_range c.stateful, flag_range (is_ptp c.clock), flag_range (has c.key), flag_range c.synced, f.offset, f.multiplier, f.is_config.scale) in
    let info : from_be_bytes w32 c.info < 2 ^ 64 = omega (arith, f.info.1 0, f.info.1 1, f.info.1 2, f.info.1 3) in
    in_range_more 11 _ _ head (in_range_more 10 _ _ info (in_range_more 9 _ _ (omega (arith, f.tlvs)) (in_range_more 8 0 _ (omega arith) (words_of_range 8 (block_octets c.key) (block_bytes c.key f.block)))))

-- what the second and the third word of a configuration are
pub record Numbers (words : List ℕ) : Type 0 where
  pub info : get_or words 1 0 < 2 ^ 32
  pub tlvs : get_or words 2 0 < 2 ^ 32
  pub len : length words ≡ 12

numbers_of : (c : ConfigParts) → FitsConfig c → Numbers (row_words c)
unfolding row_words words_of
numbers_of c f =
    record { info = omega (arith, f.info.1 0, f.info.1 1, f.info.1 2, f.info.1 3); tlvs = f.tlvs; len = refl }

pub numbers : (words : List ℕ) → AreConfigWords words → Numbers words
unfolding AreConfigWords
numbers words a = subst Numbers (sym a.2) (numbers_of a.0 a.1)

leb_ltb : (m n : ℕ) → m ≤ n → ltb n m ≡ false
leb_ltb m n h = le-ltb n m h

-- a configuration is made of parts that are one
pub made : (p : ConfigParts) → IsConfig p → config_made p ≡ Ok p
made p f =
    let zero_not : eqb p.multiplier 0 ≡ false = ne_eqb p.multiplier 0 (λ e. omega (arith, e, f.multiplier)) in
    rw (zero_not, leb_ltb p.scale 63 f.scale, f.tlvs) refl

pub made_back : (p : ConfigParts) (words : List ℕ) → AreConfigWords words → p ≡ config_of_words words → config_made p ≡ Ok (config_of_words words)
made_back p words a e = ap config_made e ∙ made (config_of_words words) (config_words_fit words a).is_config

pub parts_are : (words info : List ℕ) (clock : Clock) (key : Option (List ℕ)) → AreConfigWords words
    → clock ≡ clock_of (get_or words 0 0 / 2 ^ 25 % 2 == 1)
    → info ≡ to_be_bytes w32 (get_or words 1 0)
    → key ≡ key_of (get_or words 0 0 / 2 ^ 26 % 2 == 1) (take 8 (drop 4 words))
    → let p : ConfigParts = record {
      stateful = get_or words 0 0 / 2 ^ 24 % 2 == 1;
      clock = clock;
      offset = get_or words 0 0 / 2 ^ 16 % 2 ^ 8;
      synced = get_or words 0 0 / 2 ^ 27 % 2 == 1;
      scale = get_or words 0 0 / 2 ^ 8 % 2 ^ 8;
      multiplier = get_or words 0 0 % 2 ^ 8;
      info = info;
      tlvs = get_or words 2 0;
      key = key;
    } in p ≡ config_of_words words
unfolding config_of_words
parts_are words info clock key a clock_is info_is key_is =
    let n = get_or words 0 0 in
    let rest : take 8 (drop 4 words) ≡ drop 4 words = take_all 8 (drop 4 words) (omega (arith, length-drop 4 words, (numbers words a).len)) in
    let block = key_is ∙ ap (key_of (n / 2 ^ 26 % 2 == 1)) rest in
    λ i. record { stateful = n / 2 ^ 24 % 2 == 1; clock = clock_is i; offset = n / 2 ^ 16 % 2 ^ 8; synced = n / 2 ^ 27 % 2 == 1; scale = n / 2 ^ 8 % 2 ^ 8; multiplier = n % 2 ^ 8; info = info_is i; tlvs = get_or words 2 0; key = block i }

-- eight words, by their places
pub eight : (octets : List ℕ) (a b c d e f g h : ℕ)
    → a ≡ from_be_bytes w64 (take 8 (drop 0 octets)) → b ≡ from_be_bytes w64 (take 8 (drop 8 octets))
    → c ≡ from_be_bytes w64 (take 8 (drop 16 octets)) → d ≡ from_be_bytes w64 (take 8 (drop 24 octets))
    → e ≡ from_be_bytes w64 (take 8 (drop 32 octets)) → f ≡ from_be_bytes w64 (take 8 (drop 40 octets))
    → g ≡ from_be_bytes w64 (take 8 (drop 48 octets)) → h ≡ from_be_bytes w64 (take 8 (drop 56 octets))
    → (a ∷ b ∷ c ∷ d ∷ e ∷ f ∷ g ∷ h ∷ []) ≡ words_of 8 octets
unfolding words_of
eight octets a b c d e f g h pa pb pc pd pe pf pg ph =
    let word : List ℕ → ℕ = λ o. from_be_bytes w64 (take 8 o) in
    let d2 = twice 8 in
    let d3 = twice 16 ∙ ap (drop 8) d2 in
    let d4 = twice 24 ∙ ap (drop 8) d3 in
    let d5 = twice 32 ∙ ap (drop 8) d4 in
    let d6 = twice 40 ∙ ap (drop 8) d5 in
    let d7 = twice 48 ∙ ap (drop 8) d6 in
    λ i. pa i ∷ pb i ∷ (pc ∙ ap word d2) i ∷ (pd ∙ ap word d3) i ∷ (pe ∙ ap word d4) i ∷ (pf ∙ ap word d5) i ∷ (pg ∙ ap word d6) i ∷ (ph ∙ ap word d7) i ∷ [] where
      twice : (n : ℕ) → drop (n + 8) octets ≡ drop 8 (drop n octets)
      twice n = sym (drop-drop 8 n octets)
