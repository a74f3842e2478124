-- A configuration in twelve words of 64 bits (this project's own): flags, offset, scale and multiplier; the value of a
-- Timestamp Information TLV; the TLV types; 0; and the HMAC key's block in eight words.
use Rattle.std.specs.Prelude.{◌≡◌, ℕ, zero, suc, ◌/◌, ◌%◌, ◌^◌, ◌==◌, Bool, true, false, List, [], ◌∷◌, take, drop, get_or, Option, Some, None}
use Rattle.std.specs.List.{flat_map}
use Rattle.std.specs.Int.{w32, w64, from_be_bytes, to_be_bytes}
use Rattle.refl_types.specs.declared.config.Clock.{Clock}
use Rattle.refl_types.specs.declared.config.Clock.TheVariants.{Ntp, Ptp}
use Rattle.refl_types.specs.declared.config.ConfigParts.{ConfigParts}
use Rattle.refl_types.specs.Spelling.{config_flags, block_octets, FitsConfig}

-- octets in n words of eight
unfoldable pub words_of : ℕ → List ℕ → List ℕ
words_of zero octets = []
words_of (suc n) octets = from_be_bytes w64 (take 8 octets) ∷ words_of n (drop 8 octets)

unfoldable pub row_words : ConfigParts → List ℕ
row_words c =
    from_be_bytes w32 (config_flags c ∷ c.offset ∷ c.scale ∷ c.multiplier ∷ [])
    ∷ from_be_bytes w32 c.info
    ∷ c.tlvs
    ∷ 0
    ∷ words_of 8 (block_octets c.key)

-- twelve words that are those of a configuration
unfoldable pub AreConfigWords : List ℕ → Type 0
AreConfigWords words = (c : ConfigParts) × FitsConfig c × (words ≡ row_words c)

-- ---- and back

abbrev pub octets_of : List ℕ → List ℕ
octets_of words = flat_map (to_be_bytes w64) words

abbrev pub clock_of : Bool → Clock
clock_of true = Ptp
clock_of false = Ntp

abbrev pub key_of : Bool → List ℕ → Option (List ℕ)
key_of true block = Some (octets_of block)
key_of false block = None

-- the parts of the first word, the second, the third and the key's
abbrev pub config_of : ℕ → ℕ → ℕ → List ℕ → ConfigParts
config_of head info tlvs block = record {
  stateful = head / 2 ^ 24 % 2 == 1;
  clock = clock_of (head / 2 ^ 25 % 2 == 1);
  offset = head / 2 ^ 16 % 2 ^ 8;
  synced = head / 2 ^ 27 % 2 == 1;
  scale = head / 2 ^ 8 % 2 ^ 8;
  multiplier = head % 2 ^ 8;
  info = to_be_bytes w32 info;
  tlvs = tlvs;
  key = key_of (head / 2 ^ 26 % 2 == 1) block;
}

unfoldable pub config_of_words : List ℕ → ConfigParts
config_of_words words = config_of (get_or words 0 0) (get_or words 1 0) (get_or words 2 0) (drop 4 words)
