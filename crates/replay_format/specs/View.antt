-- What a record of the code stands for, and what reading one says, by spellings alone.
use Rattle.std.specs.Prelude.{◌≡◌, ℕ, ◌-◌, ◌<◌, ◌≤◌, List, ◌++◌, length, take, drop, replicate}
use Rattle.refl_types.specs.declared.types.Address.TheVariants.{V4}
use Rattle.refl_types.specs.declared.types.Endpoint.{Endpoint}
use Rattle.replay_format.specs.declared.record.Record.{Record}
use Rattle.replay_format.specs.declared.record.Record.TheVariants as records
use Rattle.replay_format.specs.declared.record.Parsed.{Parsed}
use Rattle.replay_format.specs.declared.record.Parsed.TheVariants as parsed
use Rattle.replay_format.specs.Records.{Item, Opens, Sets, Closes, Arrives, Lists, datagram_of, Fits, spelling}

abbrev pub item_of : Record → Item
item_of (records.Open k x c) = Opens (record { key = k; extra = x; config = c })
item_of (records.Set k c) = Sets (record { key = k; config = c })
item_of (records.Close k) = Closes k
item_of (records.Datagram m t3 octets) = Arrives (datagram_of m t3 octets.now)
item_of (records.Locals count list) = Lists (take count list)

-- 0.0.0.0, port 0
abbrev pub no_local : Endpoint
no_local = record { address = V4 (replicate 4 0); port = 0 }

-- sixteen places, of which the first hold the list and the others nothing
pub record IsPadded (count : ℕ) (list : List Endpoint) : Type 0 where
  pub limit : count ≤ 16
  pub others : drop count list ≡ replicate (16 - count) no_local

-- what was told of a datagram says its length, and what was told of a list says its own
abbrev pub IsMeasured : Record → Type 0
IsMeasured (records.Open k x c) = Unit {0}
IsMeasured (records.Set k c) = Unit {0}
IsMeasured (records.Close k) = Unit {0}
IsMeasured (records.Datagram m t3 octets) = m.len ≡ length octets.now
IsMeasured (records.Locals count list) = IsPadded count list

-- this record stands at the front, and n octets are its spelling
pub record IsFront (octets : List ℕ) (item : Item) (n : ℕ) : Type 0 where
  pub fits : Fits item
  pub len : n ≡ length (spelling item)
  pub spelled : octets ≡ spelling item ++ drop n octets

-- these octets are a record that lacks its end
abbrev pub IsBegun : List ℕ → Type 0
IsBegun octets = (item : Item) × (rest : List ℕ) × Fits item × (0 < length rest) × (octets ++ rest ≡ spelling item)

-- whatever follows, no record stands at the front
abbrev pub IsForeign : List ℕ → Type 0
IsForeign octets = (item : Item) (rest tail : List ℕ) → Fits item → octets ++ rest ≡ spelling item ++ tail → ⊥

abbrev pub IsParsed : Parsed → List ℕ → Type 0
IsParsed (parsed.Record r n) octets = IsFront octets (item_of r) n × IsMeasured r
IsParsed parsed.More octets = IsBegun octets
IsParsed parsed.Bad octets = IsForeign octets

-- what was read is this record
abbrev pub IsRecord : Parsed → Item → Type 0
IsRecord (parsed.Record r n) item = (item_of r ≡ item) × (n ≡ length (spelling item))
IsRecord parsed.More item = ⊥
IsRecord parsed.Bad item = ⊥
