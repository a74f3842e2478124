-- The one-thread table of sessions and its legal histories (this project's own; sessions, and the sequence numbers that a
-- stateful reflector counts for each, are those of RFC 8762, section 4). The latest event comes first. C is what names a configuration.
use Rattle.std.specs.Prelude.{◌≡◌, ℕ, suc, ◌<◌, ◌%◌, ◌^◌, Bool, true, false, if◌then◌else◌, List, [], ◌∷◌, Option, Some, None}
use Rattle.refl_types.specs.Same.{same_key}
use Rattle.refl_types.specs.Keys.{is_sound}
use Rattle.session_key.specs.Matching.{matches, excludes}
use Rattle.session_world.specs.Keys.{Query, Key, Extra, ConfigParts, is_auth, has_key}
use Rattle.session_world.specs.Answers.{Answer, opened, configured, counted, closed, expired, seen, drew, missed, late}

-- what the table keeps for a key that is bound. The count has no bound
pub record Session (C : Type 0) : Type 0 where
  pub extra : Extra
  pub config : C
  pub count : ℕ

abbrev pub SessionMap : Type 0 → Type 0
SessionMap C = Key → Option (Session C)

-- an answer, and the actor that gave it: 0 is the desk
pub record Event (C : Type 0) : Type 0 where
  pub by : ℕ
  pub answer : Answer C

abbrev pub reconfigured : {C : Type 0} → C → Option (Session C) → Option (Session C)
reconfigured c None = None
reconfigured c (Some b) = Some (record b { config = c })

abbrev pub drawn : {C : Type 0} → Option (Session C) → Option (Session C)
drawn None = None
drawn (Some b) = Some (record b { count = suc b.count })

-- what an event makes of the entry of the key k. Everything that it doesn't name stays
abbrev pub entry_after : {C : Type 0} → Answer C → Key → Option (Session C) → Option (Session C)
entry_after (opened j x c) k o = if same_key j k then Some (record { extra = x; config = c; count = 0 }) else o
entry_after (configured j c) k o = if same_key j k then reconfigured c o else o
entry_after (counted j n c) k o = o
entry_after (closed j n) k o = if same_key j k then None else o
entry_after (expired j m c) k o = if same_key j k then None else o
entry_after (seen q j x c) k o = o
entry_after (drew j n c) k o = if same_key j k then drawn o else o
entry_after (missed q) k o = o
entry_after (late q) k o = o

-- the table after a history. It begins empty
abbrev pub map_after : {C : Type 0} → List (Event C) → SessionMap C
map_after [] k = None
map_after (e ∷ h) k = entry_after e.answer k (map_after h k)

-- the key is bound to a session for which P holds
abbrev pub Has : {C : Type 0} → SessionMap C → Key → (Session C → Type 0) → Type 0
Has {C} t k P = (b : Session C) × (t k ≡ Some b) × P b

abbrev pub NoMatch : {C : Type 0} → SessionMap C → Query → Type 0
NoMatch {C} t q = (k : Key) (b : Session C) → t k ≡ Some b → matches q k ≡ false

-- where an event is legal. `keyed` says which configurations have an HMAC key
abbrev pub IsLegalAt : {C : Type 0} → (C → Bool) → SessionMap C → Answer C → Type 0
IsLegalAt {C} keyed t (opened k x c) =
    (is_sound k x ≡ true)
    × ((j : Key) (b : Session C) → t j ≡ Some b → excludes j k ≡ false)
    × (is_auth k ≡ true → keyed c ≡ true)
IsLegalAt {C} keyed t (configured k c) = Has t k (λ b. Unit {0}) × (is_auth k ≡ true → keyed c ≡ true)
IsLegalAt {C} keyed t (counted k n c) = Has t k (λ b. (b.count ≡ n) × (b.config ≡ c))
IsLegalAt {C} keyed t (closed k n) = Has t k (λ b. b.count ≡ n)
IsLegalAt {C} keyed t (expired k m c) = Has t k (λ b. (b.count % 2 ^ 32 ≡ m) × (b.config ≡ c))
IsLegalAt {C} keyed t (seen q k x c) = Has t k (λ b. (b.extra ≡ x) × (b.config ≡ c)) × (matches q k ≡ true)
IsLegalAt {C} keyed t (drew k n c) = Has t k (λ b. (b.count ≡ n) × (b.config ≡ c))
IsLegalAt {C} keyed t (missed q) = NoMatch t q
IsLegalAt {C} keyed t (late q) = NoMatch t q

-- who may give which answer: sights, draws and misses are the workers', all others the desk's
abbrev pub IsBy : {C : Type 0} → ℕ → Answer C → Type 0
IsBy w (opened k x c) = w ≡ 0
IsBy w (configured k c) = w ≡ 0
IsBy w (counted k n c) = w ≡ 0
IsBy w (closed k n) = w ≡ 0
IsBy w (expired k m c) = w ≡ 0
IsBy w (seen q k x c) = 0 < w
IsBy w (drew k n c) = 0 < w
IsBy w (missed q) = 0 < w
IsBy w (late q) = 0 < w

-- each event is legal in the table that the events before it leave
abbrev pub IsLegal : {C : Type 0} → (C → Bool) → List (Event C) → Type 0
IsLegal keyed [] = Unit {0}
IsLegal keyed (e ∷ h) = IsLegal keyed h × IsLegalAt keyed (map_after h) e.answer × IsBy e.by e.answer

-- how many draws of k there are since its session was opened
abbrev pub draws_after : {C : Type 0} → Answer C → Key → ℕ → ℕ
draws_after (opened j x c) k n = if same_key j k then 0 else n
draws_after (configured j c) k n = n
draws_after (counted j m c) k n = n
draws_after (closed j m) k n = if same_key j k then 0 else n
draws_after (expired j m c) k n = if same_key j k then 0 else n
draws_after (seen q j x c) k n = n
draws_after (drew j m c) k n = if same_key j k then suc n else n
draws_after (missed q) k n = n
draws_after (late q) k n = n

abbrev pub draws_in_session : {C : Type 0} → List (Event C) → Key → ℕ
draws_in_session [] k = 0
draws_in_session (e ∷ h) k = draws_after e.answer k (draws_in_session h k)

-- In a legal history a draw of k stands where k is bound, and its number is how many draws of k went before it in its session.
-- So the draws of a session are 0, 1, 2 and so on
abbrev pub DrawsCount : Type 0
DrawsCount = (w : ℕ) (k : Key) (n : ℕ) (c : ConfigParts) (h : List (Event ConfigParts)) → IsLegal has_key (record { by = w; answer = drew k n c } ∷ h)
    → Has (map_after h) k (λ b. (b.config ≡ c) × (n ≡ draws_in_session h k))

-- at no point of a legal history does a query match two bound keys
abbrev pub OneMatch : Type 0
OneMatch = (h : List (Event ConfigParts)) → IsLegal has_key h → (q : Query) (j k : Key) (b d : Session ConfigParts)
    → map_after h j ≡ Some b → map_after h k ≡ Some d → matches q j ≡ true → matches q k ≡ true → j ≡ k
