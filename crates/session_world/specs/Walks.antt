-- Walks go round the table: how far each slot is from where a walk starts (this project's own).
use Rattle.std.specs.Prelude.{◌≡◌, ℕ, suc, ◌<◌, true}
use Rattle.refl_types.specs.declared.types.Endpoint.{Endpoint}
use Rattle.session_key.specs.Matching.{matches}
use Rattle.session_world.specs.Keys.{Query, Key, start_of, next_slot, distance}

-- The start is a slot of the table, and one for all that match. The distances of the slots from there are 0, 1, 2 and so on,
-- each that of one slot, and the slot after one is further by 1
pub record WalksGoRound : Type 0 where
  pub start_inside : (slots local : ℕ) (peer : Endpoint) → 0 < slots → start_of slots local peer < slots
  pub start_matched : (slots : ℕ) (q : Query) (k : Key) → matches q k ≡ true → start_of slots q.local q.peer ≡ start_of slots k.local k.peer
  pub low : (slots from i : ℕ) → from < slots → i < slots → distance slots from i < slots
  pub same : (slots from i j : ℕ) → from < slots → i < slots → j < slots → distance slots from i ≡ distance slots from j → i ≡ j
  pub at_start : (slots from : ℕ) → distance slots from from ≡ 0
  pub next_inside : (slots i : ℕ) → i < slots → next_slot slots i < slots
  pub further : (slots from i : ℕ) → from < slots → i < slots → ¬ (suc (distance slots from i) ≡ slots) → distance slots from (next_slot slots i) ≡ suc (distance slots from i)
