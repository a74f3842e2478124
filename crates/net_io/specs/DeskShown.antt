-- What a desk shows of itself.
use Rattle.std.specs.Prelude.{ℕ, Bool, List, Option}
use Rattle.net_io.specs.Desk.{DeskEntry}

-- S is the type of what it was made with
pub record DeskShown (S : Type 0) : Type 0 where
  -- whether it is open
  pub is_open : Bool
  -- the events that are still to come, with their octets, where this is told
  pub coming : Option (List DeskEntry)
  -- all that it gave and did, where this is told
  pub log : Option (List DeskEntry)
  -- what it was made with
  pub made : S
  -- how often it has failed
  pub faults : ℕ
