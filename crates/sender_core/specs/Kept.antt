-- What a sender keeps of its replies (this project's own).
use Rattle.std.specs.Prelude.{ℕ, ℤ, Option}
use Rattle.sender_core.specs.declared.types.Range.{Range}

-- the number of the first reply, and the least and the greatest difference of a reply's number from it
pub record KeptNumbers : Type 0 where
  pub first : ℕ
  pub least : ℤ
  pub greatest : ℤ

-- what was counted of the replies
pub record Kept : Type 0 where
  pub received : ℕ
  pub doubles : ℕ
  pub strangers : ℕ
  pub numbers : Option KeptNumbers
  pub forward : Option Range
  pub backward : Option Range
