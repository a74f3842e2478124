-- One reply more (this project's own).
use Rattle.std.specs.Prelude.{ℕ, ℤ, Option, Some, None}
use Rattle.std.specs.Int.{int_min, int_max}
use Rattle.sender_core.specs.declared.types.Range.{Range}
use Rattle.sender_core.specs.Kept.{KeptNumbers}
use Rattle.sender_core.specs.Counting.{difference_32}

abbrev pub with_delay : Option Range → ℤ → Option Range
with_delay None d = Some (record { least = d; greatest = d })
with_delay (Some r) d = Some (record { least = int_min r.least d; greatest = int_max r.greatest d })

abbrev pub with_number : Option KeptNumbers → ℕ → Option KeptNumbers
with_number None n = Some (record { first = n; least = difference_32 n n; greatest = difference_32 n n })
with_number (Some s) n = Some (record {
  first = s.first;
  least = int_min s.least (difference_32 n s.first);
  greatest = int_max s.greatest (difference_32 n s.first);
})
