-- Sessions that exclude each other are never open at once. This is this project's own.
use Rattle.std.specs.Prelude.{◌≡◌, false, List, [], ◌∷◌}
use Rattle.std.specs.List.{list_any}
use Rattle.session_key.specs.Matching.{excludes}
use Rattle.replay_table.specs.Table.{Entry}

-- no session excludes one that was opened after it
abbrev pub AreApart : List Entry → Type 0
AreApart [] = Unit {0}
AreApart (e ∷ es) = (list_any (λ f. excludes e.key f.key) es ≡ false) × AreApart es
