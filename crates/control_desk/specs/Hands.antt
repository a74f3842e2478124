-- What the desk works with, lent for its whole run (this project's own).
use Rattle.std.specs.Prelude.{◌≡◌}
use Rattle.net_io.specs.Desk.{DeskEntry}
use Rattle.control_desk.specs.declared.hands.Hands.{Hands}
use Rattle.control_desk.specs.Plan.{Plan, DeskView, Follows}

-- the table is the same, and so are the book, the desk and the counts that were lent
pub record AreSame {D : Type 0} (h h' : Hands D) : Type 0 where
  pub table : h'.table.now ≡ h.table.now
  pub book : h'.book.ghost_name ≡ h.book.ghost_name
  pub desk : h'.desk.ghost_name ≡ h.desk.ghost_name
  pub counts : h'.counts.ghost_name ≡ h.counts.ghost_name

-- with these hands the plan p is followed up to q
abbrev pub Works : {S D : Type 0} {goes : D → DeskEntry → D → Type 0} → (D → DeskView S D goes) → Plan → Plan → Hands D → Hands D → Type 0
Works shown p q h h' = Follows h.table.now p q (shown h.desk.now) (shown h'.desk.now) h.book.now h'.book.now h.counts.now h'.counts.now
