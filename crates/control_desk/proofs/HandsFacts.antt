-- Hands that stay the same.
use Rattle.std.proofs.Common.{◌≡◌, refl, subst, ◌∙◌}
use Rattle.net_io.specs.Desk.{DeskEntry}
use Rattle.session_rule.specs.declared.seats.Table.{Table}
use Rattle.session_desk.specs.Book.{Book}
use Rattle.control_desk.specs.declared.counts.Counts.{Counts}
use Rattle.control_desk.specs.Plan.{Plan, DeskView, Follows}
use Rattle.control_desk.specs.declared.hands.Hands.{Hands}
use Rattle.control_desk.specs.Hands.{AreSame}

pub are_same : {D : Type 0} (h : Hands D) → AreSame h h
are_same h = record { table = refl; book = refl; desk = refl; counts = refl }

pub are_same_then : {D : Type 0} {h h' h'' : Hands D} → AreSame h h' → AreSame h' h'' → AreSame h h''
are_same_then a b = record { table = b.table ∙ a.table; book = b.book ∙ a.book; desk = b.desk ∙ a.desk; counts = b.counts ∙ a.counts }

-- the hands that go on have the same table
pub at_table : {S D : Type 0} {goes : D → DeskEntry → D → Type 0} {t t' : Table} {p q : Plan} {d d' : DeskView S D goes} {b b' : Book} {n n' : Counts} → t' ≡ t → Follows t' p q d d' b b' n n' → Follows t p q d d' b b' n n'
at_table {t = t} {t'} {p} {q} {d} {d'} {b} {b'} {n} {n'} e f = subst (λ (u : Table). Follows u p q d d' b b' n n') e f
