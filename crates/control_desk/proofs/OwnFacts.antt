-- The plans of a connection's sessions, one session more.
use Rattle.std.proofs.Common.{ℕ, ◌+◌, ◌<◌, List, length, drop, get_or, Result, refl, ap}
use Rattle.net_io.specs.Desk.{DeskEntry}
use Rattle.session_rule.specs.declared.seats.Table.{Table}
use Rattle.session_desk.specs.declared.session.NoSuch.{NoSuch}
use Rattle.session_desk.specs.Book.{Book}
use Rattle.session_desk.specs.Makes.{Makes, starts, abandons}
use Rattle.control_desk.specs.declared.counts.Counts.{Counts}
use Rattle.control_desk.specs.declared.own.OwnSession.{OwnSession}
use Rattle.control_desk.specs.Plan.{Plan, DeskView, Follows, start, abandon}
use Rattle.control_desk.specs.Control.{start_all, abandon_all, close_one, close_all, close_one_at, close_all_at}
use Rattle.control_desk.proofs.Choices.{next_item}
use Rattle.control_desk.proofs.Following.{follows_as, follows_called}

pub start_step : {S D : Type 0} {goes : D → DeskEntry → D → Type 0} {t : Table} (d : DeskView S D goes) (n : Counts) (now : ℕ) (l : List OwnSession) (i : ℕ) (x : OwnSession) (more : Plan) (a : Result (Unit {0}) NoSuch) {b b' : Book}
    → i < length l → Makes t (starts (get_or l i x).place now a) b b' → Follows t (start_all now (drop i l) more) (start_all now (drop (i + 1) l) more) d d b b' n n
start_step d n now l i x more a h m =
    let o = get_or l i x in
    let rest = start_all now (drop (i + 1) l) more in
    follows_as (ap (λ (os : List OwnSession). start_all now os more) (next_item l i x h))
    (follows_called (start o.place now (λ r. rest)) rest (starts o.place now a) d (refl, refl, refl) m refl)

pub abandon_step : {S D : Type 0} {goes : D → DeskEntry → D → Type 0} {t : Table} (d : DeskView S D goes) (n : Counts) (l : List OwnSession) (i : ℕ) (x : OwnSession) (more : Plan) (a : Result (Unit {0}) NoSuch) {b b' : Book}
    → i < length l → Makes t (abandons (get_or l i x).place a) b b' → Follows t (abandon_all (drop i l) more) (abandon_all (drop (i + 1) l) more) d d b b' n n
abandon_step d n l i x more a h m =
    let o = get_or l i x in
    let rest = abandon_all (drop (i + 1) l) more in
    follows_as (ap (λ (os : List OwnSession). abandon_all os more) (next_item l i x h))
    (follows_called (abandon o.place (λ r. rest)) rest (abandons o.place a) d (refl, refl) m refl)

pub close_step : {S D : Type 0} {goes : D → DeskEntry → D → Type 0} {t : Table} (d : DeskView S D goes) (l : List OwnSession) (i : ℕ) (x : OwnSession) (more : Plan) {b b' : Book} {n n' : Counts}
    → i < length l → ((rest : Plan) → Follows t (close_one (get_or l i x) rest) rest d d b b' n n') → Follows t (close_all (drop i l) more) (close_all (drop (i + 1) l) more) d d b b' n n'
close_step d l i x more h k = follows_as (ap (λ (os : List OwnSession). close_all os more) (next_item l i x h)) (k (close_all (drop (i + 1) l) more))

pub close_at_step : {S D : Type 0} {goes : D → DeskEntry → D → Type 0} {t : Table} (d : DeskView S D goes) (n : Counts) (now : ℕ) (l : List OwnSession) (i : ℕ) (x : OwnSession) (more : Plan) {b b' : Book}
    → i < length l → ((rest : Plan) → Follows t (close_one_at now (get_or l i x) rest) rest d d b b' n n) → Follows t (close_all_at now (drop i l) more) (close_all_at now (drop (i + 1) l) more) d d b b' n n
close_at_step d n now l i x more h k = follows_as (ap (λ (os : List OwnSession). close_all_at now os more) (next_item l i x h)) (k (close_all_at now (drop (i + 1) l) more))
