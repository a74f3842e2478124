-- In a history the row of a session stands for the configuration that its call named.
use Rattle.std.proofs.Common.{◌≡◌, ℕ, zero, suc, List, [], ◌∷◌, take, drop, Some, None, Ok, Option, sym, refl, ap, ◌∙◌, subst}
use Rattle.std.specs.List.{slice_get}
use Rattle.refl_types.specs.declared.config.ConfigParts.{ConfigParts}
use Rattle.config_rows.specs.Rows.{Rows, IsRow}
use Rattle.session_world.specs.declared.steps.Step.{Step}
use Rattle.session_world.specs.Desk.{config_at}
use Rattle.session_rule.specs.declared.seats.Table.{Table}
use Rattle.session_desk.specs.Book.{Book, steps_of}
use Rattle.session_desk.specs.Fits.{BookFits}
use Rattle.session_desk.specs.Going.{StandsAt, DeskWent}
use Rattle.session_desk.specs.Makes.{BookCall, Makes, reserves, starts, keeps_row}
use Rattle.session_desk.proofs.Goes.{went, went_none, went_both}
use Rattle.session_desk.proofs.Serving.{row_stays}
use Rattle.conf_text.specs.declared.sessions.Provided.{Provided}
use Rattle.conf_text.specs.File.{File}
use Rattle.file_opening.specs.Opening.{IsNewBook, OpensAll, KeepsRow, OpensFile}
use Rattle.control_desk.specs.Plan.{Act, noted, called, MakesAll}
use Rattle.reflector_serve.specs.Phases.{SplitsOff, JoinsAll}
use Rattle.reflector_serve.specs.Named.{IsMadeAt}
use Rattle.reflector_serve.proofs.PhaseFacts.{same_size}

-- ---- from the first book on the book is that of the table

opens_stand : (t : Table) (moment : ℕ) (ss : List Provided) (b c : Book) → StandsAt t b → OpensAll t moment ss b c → StandsAt t c
opens_stand t moment [] b c s all = subst (StandsAt t) (sym all) s
opens_stand t moment (x ∷ ss) b c s all =
    let reserved = went t (reserves x.key x.extra x.config x.wait (Ok all.0)) b all.1 s all.3 in
    let started = went t (starts all.0 moment (Ok tt)) all.1 all.2 reserved.stands all.4 in
    opens_stand t moment ss all.2 c started.stands all.5

row_stands : (t : Table) (twamp : Option ConfigParts) (b c : Book) → StandsAt t b → KeepsRow t twamp b c → StandsAt t c
row_stands t None b c s kept = subst (StandsAt t) (sym kept) s
row_stands t (Some config) b c s kept = (went t (keeps_row config (Ok tt)) b c s kept).stands

splits_stand : (t : Table) (n : ℕ) (b c : Book) → StandsAt t b → SplitsOff t n b c → StandsAt t c
splits_stand t zero b c s split = subst (StandsAt t) (sym split) s
splits_stand t (suc n) b c s split =
    let before = splits_stand t n b split.0 s split.2 in let h = split.3 in
    record { book = (h.seat.seat, same_size t split.0 c before.book h.book); schedule = h.seat.schedule }

-- where the workers are split off
pub at_split_stands : (t : Table) (f : File) (moment n : ℕ) (a b c : Book) → IsNewBook t f a → OpensFile t f moment a b → SplitsOff t n b c → StandsAt t c
at_split_stands t f moment n a b c new opening splits =
    splits_stand t n b c
    (row_stands t f.twamp opening.opened b (opens_stand t moment f.sessions a opening.opened (record { book = new.book; schedule = new.schedule }) opening.sessions) opening.twamp)
    splits

-- ---- the calls of a run, one after the other

all_went : (t : Table) (acts : List Act) (b c : Book) → StandsAt t b → MakesAll t acts b c → DeskWent t b c
all_went t [] b c s h = subst (DeskWent t b) (sym h) (went_none t b s)
all_went t (noted e ∷ acts) b c s h = all_went t acts b c s h
all_went t (called call ∷ acts) b c s h = let one = went t call b h.0 s h.1 in went_both t b h.0 c one (all_went t acts h.0 c one.stands h.2)

-- the call at a place of the acts
pub made_at : (t : Table) (acts : List Act) (place : ℕ) (call : BookCall) (b c : Book) → slice_get acts place ≡ Some (called call) → MakesAll t acts b c → IsMadeAt t acts place call b c
made_at t [] place call b c is h = absurd cc
made_at t (noted e ∷ acts) zero call b c is h = absurd cc
made_at t (called call' ∷ acts) zero call b c is h =
    let same : call' ≡ call = cc in
    record { before = b; after = h.0; earlier = refl; made = subst (λ (x : BookCall). Makes t x b h.0) same h.1; later = h.2 }
made_at t (noted e ∷ acts) (suc place) call b c is h = let m = made_at t acts place call b c is h in
    record { before = m.before; after = m.after; earlier = m.earlier; made = m.made; later = m.later }
made_at t (called call' ∷ acts) (suc place) call b c is h = let m = made_at t acts place call h.0 c is h.2 in
    record { before = m.before; after = m.after; earlier = (h.0, h.1, m.earlier); made = m.made; later = m.later }

-- ---- its row

-- joins leave the rows as they are
rows_stay : (t : Table) (n : ℕ) (lists : List (List Step)) (b c : Book) → JoinsAll t n lists b c → c.rows ≡ b.rows
rows_stay t n [] b c j = ap (λ (x : Book). x.rows) j
rows_stay t n (xs ∷ lists) b c j = ap (λ (x : Book). x.rows) j.5.book ∙ rows_stay t (suc n) lists b j.0 j.2

-- a row that the call gave, then the calls behind it, then the joins
pub stands : (t : Table) (acts : List Act) (place : ℕ) (call : BookCall) (b e joined : Book) (c : ConfigParts) (row n : ℕ) (lists : List (List Step)) → StandsAt t b
    → (m : IsMadeAt t acts place call b e) → IsRow m.after.rows c row → JoinsAll t n lists e joined → BookFits joined → config_at (steps_of joined) row ≡ c
stands t acts place call b e joined c row n lists s m is joins fits =
    let before = all_went t (take place acts) b m.before s m.earlier in
    let after = went t call m.before m.after before.stands m.made in
    let later = all_went t (drop (suc place) acts) m.after e after.stands m.later in
    fits.rows.configs c row (subst (λ (rows : Rows). IsRow rows c row) (sym (rows_stay t n lists e joined joins)) (row_stays t c row m.after e later is))
