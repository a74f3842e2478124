-- The history begins with the openings of the file's sessions.
use Rattle.std.proofs.Common.{◌≡◌, ℕ, zero, suc, ◌-◌, ◌<◌, List, [], ◌∷◌, ◌++◌, length, map, reverse, Some, sym, refl, ap, ◌∙◌, subst, arith}
use Rattle.std.specs.List.{AllZip, slice_get}
use Rattle.std.proofs.lemmas.List.{map-append, reverse-append}
use Rattle.refl_types.specs.declared.config.ConfigParts.{ConfigParts}
use Rattle.config_rows.specs.Rows.{Rows, IsRow}
use Rattle.session_world.specs.declared.steps.Step.{Step}
use Rattle.session_world.specs.declared.steps.Part.{Part}
use Rattle.session_world.specs.declared.steps.TableSize.{TableSize}
use Rattle.session_world.specs.Keys.{config_of}
use Rattle.session_world.specs.Desk.{config_at, IsComplete, is_split}
use Rattle.session_world.specs.Answers.{Answer, opened, with_configs}
use Rattle.session_world.specs.History.{Event}
use Rattle.session_world.specs.Rows.{RowsStay}
use Rattle.session_world.specs.OneOrder.{events_by}
use Rattle.session_world.specs.Joined.{AreOpenings, OneHistory}
use Rattle.session_rule.specs.declared.seats.Table.{Table}
use Rattle.session_desk.specs.declared.session.Session.{Session}
use Rattle.session_desk.specs.Book.{Book, steps_of, answers_of}
use Rattle.session_desk.specs.Fits.{BookFits}
use Rattle.conf_text.specs.declared.sessions.Provided.{Provided}
use Rattle.conf_text.specs.File.{File}
use Rattle.file_opening.specs.Opening.{IsNewBook}
use Rattle.file_opening.specs.Opened.{IsOpened, opening_of, HasOpened}
use Rattle.reflector_serve.specs.Phases.{Phase}
use Rattle.reflector_serve.specs.Served.{opening_event}
use Rattle.reflector_serve.proofs.PhaseFacts.{first_phase}

-- ---- lists

reverse_cons : {A : Type 0} (x : A) (xs : List A) → reverse (x ∷ xs) ≡ reverse xs ++ x ∷ []
reverse_cons x xs = reverse-append (x ∷ []) xs

map_reverse : {A B : Type 0} (f : A → B) (xs : List A) → map f (reverse xs) ≡ reverse (map f xs)
map_reverse f [] = refl
map_reverse {A} {B} f (x ∷ xs) = ap (map f) (reverse_cons x xs) ∙ map-append f (reverse xs) (x ∷ []) ∙ ap (λ (ys : List B). ys ++ f x ∷ []) (map_reverse f xs) ∙ sym (reverse_cons (f x) (map f xs))

got_inside : {A : Type 0} (xs : List A) (n : ℕ) (x : A) → slice_get xs n ≡ Some x → n < length xs
got_inside [] n x e = absurd cc
got_inside (y ∷ xs) zero x e = omega arith
got_inside (y ∷ xs) (suc n) x e = let h = got_inside xs n x e in omega (arith, h)

-- ---- at the opening nothing but openings was answered

openings_append : (xs ys : List (Answer ℕ)) → AreOpenings xs → AreOpenings ys → AreOpenings (xs ++ ys)
openings_append [] ys a b = b
openings_append (x ∷ xs) ys a b = (a.0, openings_append xs ys a.1 b)

are_openings : (os : List Session) → AreOpenings (reverse (map opening_of os))
are_openings [] = tt
are_openings (o ∷ os) = subst AreOpenings (sym (reverse_cons (opening_of o) (map opening_of os))) (openings_append (reverse (map opening_of os)) (opening_of o ∷ []) (are_openings os) (tt, tt))

pub opened_phase : (t : Table) (f : File) (moment : ℕ) (before b : Book) → IsNewBook t f before → HasOpened t f moment before b → Phase t (steps_of b) (steps_of b) b 0 []
opened_phase t f moment before b new h = first_phase t b h.went.stands (subst AreOpenings (sym h.answers) (are_openings b.live))
    (λ w. h.went.split w ∙ ap (λ (ds : List Step). is_split ds w) new.steps) (h.went.joined ∙ new.joined)

-- ---- the events

event_of : (ℕ → ConfigParts) → Answer ℕ → Event ConfigParts
event_of config a = record { by = 0; answer = with_configs config a }

events_map : (config : ℕ → ConfigParts) (xs : List (Answer ℕ)) → events_by 0 config xs ≡ map (event_of config) xs
unfolding event_of
events_map config [] = refl
events_map config (x ∷ xs) = ap (λ (es : List (Event ConfigParts)). record { by = 0; answer = with_configs config x } ∷ es) (events_map config xs)

session_events : (rows : Rows) (moment : ℕ) (config : ℕ → ConfigParts) (ss : List Provided) (os : List Session) → AllZip (IsOpened rows moment) ss os → ((c : ConfigParts) (row : ℕ) → IsRow rows c row → config row ≡ c)
    → map (event_of config) (map opening_of os) ≡ map opening_event ss
unfolding event_of
session_events rows moment config [] [] all known = refl
session_events rows moment config [] (o ∷ os) all known = absurd all
session_events rows moment config (s ∷ ss) [] all known = absurd all
session_events rows moment config (s ∷ ss) (o ∷ os) all known = let h = all.0 in let e = known s.config o.row h.row in
    λ i. record { by = 0; answer = opened (h.key i) (h.extra i) (e i) } ∷ session_events rows moment config ss os all.1 known i

-- the rows of these sessions stand for their configurations, also later
rows_known : (z : TableSize) (b c : Book) (parts : List Part) (lists : List (List Step)) → BookFits b → RowsStay → OneHistory z (steps_of b) (steps_of c) parts lists → (more : List Step) × (steps_of c ≡ more ++ steps_of b)
    → (x : ConfigParts) (row : ℕ) → IsRow b.rows x row → config_at (steps_of c) row ≡ x
rows_known z b c parts lists fits stay one grew x row is =
    let inside = got_inside b.rows.configs (row - 1) x is.1 in let some = is.0 in let written = fits.rows.written in
    let full : IsComplete (steps_of b) row = (some, omega (arith, some, inside, written)) in
    ap config_of (stay z (steps_of c) grew.0 (steps_of b) parts row (one.schedule, one.runs, one.desk, one.parts) grew.1 full).1 ∙ fits.rows.configs x row is

pub begins : (t : Table) (z : TableSize) (f : File) (moment : ℕ) (before b c : Book) (parts : List Part) (lists : List (List Step)) → HasOpened t f moment before b → BookFits b → RowsStay
    → (one : OneHistory z (steps_of b) (steps_of c) parts lists) → (more : List Step) × (steps_of c ≡ more ++ steps_of b) → (later : List (Event ConfigParts)) × (one.history ≡ later ++ map opening_event (reverse f.sessions))
begins t z f moment before b c parts lists h fits stay one grew = let config = config_at (steps_of c) in (
  one.later,
  one.begins ∙ ap (λ (es : List (Event ConfigParts)). one.later ++ es)
      (events_map config (answers_of b) ∙ ap (map (event_of config)) h.answers ∙ map_reverse (event_of config) (map opening_of b.live)
      ∙ ap (λ (es : List (Event ConfigParts)). reverse es) (session_events b.rows moment config f.sessions b.live h.live (rows_known z b c parts lists fits stay one grew))
      ∙ sym (map_reverse opening_event f.sessions)),
)
