-- Before the first session of the file, and after the last.
use Rattle.std.proofs.Common.{◌≡◌, inl, ℕ, ◌<◌, ◌≤◌, true, List, [], length, map, take, reverse, get_or, Some, None, Ok, Err, Option, sym, refl, ap, ◌∙◌, subst, arith}
use Rattle.std.specs.List.{AllZip, list_any}
use Rattle.std.proofs.lemmas.List.{take_all, get_or-map, length-map}
use Rattle.std.proofs.lemmas.List.Folds.{list_any_at}
use Rattle.refl_types.specs.declared.config.ConfigParts.{ConfigParts}
use Rattle.refl_types.specs.Same.{same_config}
use Rattle.refl_types.proofs.SameFacts.{same_config-refl}
use Rattle.config_rows.specs.Rows.{Rows}
use Rattle.session_world.specs.declared.steps.Step.{Step}
use Rattle.session_world.specs.Answers.{desk_answers}
use Rattle.session_world.specs.Desk.{generation_of}
use Rattle.session_rule.specs.declared.seats.Table.{Table}
use Rattle.session_desk.specs.declared.session.Session.{Session}
use Rattle.session_desk.specs.declared.session.RowsFull.{RowsFull}
use Rattle.session_desk.specs.Book.{Book}
use Rattle.session_desk.specs.Going.{DeskWent}
use Rattle.session_desk.specs.Makes.{Makes, keeps_row}
use Rattle.session_desk.proofs.BoolFacts.{true_ne_false, or_l, or_r}
use Rattle.session_desk.proofs.Goes.{went, went_both}
use Rattle.session_desk.proofs.Serving.{row_stays, row_given}
use Rattle.conf_text.specs.declared.sessions.Provided.{Provided}
use Rattle.conf_text.specs.File.{File}
use Rattle.conf_text.specs.Rows.{distinct, in_use, session_configs}
use Rattle.file_opening.specs.Opening.{IsNewBook, KeepsRow}
use Rattle.file_opening.specs.Opened.{IsOpened, HasItsRow, HasOpened, opening_of}
use Rattle.file_opening.specs.OpenedFirst.{AreOnce, HasOpenedFirst}
use Rattle.file_opening.proofs.RoomFacts.{has_room}
use Rattle.file_opening.proofs.NextFacts.{all_kept}

pub at_first : (t : Table) (f : File) (moment : ℕ) (b : Book) → IsNewBook t f b → HasOpenedFirst t f moment 0 b
at_first t f moment b new = record {
  stands = record { book = new.book; schedule = new.schedule };
  slots = new.slots;
  row_limit = ap (λ (r : Rows). r.limit) new.rows;
  live = subst (λ (os : List Session). AllZip (IsOpened b.rows moment) [] os) (sym new.live) tt;
  answers = ap desk_answers new.steps ∙ ap (λ (os : List Session). reverse (map opening_of os)) (sym new.live);
  reserved = new.reserved;
  keys = new.keys;
  once = subst (λ (r : Rows). AreOnce r.configs) (sym new.rows) tt;
  used = λ c some. absurd (true_ne_false (sym some ∙ ap (λ (r : Rows). list_any (same_config c) r.configs) new.rows));
  taken = λ i. inl (ap (λ (ds : List Step). generation_of ds i) new.steps);
}

-- ---- what the file uses

pub in_sessions : (twamp : Option ConfigParts) (sessions : List Provided) (c : ConfigParts) → list_any (same_config c) (session_configs sessions) ≡ true → list_any (same_config c) (in_use twamp sessions) ≡ true
in_sessions None sessions c some = some
in_sessions (Some d) sessions c some = or_r (same_config c d) _ some

pub session_used : (f : File) (n : ℕ) (s : Provided) → n < length f.sessions → s ≡ get_or f.sessions n s → list_any (same_config s.config) (in_use f.twamp f.sessions) ≡ true
session_used f n s inside is = in_sessions f.twamp f.sessions s.config
    (list_any_at (same_config s.config) (session_configs f.sessions) n s.config (let l = length-map f.sessions (λ (x : Provided). x.config) in omega (arith, inside, l))
    (ap (same_config s.config) (get_or-map (λ (x : Provided). x.config) f.sessions n s s.config inside ∙ ap (λ (x : Provided). x.config) (sym is)) ∙ same_config-refl s.config))

twamp_used : (f : File) (c : ConfigParts) → f.twamp ≡ Some c → list_any (same_config c) (in_use f.twamp f.sessions) ≡ true
twamp_used f c e = ap (λ (o : Option ConfigParts). list_any (same_config c) (in_use o f.sessions)) e ∙ or_l _ _ (same_config-refl c)

-- ---- the row of twamp

pub row_kept : (t : Table) (f : File) (moment n : ℕ) (b d : Book) (c : ConfigParts) (fault : RowsFull) → HasOpenedFirst t f moment n b → f.twamp ≡ Some c → length (distinct (in_use f.twamp f.sessions)) ≤ f.rows → Makes t (keeps_row c (Err fault)) b d → ⊥
row_kept t f moment n b d c fault first is fits m = has_room b.rows c (in_use f.twamp f.sessions) first.once first.used (twamp_used f c is) (let l = first.row_limit in omega (arith, fits, l)) m.0

all_opened_alone : (t : Table) (f : File) (moment : ℕ) (a b : Book) → DeskWent t a b → HasOpenedFirst t f moment (length f.sessions) b → f.twamp ≡ None → HasOpened t f moment a b
all_opened_alone t f moment a b w first none = record {
  went = w;
  live = subst (λ (ss : List Provided). AllZip (IsOpened b.rows moment) ss b.live) (take_all (length f.sessions) f.sessions (omega arith)) first.live;
  answers = first.answers;
  reserved = first.reserved;
  keys = first.keys ∙ ap (map (λ (s : Provided). s.key)) (take_all (length f.sessions) f.sessions (omega arith));
  twamp = subst (HasItsRow b.rows) (sym none) tt;
}

all_opened_with : (t : Table) (f : File) (moment : ℕ) (a b d : Book) (c : ConfigParts) → DeskWent t a b → HasOpenedFirst t f moment (length f.sessions) b → f.twamp ≡ Some c → Makes t (keeps_row c (Ok tt)) b d → HasOpened t f moment a d
all_opened_with t f moment a b d c w first is m = let all : f.sessions ≡ take (length f.sessions) f.sessions = sym (take_all (length f.sessions) f.sessions (omega arith)) in
    let w' = went t (keeps_row c (Ok tt)) b d w.stands m in record {
      went = went_both t a b d w w';
      live = subst (λ (os : List Session). AllZip (IsOpened d.rows moment) f.sessions os) (sym m.live) (subst (λ (ss : List Provided). AllZip (IsOpened d.rows moment) ss b.live) (sym all) (all_kept b.rows d.rows moment (take (length f.sessions) f.sessions) b.live (λ x row. row_stays t x row b d w') first.live));
      answers = m.answers ∙ first.answers ∙ ap (λ (os : List Session). reverse (map opening_of os)) (sym m.live);
      reserved = m.reserved ∙ first.reserved;
      keys = m.keys ∙ first.keys ∙ ap (map (λ (s : Provided). s.key)) (sym all);
      twamp = subst (HasItsRow d.rows) (sym is) (m.row, row_given b.rows d.rows c m.row m.made m.kept);
    }

-- all sessions are open, and then twamp was given its row, where the file has it
pub all_opened : (t : Table) (f : File) (moment n : ℕ) (a b : Book) → DeskWent t a b → HasOpenedFirst t f moment n b → n ≡ length f.sessions → (d : Book) → KeepsRow t f.twamp b d → HasOpened t f moment a d
all_opened t f moment n a b w first all d kept = either f.twamp refl kept
  where
    whole : HasOpenedFirst t f moment (length f.sessions) b
    whole = subst (λ (m : ℕ). HasOpenedFirst t f moment m b) all first

    either : (o : Option ConfigParts) → f.twamp ≡ o → KeepsRow t o b d → HasOpened t f moment a d
    either None none k = subst (λ (x : Book). HasOpened t f moment a x) (sym k) (all_opened_alone t f moment a b w whole none)
    either (Some c) is k = all_opened_with t f moment a b d c w whole is k
