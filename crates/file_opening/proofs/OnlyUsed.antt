-- The rows that the opening leaves are those of configurations that the file uses, and no others.
use Rattle.std.proofs.Common.{ℕ, List, [], ◌∷◌, Some, None, Option, sym, ap, ◌∙◌, subst}
use Rattle.std.specs.List.{list_any}
use Rattle.refl_types.specs.declared.config.ConfigParts.{ConfigParts}
use Rattle.refl_types.specs.Same.{same_config}
use Rattle.refl_types.proofs.SameFacts.{same_config-refl}
use Rattle.config_rows.specs.Rows.{Rows}
use Rattle.session_rule.specs.declared.seats.Table.{Table}
use Rattle.session_desk.specs.Book.{Book}
use Rattle.session_desk.proofs.BoolFacts.{true_ne_false, or_l, or_r}
use Rattle.conf_text.specs.declared.sessions.Provided.{Provided}
use Rattle.conf_text.specs.File.{File}
use Rattle.conf_text.specs.Rows.{in_use, session_configs}
use Rattle.file_opening.specs.Opening.{IsNewBook, OpensAll, KeepsRow, OpensFile}
use Rattle.file_opening.specs.Used.{Among}
use Rattle.file_opening.proofs.RoomFacts.{used_after}
use Rattle.file_opening.proofs.Ends.{in_sessions}

all_used : (t : Table) (moment : ℕ) (uses : List ConfigParts) (ss : List Provided) (b c : Book) → Among (session_configs ss) uses → Among b.rows.configs uses → OpensAll t moment ss b c → Among c.rows.configs uses
all_used t moment uses [] b c among used all = subst (λ (x : Book). Among x.rows.configs uses) (sym all) used
all_used t moment uses (s ∷ ss) b c among used all =
    let r = all.1 in let o = all.2 in let m = all.3 in let st = all.4 in
    all_used t moment uses ss o c (λ d some. among d (or_r (same_config d s.config) _ some))
    (λ d some. used_after b.rows r.rows s.config m.row m.made uses m.kept used (among s.config (or_l _ _ (same_config-refl s.config))) d
    (ap (λ (rows : Rows). list_any (same_config d) rows.configs) (sym st.rows) ∙ some))
    all.5

pub only_used : (t : Table) (f : File) (moment : ℕ) (a b : Book) → IsNewBook t f a → OpensFile t f moment a b → Among b.rows.configs (in_use f.twamp f.sessions)
only_used t f moment a b new o =
    let opened : Among o.opened.rows.configs (in_use f.twamp f.sessions) = all_used t moment (in_use f.twamp f.sessions) f.sessions a o.opened
    (λ d some. in_sessions f.twamp f.sessions d some)
    (λ d some. absurd (true_ne_false (sym some ∙ ap (λ (r : Rows). list_any (same_config d) r.configs) new.rows)))
    o.sessions in
    kept f.twamp o.twamp opened
  where
    kept : (twamp : Option ConfigParts) → KeepsRow t twamp o.opened b → Among o.opened.rows.configs (in_use twamp f.sessions) → Among b.rows.configs (in_use twamp f.sessions)
    kept None k used = subst (λ (x : Book). Among x.rows.configs (in_use None f.sessions)) (sym k) used
    kept (Some c) k used = λ d some. used_after o.opened.rows b.rows c k.row k.made (in_use (Some c) f.sessions) k.kept used (or_l _ _ (same_config-refl c)) d some
