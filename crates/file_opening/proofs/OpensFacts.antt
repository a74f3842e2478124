-- The calls that open the sessions of the file, one session after the other.
use Rattle.std.proofs.Common.{◌≡◌, ℕ, ◌+◌, ◌<◌, List, [], ◌∷◌, ◌++◌, length, take, get_or, Ok, sym, refl, ap, ◌∙◌, subst, arith}
use Rattle.std.proofs.lemmas.List.{take_all, take_more}
use Rattle.refl_types.specs.declared.outcome.Place.{Place}
use Rattle.session_rule.specs.declared.seats.Table.{Table}
use Rattle.session_desk.specs.Book.{Book}
use Rattle.session_desk.specs.Makes.{Makes, reserves, starts}
use Rattle.conf_text.specs.declared.sessions.Provided.{Provided}
use Rattle.conf_text.specs.File.{File}
use Rattle.file_opening.specs.Opening.{OpensAll, KeepsRow, OpensFile}

-- one more
opens_more : (t : Table) (moment : ℕ) (ss : List Provided) (s : Provided) (p : Place) (a b r c : Book) → OpensAll t moment ss a b
    → Makes t (reserves s.key s.extra s.config s.wait (Ok p)) b r → Makes t (starts p moment (Ok tt)) r c → OpensAll t moment (ss ++ s ∷ []) a c
opens_more t moment [] s p a b r c all m n = (p, r, c, subst (λ (x : Book). Makes t (reserves s.key s.extra s.config s.wait (Ok p)) x r) all m, n, refl)
opens_more t moment (x ∷ ss) s p a b r c all m n = (all.0, all.1, all.2, all.3, all.4, opens_more t moment ss s p all.2 b r c all.5 m n)

pub opens_next : (t : Table) (f : File) (moment n : ℕ) (s : Provided) (p : Place) (a b r c : Book) → n < length f.sessions → s ≡ get_or f.sessions n s
    → Makes t (reserves s.key s.extra s.config s.wait (Ok p)) b r → Makes t (starts p moment (Ok tt)) r c
    → OpensAll t moment (take n f.sessions) a b → OpensAll t moment (take (n + 1) f.sessions) a c
opens_next t f moment n s p a b r c inside is m st all =
    subst (λ (ss : List Provided). OpensAll t moment ss a c) (sym (take_more f.sessions n s inside ∙ ap (λ (x : Provided). take n f.sessions ++ x ∷ []) (sym is)))
    (opens_more t moment (take n f.sessions) s p a b r c all m st)

-- all sessions were opened, and then twamp was given its row, where the file has it
pub opens_file : (t : Table) (f : File) (moment n : ℕ) (a b : Book) → OpensAll t moment (take n f.sessions) a b → n ≡ length f.sessions → (d : Book) → KeepsRow t f.twamp b d → OpensFile t f moment a d
opens_file t f moment n a b opens all d kept = record {
  opened = b;
  sessions = subst (λ (ss : List Provided). OpensAll t moment ss a b) (take_all n f.sessions (omega (arith, all))) opens;
  twamp = kept;
}
