-- Following a plan: nothing done, one act, and one part behind another.
use Rattle.std.proofs.Common.{◌≡◌, List, [], ◌∷◌, ◌++◌, refl, sym, ap, subst, ◌∙◌}
use Rattle.net_io.specs.Desk.{DeskEntry}
use Rattle.session_rule.specs.declared.seats.Table.{Table}
use Rattle.session_desk.specs.Book.{Book}
use Rattle.session_desk.specs.Makes.{BookCall, Makes}
use Rattle.control_desk.specs.declared.counts.Counts.{Counts}
use Rattle.control_desk.specs.Plan.{Plan, Act, noted, called, IsNext, Leads, MakesAll, counts_with, counts_after, DeskView, Shows, ShowsAll, Follows}

leads_then : (p q r : Plan) (x y : List Act) → Leads p x q → Leads q y r → Leads p (x ++ y) r
leads_then p q r [] y h k = subst (λ (t : Plan). Leads t y r) h k
leads_then p q r (a ∷ x) y h k = (h.0, h.1, leads_then h.0 q r x y h.2 k)

made_then : (t : Table) (a b c : Book) (x y : List Act) → MakesAll t x a b → MakesAll t y b c → MakesAll t (x ++ y) a c
made_then t a b c [] y h k = subst (λ (m : Book). MakesAll t y m c) h k
made_then t a b c (noted e ∷ x) y h k = made_then t a b c x y h k
made_then t a b c (called d ∷ x) y h k = (h.0, h.1, made_then t h.0 b c x y h.2 k)

shown_then : {S D : Type 0} {goes : D → DeskEntry → D → Type 0} (a b c : DeskView S D goes) (x y : List Act) → ShowsAll x a b → ShowsAll y b c → ShowsAll (x ++ y) a c
shown_then {S} {D} {goes} a b c [] y h k = subst (λ (m : DeskView S D goes). ShowsAll y m c) h k
shown_then a b c (noted e ∷ x) y h k = (h.0, h.1, shown_then h.0 b c x y h.2 k)
shown_then a b c (called d ∷ x) y h k = shown_then a b c x y h k

counts_then : (n : Counts) (x y : List Act) → counts_after n (x ++ y) ≡ counts_after (counts_after n x) y
counts_then n [] y = refl
counts_then n (a ∷ x) y = counts_then (counts_with n a) x y

pub follows_none : {S D : Type 0} {goes : D → DeskEntry → D → Type 0} {t : Table} (p : Plan) (d : DeskView S D goes) (b : Book) (n : Counts) → Follows t p p d d b b n n
follows_none p d b n = record { acts = []; leads = refl; shown = refl; made = refl; counted = refl }

pub follows_then : {S D : Type 0} {goes : D → DeskEntry → D → Type 0} {t : Table} {p q r : Plan} {d d' d'' : DeskView S D goes} {b b' b'' : Book} {n n' n'' : Counts}
    → Follows t p q d d' b b' n n' → Follows t q r d' d'' b' b'' n' n'' → Follows t p r d d'' b b'' n n''
follows_then {t = t} {p} {q} {r} {d} {d'} {d''} {b} {b'} {b''} {n} {n'} {n''} x y = record {
  acts = x.acts ++ y.acts;
  leads = leads_then p q r x.acts y.acts x.leads y.leads;
  shown = shown_then d d' d'' x.acts y.acts x.shown y.shown;
  made = made_then t b b' b'' x.acts y.acts x.made y.made;
  counted = y.counted ∙ ap (λ (m : Counts). counts_after m y.acts) x.counted ∙ sym (counts_then n x.acts y.acts);
}

-- an entry of the log
pub follows_noted : {S D : Type 0} {goes : D → DeskEntry → D → Type 0} {t : Table} (p q : Plan) (e : DeskEntry) {d d' : DeskView S D goes} (b : Book) {n n' : Counts}
    → IsNext p (noted e) q → Shows e d d' → n' ≡ counts_with n (noted e) → Follows t p q d d' b b n n'
follows_noted p q e {d} {d'} b h s c = record { acts = noted e ∷ []; leads = (q, h, refl); shown = (d', s, refl); made = refl; counted = c }

-- a call of the book
pub follows_called : {S D : Type 0} {goes : D → DeskEntry → D → Type 0} {t : Table} (p q : Plan) (call : BookCall) (d : DeskView S D goes) {b b' : Book} {n n' : Counts}
    → IsNext p (called call) q → Makes t call b b' → n' ≡ counts_with n (called call) → Follows t p q d d b b' n n'
follows_called p q call d {b} {b'} h m c = record { acts = called call ∷ []; leads = (q, h, refl); shown = refl; made = (b', m, refl); counted = c }

-- the plan is the one that another name stands for
pub follows_as : {S D : Type 0} {goes : D → DeskEntry → D → Type 0} {t : Table} {p p' q : Plan} {d d' : DeskView S D goes} {b b' : Book} {n n' : Counts} → p' ≡ p → Follows t p q d d' b b' n n' → Follows t p' q d d' b b' n n'
follows_as {t = t} {p} {p'} {q} {d} {d'} {b} {b'} {n} {n'} e h = subst (λ (r : Plan). Follows t r q d d' b b' n n') (sym e) h

pub follows_to : {S D : Type 0} {goes : D → DeskEntry → D → Type 0} {t : Table} {p q q' : Plan} {d d' : DeskView S D goes} {b b' : Book} {n n' : Counts} → q ≡ q' → Follows t p q d d' b b' n n' → Follows t p q' d d' b b' n n'
follows_to {t = t} {p} {q} {q'} {d} {d'} {b} {b'} {n} {n'} e h = subst (λ (r : Plan). Follows t p r d d' b b' n n') e h
