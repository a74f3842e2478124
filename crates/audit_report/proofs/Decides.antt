-- Where no call fails, what the source holds decides how an audit ends.
use Rattle.std.proofs.Common.{◌≡◌, ◌⊎◌, ℕ, ◌+◌, inl, inr, List, [], ◌∷◌, ◌++◌, length, Option, Some, None, refl, sym, ap, subst, ◌∙◌, append_assoc, arith}
use Rattle.std.proofs.lemmas.List.{append-nil, length-append}
use Rattle.reply_audit.specs.Claims.{Claim, claim_octets, AllFit}
use Rattle.reply_audit.specs.Fronts.{OneClaim}
use Rattle.reply_audit.specs.Looks.{State, first_state}
use Rattle.reply_audit.specs.Holding.{Holds, state_after, HoldFrom, state_from, IsHistory}
use Rattle.reply_audit.proofs.FrontFacts.{claim_length}
use Rattle.audit_report.specs.declared.lines.Verdict.TheVariants.{Yes, No, Bad}
use Rattle.audit_report.specs.Fronts.{FailsFront}
use Rattle.audit_report.specs.Runs.{claims_octets, state_behind, Reads, IsLeftOpen, LeavesGrammar, IsRun}
use Rattle.audit_report.specs.Decides.{AreClaims, IsNoHistory, RunDecides}

-- ---- one reading

not_empty : (c : Claim) (x : List ℕ) → [] ≡ claim_octets c ++ x → ⊥
not_empty c x e = omega (arith, claim_length c, ap length e, length-append (claim_octets c) x)

-- claims whose octets begin with those of other claims have these at their front
pub record Behind (cs ds : List Claim) (x : List ℕ) : Type 0 where
  pub more : List Claim
  pub fits : AllFit more
  pub joined : ds ≡ cs ++ more
  pub left : claims_octets more ≡ x

one_reading : OneClaim → (cs ds : List Claim) (x : List ℕ) → AllFit cs → AllFit ds → claims_octets ds ≡ claims_octets cs ++ x → Behind cs ds x
one_reading one [] ds x fc fd e = record { more = ds; fits = fd; joined = refl; left = e }
one_reading one (c ∷ cs) [] x fc fd e = absurd (not_empty c (claims_octets cs ++ x) (e ∙ append_assoc (claim_octets c) (claims_octets cs) x))
one_reading one (c ∷ cs) (d ∷ ds) x fc fd e =
    let same = one d c (claims_octets ds) (claims_octets cs ++ x) fd.0 fc.0 (e ∙ append_assoc (claim_octets c) (claims_octets cs) x) in
    let r = one_reading one cs ds x fc.1 fd.1 same.1 in
    record { more = r.more; fits = r.fits; joined = ap (λ (y : Claim). y ∷ ds) same.0 ∙ ap (λ (l : List Claim). c ∷ l) r.joined; left = r.left }

hold_behind : (s : State) (cs es : List Claim) → HoldFrom s (cs ++ es) → HoldFrom (state_from s cs) es
hold_behind s [] es h = h
hold_behind s (c ∷ cs) es h = hold_behind (state_after s c) cs es h.1

-- ---- what was read, and all claims that there are

module _ (one : OneClaim) (octets m more : List ℕ) (cs ds : List Claim) (r : Reads (Some octets) (Some m) cs more) (is : AreClaims octets ds) where
  parted : claims_octets ds ≡ claims_octets cs ++ (more ++ m)
  parted = sym is.whole ∙ r.taken ∙ append_assoc (claims_octets cs) more m

  behind : Behind cs ds (more ++ m)
  behind = one_reading one cs ds (more ++ m) r.fits is.fits parted

  long : length octets ≡ length (claims_octets cs) + length (more ++ m)
  long = ap length (is.whole ∙ parted) ∙ length-append (claims_octets cs) (more ++ m)

  fails_next : (es : List Claim) → AllFit es → claims_octets es ≡ more ++ m → HoldFrom (state_behind cs) es → (n : ℕ) → FailsFront (state_behind cs) more n → ⊥
  fails_next [] fits e hold n f = not_empty f.claim (f.rest ++ m) (e ∙ ap (λ (l : List ℕ). l ++ m) f.front ∙ append_assoc (claim_octets f.claim) f.rest m)
  fails_next (d ∷ es) fits e hold n f =
      let same = one d f.claim (claims_octets es) (f.rest ++ m) fits.0 f.fits (e ∙ ap (λ (l : List ℕ). l ++ m) f.front ∙ append_assoc (claim_octets f.claim) f.rest m) in
      f.fails (subst (λ (c : Claim). Holds (state_behind cs) c) same.0 hold.0)

  left_open : (es : List Claim) → claims_octets es ≡ more ++ m → (ds ≡ cs ++ es) → IsHistory ds → IsLeftOpen (Some m) cs more → ⊥
  left_open [] e joined h o = o.open_look (ap (λ (l : List Claim). (state_behind l).looks) (sym (joined ∙ append-nil cs)) ∙ h.closed)
  left_open (d ∷ es) e joined h o = not_empty d (claims_octets es) (sym (e ∙ ap (λ (l : List ℕ). l ++ m) o.none ∙ o.ended))

  pub no_failure : IsHistory ds → (n : ℕ) → FailsFront (state_behind cs) more n ⊎ IsLeftOpen (Some m) cs more → ⊥
  no_failure h n (inl f) = fails_next behind.more behind.fits behind.left (hold_behind first_state cs behind.more (subst (λ (l : List Claim). HoldFrom first_state l) behind.joined h.hold)) n f
  no_failure h n (inr o) = left_open behind.more behind.left behind.joined h o

  left_grammar : (es : List Claim) → AllFit es → claims_octets es ≡ more ++ m → LeavesGrammar (Some m) cs more → ⊥
  left_grammar [] fits e l = omega (arith, ap length e, length-append more m, l.some)
  left_grammar (d ∷ es) fits e l = elim l.none [
    | inl none ↦ omega (arith, none d m (claims_octets es) fits.0 (sym e), long, is.limit, r.limit, ap length e, length-append (claim_octets d) (claims_octets es))
    | inr cut ↦ cut.0 d (claims_octets es) fits.0 (sym (append-nil more) ∙ ap (λ (l : List ℕ). more ++ l) (sym cut.1) ∙ sym e)
  ]

  pub no_garbage : LeavesGrammar (Some m) cs more → ⊥
  no_garbage l = left_grammar behind.more behind.fits behind.left l

-- ---- the ends

yes_history : (octets : List ℕ) (left' : Option (List ℕ)) (n : ℕ) → IsRun (Some octets) left' (Yes n) → IsNoHistory octets → ⊥
yes_history octets None n run none = absurd (run.1.taken)
yes_history octets (Some m) n run none =
    let whole : octets ≡ claims_octets run.0 = run.1.taken ∙ ap (λ (l : List ℕ). (claims_octets run.0 ++ []) ++ l) run.2 ∙ append-nil (claims_octets run.0 ++ []) ∙ append-nil (claims_octets run.0) in
    none run.0 (record { fits = run.1.fits; whole = whole; limit = omega (arith, ap length whole, run.1.limit) }) run.3

no_history : OneClaim → (octets : List ℕ) (left' : Option (List ℕ)) (n : ℕ) (ds : List Claim) → IsRun (Some octets) left' (No n) → AreClaims octets ds → IsHistory ds → ⊥
no_history one octets None n ds run is h = absurd (run.2.taken)
no_history one octets (Some m) n ds run is h = no_failure one octets m run.1 run.0 ds run.2 is h _ run.3

no_claims : OneClaim → (octets : List ℕ) (left' : Option (List ℕ)) (n : ℕ) (ds : List Claim) → IsRun (Some octets) left' (Bad n) → AreClaims octets ds → ⊥
no_claims one octets None n ds run is = absurd (run.2.taken)
no_claims one octets (Some m) n ds run is = no_garbage one octets m run.1 run.0 ds run.2 is run.3

pub run_decides : OneClaim → RunDecides
run_decides one octets left' failed failed' old new status (inl (Yes n, run, inl told, still)) reads writes =
    (λ cs is h. inl told.0, λ none. absurd (yes_history octets left' n run none), λ six. absurd (omega (arith, told.0, six)))
run_decides one octets left' failed failed' old new status (inl (No n, run, inl told, still)) reads writes =
    (λ cs is h. absurd (no_history one octets left' n cs run is h), λ none. inl told.0, λ six. absurd (omega (arith, told.0, six)))
run_decides one octets left' failed failed' old new status (inl (Bad n, run, inl told, still)) reads writes =
    (λ cs is h. absurd (no_claims one octets left' n cs run is), λ none. inr (inl told.0), λ six cs is. no_claims one octets left' n cs run is)
run_decides one octets left' failed failed' old new status (inl (verdict, run, inr told, still)) reads writes = absurd (writes told.2)
run_decides one octets left' failed failed' old new status (inr (inl h)) reads writes =
    (λ cs is history. inr h.0, λ none. inr (inr h.0), λ six. absurd (omega (arith, h.0, six)))
run_decides one octets left' failed failed' old new status (inr (inr h)) reads writes = absurd (reads h.3)
