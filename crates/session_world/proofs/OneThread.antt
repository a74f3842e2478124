-- Calls of the desk and turns of its only worker, one after the other.
use Rattle.std.proofs.Common.{◌≡◌, ◌⊎◌, inl, inr, ⊎_elim, ℕ, ◌%◌, ◌^◌, ◌==◌, Bool, true, false, ◌&&◌, ◌||◌, not, List, [], ◌∷◌, ◌++◌, sym, refl, ap, ◌∙◌, subst, append_assoc}
use Rattle.std.proofs.lemmas.List.{append_cancel_right}
use Rattle.session_world.specs.declared.steps.TableSize.{TableSize}
use Rattle.session_world.specs.declared.steps.Step.{Step}
use Rattle.session_world.specs.declared.steps.Part.{Part}
use Rattle.session_world.specs.declared.steps.Step.TheVariants.{Start, Split, Reconfigure, Close, Peek, Expire, Join}
use Rattle.session_world.specs.Keys.{Key, ConfigParts, has_key}
use Rattle.session_world.specs.Desk.{config_at, is_split}
use Rattle.session_world.specs.Answers.{Answer, seen, drew, missed, late, with_configs, desk_gives, desk_answers, worker_answers}
use Rattle.session_world.specs.History.{Session, Event, map_after}
use Rattle.session_world.specs.OneOrder.{InTurns, events_by, one_order, AreLegal, IsLegalOrder}
use Rattle.session_world.specs.OneThread.{IsBetween, Begins, OneBound, NoTurns, SetsSame, CallsTell, HasTurned, after_turn, turn_part, TurnsTell}
use Rattle.session_world.specs.Allowed.{DeskDid}
use Rattle.session_world.proofs.BoolFacts.{true_ne_false, some_same}
use Rattle.session_world.proofs.Sound.{run_sound}
use Rattle.session_world.proofs.LegalOrder.{AllSame, Agrees, entry_same, agrees_before, desk_all, one_legal_order}

pub begins : Begins
begins z within one = record { within = within; one = one; turns = tt; free = refl; schedule = ([], tt, refl, refl) }

-- ---- from one schedule to its lists

scheduled_did : (z : TableSize) (ds : List Step) (ps : List Part) → IsBetween z ds ps → DeskDid z ds
scheduled_did z ds ps h = let s = h.schedule in subst (DeskDid z) s.2 (run_sound z s.0 h.within s.1).desk

pub one_bound : OneBound
one_bound z ds ps h = let s = h.schedule in
    subst (λ (x : List Step × List Part). IsLegalOrder (one_order z.slots x.0 x.1)) (λ i. (s.2 i, s.3 i)) (one_legal_order z s.0 h.within h.one s.1 (subst InTurns (sym s.2) h.turns))

-- ---- what steps that split and join nobody give

given : List Step → List Step → List (Answer ℕ)
given [] ds = []
given (s ∷ more) ds = desk_gives (more ++ ds) s ++ given more ds

given_is : (more ds : List Step) → desk_answers (more ++ ds) ≡ given more ds ++ desk_answers ds
unfolding given
given_is [] ds = refl
given_is (s ∷ more) ds = ap (λ (xs : List (Answer ℕ)). desk_gives (more ++ ds) s ++ xs) (given_is more ds) ∙ sym (append_assoc (desk_gives (more ++ ds) s) (given more ds) (desk_answers ds))

still_turns : (more ds : List Step) → NoTurns more → InTurns ds → is_split ds 1 ≡ false → InTurns (more ++ ds) × (is_split (more ++ ds) 1 ≡ false)
still_turns [] ds plain t f = (t, f)
still_turns (Split w r ∷ more) ds plain t f = absurd plain
still_turns (Join w r ∷ more) ds plain t f = absurd plain
still_turns (Start slot read ∷ more) ds plain t f = let x = still_turns more ds plain t f in (x, x.1)
still_turns (Reconfigure slot old new read ∷ more) ds plain t f = let x = still_turns more ds plain t f in (x, x.1)
still_turns (Close slot read ∷ more) ds plain t f = let x = still_turns more ds plain t f in (x, x.1)
still_turns (Peek slot read ∷ more) ds plain t f = let x = still_turns more ds plain t f in (x, x.1)
still_turns (Expire slot expected read ∷ more) ds plain t f = let x = still_turns more ds plain t f in (x, x.1)
still_turns (s ∷ more) ds plain t f = let x = still_turns more ds plain t f in ((x.0, tt), x.1)

nil_front : {A : Type 0} (xs ys : List A) → xs ++ ys ≡ [] → (xs ≡ []) × (ys ≡ [])
nil_front [] ys e = (refl, e)
nil_front (x ∷ xs) ys e = absurd cc

one_front : {A : Type 0} (xs ys : List A) (d : A) → xs ++ ys ≡ d ∷ [] → ((xs ≡ []) × (ys ≡ d ∷ [])) ⊎ ((xs ≡ d ∷ []) × (ys ≡ []))
one_front [] ys d e = inl (refl, e)
one_front {A} (x ∷ xs) ys d e = let a : x ≡ d = cc in let r : xs ++ ys ≡ [] = cc in let n = nil_front xs ys r in inr ((λ i. a i ∷ n.0 i), n.1)

gives_none : (slots : ℕ) (more ds : List Step) (ps : List Part) → NoTurns more → given more ds ≡ [] → one_order slots (more ++ ds) ps ≡ one_order slots ds ps
unfolding given
gives_none slots [] ds ps plain e = refl
gives_none slots (Split w r ∷ more) ds ps plain e = absurd plain
gives_none slots (Join w r ∷ more) ds ps plain e = absurd plain
gives_none slots (s ∷ more) ds ps plain e = let x = nil_front (desk_gives (more ++ ds) s) (given more ds) e in
    ap (λ (xs : List (Answer ℕ)). events_by 0 (config_at (more ++ ds)) xs ++ one_order slots (more ++ ds) ps) x.0 ∙ gives_none slots more ds ps plain x.1

-- the one answer, named by the rows as they stood when it was given
record GivesOne (slots : ℕ) (f : ℕ → ConfigParts) (more ds : List Step) (ps : List Part) (d : Answer ℕ) : Type 0 where
  named : ℕ → ConfigParts
  order : one_order slots (more ++ ds) ps ≡ record { by = 0; answer = with_configs named d } ∷ one_order slots ds ps
  sets : SetsSame f named d

gives_one : (z : TableSize) (f : ℕ → ConfigParts) (more ds : List Step) (ps : List Part) (d : Answer ℕ) → NoTurns more → DeskDid z (more ++ ds) → Agrees f (more ++ ds) → given more ds ≡ d ∷ [] → GivesOne z.slots f more ds ps d
unfolding given
gives_one z f [] ds ps d plain did agrees e = absurd cc
gives_one z f (Split w r ∷ more) ds ps d plain did agrees e = absurd plain
gives_one z f (Join w r ∷ more) ds ps d plain did agrees e = absurd plain
gives_one z f (s ∷ more) ds ps d plain did agrees e = let before = agrees_before z f (more ++ ds) s did.1 agrees in ⊎_elim
    (λ x. let rest = gives_one z f more ds ps d plain did.0 before x.1 in record {
      named = rest.named;
      order = ap (λ (xs : List (Answer ℕ)). events_by 0 (config_at (more ++ ds)) xs ++ one_order z.slots (more ++ ds) ps) x.0 ∙ rest.order;
      sets = rest.sets;
    })
    (λ x. let sets : AllSame f (config_at (more ++ ds)) (d ∷ []) = subst (AllSame f (config_at (more ++ ds))) x.0 (desk_all z f (more ++ ds) s did.0 did.1 before) in record {
      named = config_at (more ++ ds);
      order = ap (λ (xs : List (Answer ℕ)). events_by 0 (config_at (more ++ ds)) xs ++ one_order z.slots (more ++ ds) ps) x.0 ∙ ap (λ (h : List (Event ConfigParts)). record { by = 0; answer = with_configs (config_at (more ++ ds)) d } ∷ h) (gives_none z.slots more ds ps plain x.1);
      sets = sets.0;
    })
    (one_front (desk_gives (more ++ ds) s) (given more ds) d e)

pub calls_tell : CallsTell
calls_tell z ds ps more h plain schedule =
    let t = still_turns more ds plain h.turns h.free in
    let now : IsBetween z (more ++ ds) ps = record { within = h.within; one = h.one; turns = t.0; free = t.1; schedule = schedule } in
    let gave = λ (xs : List (Answer ℕ)) (e : desk_answers (more ++ ds) ≡ xs ++ desk_answers ds). append_cancel_right (given more ds) xs (desk_answers ds) (sym (given_is more ds) ∙ e) in record {
      between = now;
      nothing = λ e k. ap (λ (x : List (Event ConfigParts)). map_after x k) (gives_none z.slots more ds ps plain (gave [] e));
      answered = λ d e. let f = config_at (more ++ ds) in let x = gives_one z f more ds ps d plain (scheduled_did z (more ++ ds) ps now) (λ r c. refl) (gave (d ∷ []) e) in record {
        named = x.named;
        sets = x.sets;
        legal = (subst (AreLegal has_key) x.order (one_bound z (more ++ ds) ps now).legal).1;
        after = λ k. ap (λ (y : List (Event ConfigParts)). map_after y k) x.order ∙ sym (entry_same f x.named d k (map_after (one_order z.slots ds ps) k) x.sets);
      };
    }

-- ---- a turn

turned : (f : ℕ → ConfigParts) (h : List (Event ConfigParts)) (xs : List (Answer ℕ)) → AreLegal has_key (events_by 1 f xs ++ h) → HasTurned f (map_after h) (map_after (events_by 1 f xs ++ h)) xs
turned f h xs legal =
    let same = λ (ys : List (Answer ℕ)) (e : xs ≡ ys) (k : Key). ap (λ (l : List (Answer ℕ)). map_after (events_by 1 f l ++ h) k) e in
    let legal_as = λ (ys : List (Answer ℕ)) (e : xs ≡ ys). subst (λ (l : List (Answer ℕ)). AreLegal has_key (events_by 1 f l ++ h)) e legal in record {
      nothing = λ e k. same [] e k;
      missed_it = λ q e. ((legal_as (missed q ∷ []) e).1, λ k. same (missed q ∷ []) e k);
      saw = λ q k x r e. let l = (legal_as (seen q k x r ∷ []) e).1 in ((l.0.0, (l.0.1, l.0.2.0, l.0.2.1, l.1)), λ j. same (seen q k x r ∷ []) e j);
      drew_it = λ q k x r n s e. let ys : List (Answer ℕ) = drew k n s ∷ seen q k x r ∷ [] in let a = legal_as ys e in let l = a.0.1 in let d = a.1 in
          let b : Session ConfigParts = l.0.0 in let same_session : d.0 ≡ b = some_same (sym d.1 ∙ l.0.1) in
          ((b, (l.0.1, l.0.2.0, l.0.2.1, l.1), sym (ap (λ (y : Session ConfigParts). y.config) same_session) ∙ d.2.1, sym (ap (λ (y : Session ConfigParts). y.count % 2 ^ 32) same_session) ∙ d.2.0), λ j. same ys e j);
      never_late = λ q k x r e. let a = legal_as (late q ∷ seen q k x r ∷ []) e in let l = a.0.1 in true_ne_false (sym l.1 ∙ a.1 k l.0.0 l.0.1);
    }

joined_free : (b c : Bool) → c ≡ false → (not b && (b || c)) ≡ false
joined_free true c e = refl
joined_free false c e = e

pub turns_tell : TurnsTell
turns_tell z ds ps w n m xs h schedule =
    let now : List Step = after_turn ds w n m in let parts : List Part = turn_part ds w n xs ∷ ps in
    let between : IsBetween z now parts = record { within = h.within; one = h.one; turns = ((h.turns, tt), tt); free = joined_free (1 == w) (is_split ds 1) h.free; schedule = schedule } in
    (between, turned (config_at ds) (one_order z.slots ds ps) (worker_answers z.slots xs) (one_bound z now parts between).legal)
