-- Where a connection stands, and lists without it.
use Rattle.std.proofs.Common.{◌≡◌, ℕ, zero, suc, ◌+◌, ◌<◌, eqb, Bool, true, false, List, [], ◌∷◌, ◌++◌, length, take, drop, get_or, set, Option, Some, None, refl, sym, ap, ◌∙◌, arith, subst}
use Rattle.std.proofs.lemmas.Bool.{eqb-true}
use Rattle.std.specs.Option.{is_some}
use Rattle.std.specs.List.{remove}
use Rattle.control_desk.specs.declared.sides.OpenConnection.{OpenConnection}
use Rattle.control_desk.specs.declared.sides.Side.{Side}
use Rattle.control_desk.specs.State.{DeskState, side_in, leave_out, put_side, with_side, without, is_over}
use Rattle.control_desk.specs.Plan.{Plan}
use Rattle.control_desk.specs.declared.counts.Verdict.{Verdict}
use Rattle.control_desk.specs.declared.counts.Verdict.TheVariants.{GoesOn, Over, Quits}
use Rattle.refl_types.proofs.SameFacts.{eqb-same}
use Rattle.control_desk.specs.Connections.{index_from, settled_side}
use Rattle.control_desk.specs.Run.{has, behind_event}
use Rattle.control_desk.proofs.Choices.{if_true, if_false}

-- the first connection of that number stands there
pub record Found (l : List OpenConnection) (n k : ℕ) : Type 0 where
  pub within : k < length l
  pub number : (d : OpenConnection) → (get_or l k d).number ≡ n
  pub side : (d : OpenConnection) → side_in l n ≡ Some (get_or l k d).side
  pub gone : leave_out l n ≡ remove l k
  pub put : (side : Side) → put_side l n side ≡ set l k (record { number = n; side = side })

found_head : (n : ℕ) (c : OpenConnection) (l : List OpenConnection) → eqb c.number n ≡ true → Found (c ∷ l) n zero
found_head n c l e = record {
  within = omega arith;
  number = λ d. eqb-true c.number n e;
  side = λ d. if_true _ (Some c.side) (side_in l n) e;
  gone = if_true _ l (c ∷ leave_out l n) e;
  put = λ side. if_true _ (record { number = n; side = side } ∷ l) (c ∷ put_side l n side) e;
}

found_tail : (n k : ℕ) (c : OpenConnection) (l : List OpenConnection) → eqb c.number n ≡ false → Found l n k → Found (c ∷ l) n (suc k)
found_tail n k c l e h = record {
  within = omega (arith, h.within);
  number = h.number;
  side = λ d. if_false _ (Some c.side) (side_in l n) e ∙ h.side d;
  gone = if_false _ l (c ∷ leave_out l n) e ∙ ap (λ (r : List OpenConnection). c ∷ r) h.gone;
  put = λ side. if_false _ (record { number = n; side = side } ∷ l) (c ∷ put_side l n side) e ∙ ap (λ (r : List OpenConnection). c ∷ r) (h.put side);
}

abbrev pub IsAt : ℕ → List OpenConnection → ℕ → ℕ → Type 0
IsAt i l n j = (k : ℕ) × (j ≡ i + k) × Found l n k

same_some : (i j : ℕ) → Some i ≡ Some j → i ≡ j
same_some i j h = cc

at_one : (t : Bool) (i : ℕ) (c : OpenConnection) (l : List OpenConnection) (n j : ℕ) → eqb c.number n ≡ t → (index_from (i + 1) l n ≡ Some j → IsAt (i + 1) l n j) → index_from i (c ∷ l) n ≡ Some j → IsAt i (c ∷ l) n j
at_one true i c l n j e h k =
    let same : i ≡ j = same_some i j (sym (if_true _ (Some i) (index_from (i + 1) l n) e) ∙ k) in
    (0, omega (arith, same), found_head n c l e)
at_one false i c l n j e h k =
    let r = h (sym (if_false _ (Some i) (index_from (i + 1) l n) e) ∙ k) in
    (suc r.0, omega (arith, r.1), found_tail n r.0 c l e r.2)

at_index : (i : ℕ) (l : List OpenConnection) (n j : ℕ) → index_from i l n ≡ Some j → IsAt i l n j
at_index i [] n j h = absurd cc
at_index i (c ∷ l) n j h = at_one (eqb c.number n) i c l n j refl (at_index (i + 1) l n j) h

pub found_at : (l : List OpenConnection) (n j : ℕ) → index_from 0 l n ≡ Some j → Found l n j
found_at l n j h = let r = at_index 0 l n j h in let e : r.0 ≡ j = omega (arith, r.1) in subst (λ (k : ℕ). Found l n k) e r.2

none_one : (t : Bool) (i : ℕ) (c : OpenConnection) (l : List OpenConnection) (n : ℕ) → eqb c.number n ≡ t → (index_from (i + 1) l n ≡ None → side_in l n ≡ None) → index_from i (c ∷ l) n ≡ None → side_in (c ∷ l) n ≡ None
none_one true i c l n e h k = let same : Some i ≡ None = sym (if_true _ (Some i) (index_from (i + 1) l n) e) ∙ k in absurd cc
none_one false i c l n e h k = if_false _ (Some c.side) (side_in l n) e ∙ h (sym (if_false _ (Some i) (index_from (i + 1) l n) e) ∙ k)

pub none_at : (i : ℕ) (l : List OpenConnection) (n : ℕ) → index_from i l n ≡ None → side_in l n ≡ None
none_at i [] n h = refl
none_at i (c ∷ l) n h = none_one (eqb c.number n) i c l n refl (none_at (i + 1) l n) h

has_as : (o : Option ℕ) (d : OpenConnection) (l : List OpenConnection) (n : ℕ) → index_from 0 l n ≡ o → is_some o ≡ has (side_in l n)
has_as None d l n h = ap has (sym (none_at 0 l n h))
has_as (Some j) d l n h = ap has (sym ((found_at l n j h).side d))

has_of : (l : List OpenConnection) (n : ℕ) → is_some (index_from 0 l n) ≡ has (side_in l n)
has_of [] n = refl
has_of (c ∷ l) n = has_as (index_from 0 (c ∷ l) n) c (c ∷ l) n refl

pub has_same : (l : List OpenConnection) (n : ℕ) → is_some (index_from 0 l n) ≡ has (side_in l n)
has_same l n = has_of l n

-- a connection that is left out needn't be kept up to date before
leave_put_one : (t : Bool) (n : ℕ) (c : OpenConnection) (cs : List OpenConnection) (side : Side) → eqb c.number n ≡ t → leave_out (put_side cs n side) n ≡ leave_out cs n
    → leave_out (put_side (c ∷ cs) n side) n ≡ leave_out (c ∷ cs) n
leave_put_one true n c cs side e h =
    ap (λ (r : List OpenConnection). leave_out r n) (if_true _ (record { number = n; side = side } ∷ cs) (c ∷ put_side cs n side) e)
    ∙ if_true _ cs (record { number = n; side = side } ∷ leave_out cs n) (eqb-same n) ∙ sym (if_true _ cs (c ∷ leave_out cs n) e)
leave_put_one false n c cs side e h =
    ap (λ (r : List OpenConnection). leave_out r n) (if_false _ (record { number = n; side = side } ∷ cs) (c ∷ put_side cs n side) e)
    ∙ if_false _ (put_side cs n side) (c ∷ leave_out (put_side cs n side) n) e ∙ ap (λ (r : List OpenConnection). c ∷ r) h ∙ sym (if_false _ cs (c ∷ leave_out cs n) e)

pub leave_put : (n : ℕ) (cs : List OpenConnection) (side : Side) → leave_out (put_side cs n side) n ≡ leave_out cs n
leave_put n [] side = refl
leave_put n (c ∷ cs) side = leave_put_one (eqb c.number n) n c cs side refl (leave_put n cs side)

-- one removed where another was put is as if none had been put
pub remove_set : (l : List OpenConnection) (k : ℕ) (x : OpenConnection) → remove (set l k x) k ≡ remove l k
remove_set [] k x = refl
remove_set (c ∷ l) zero x = refl
remove_set (c ∷ l) (suc k) x = ap (λ (r : List OpenConnection). c ∷ r) (remove_set l k x)

pub behind_going : (more : DeskState → Plan) (v : Verdict) (n : ℕ) (side : Side) (s t : DeskState) → is_over v ≡ false → with_side s n side ≡ t
    → behind_event more v (settled_side v n side s) ≡ behind_event more v t
behind_going more GoesOn n side s t h e = ap more e
behind_going more Over n side s t h e = absurd cc
behind_going more Quits n side s t h e = refl

pub behind_over : (more : DeskState → Plan) (v : Verdict) (n : ℕ) (side : Side) (s t : DeskState) → is_over v ≡ true → without s n ≡ t
    → behind_event more v (settled_side v n side s) ≡ behind_event more v t
behind_over more GoesOn n side s t h e = absurd cc
behind_over more Over n side s t h e = ap more e
behind_over more Quits n side s t h e = absurd cc

pub no_side : (o : Option Side) → has o ≡ false → o ≡ None
no_side None h = refl
no_side (Some side) h = absurd cc

pub some_side : (o : Option Side) → has o ≡ true → (side : Side) × (o ≡ Some side)
some_side None h = absurd cc
some_side (Some side) h = (side, refl)

-- ---- a list without the connection at an index

pub take_remove : (l : List OpenConnection) (i : ℕ) → i < length l → take i (remove l i) ≡ take i l
take_remove [] i h = absurd (omega arith)
take_remove (c ∷ l) zero h = refl
take_remove (c ∷ l) (suc i) h = ap (λ (r : List OpenConnection). c ∷ r) (take_remove l i (omega (arith, h)))

next_drop : (l : List OpenConnection) (i : ℕ) → drop (suc i) l ≡ drop (i + 1) l
next_drop l i = let e : suc i ≡ i + 1 = omega arith in ap (λ (k : ℕ). drop k l) e

removed : (l : List OpenConnection) (i : ℕ) → i < length l → drop i (remove l i) ≡ drop (suc i) l
removed [] i h = absurd (omega arith)
removed (c ∷ l) zero h = refl
removed (c ∷ l) (suc i) h = removed l i (omega (arith, h))

pub drop_remove : (l : List OpenConnection) (i : ℕ) → i < length l → drop i (remove l i) ≡ drop (i + 1) l
drop_remove l i h = removed l i h ∙ next_drop l i

taken : (l : List OpenConnection) (i : ℕ) (d : OpenConnection) → i < length l → take i l ++ get_or l i d ∷ [] ≡ take (suc i) l
taken [] i d h = absurd (omega arith)
taken (c ∷ l) zero d h = refl
taken (c ∷ l) (suc i) d h = ap (λ (r : List OpenConnection). c ∷ r) (taken l i d (omega (arith, h)))

pub take_more : (l : List OpenConnection) (i : ℕ) (d : OpenConnection) → i < length l → take i l ++ get_or l i d ∷ [] ≡ take (i + 1) l
take_more l i d h = let e : suc i ≡ i + 1 = omega arith in taken l i d h ∙ ap (λ (k : ℕ). take k l) e

pub length_remove : (l : List OpenConnection) (i : ℕ) → i < length l → length (remove l i) + 1 ≡ length l
length_remove [] i h = absurd (omega arith)
length_remove (c ∷ l) zero h = omega arith
length_remove (c ∷ l) (suc i) h = omega (arith, length_remove l i (omega (arith, h)))
