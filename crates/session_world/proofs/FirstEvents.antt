-- Where all workers' events come after the desk's first answers, these stand at the beginning of the history.
use Rattle.std.proofs.Common.{◌≡◌, ℕ, zero, suc, ◌<◌, ◌≤◌, ◌==◌, Bool, true, false, if◌then◌else◌, List, [], ◌∷◌, ◌++◌, length, Option, sym, refl, ap, ◌∙◌, subst, arith, eq-eqb, ne_eqb, take}
use Rattle.session_world.specs.Keys.{ConfigParts}
use Rattle.session_world.specs.Answers.{Answer, opened}
use Rattle.session_world.specs.History.{Event}
use Rattle.session_world.specs.Explains.{with_wrapped_counts, answers_in, desk_count, desk_events_before, AllWithin}
use Rattle.session_world.specs.Joined.{IsOpening, AreOpenings}

-- the event of that actor
abbrev event : ℕ → Answer ConfigParts → Event ConfigParts
event b x = record { by = b; answer = x }

abbrev pub desk_events : List (Answer ConfigParts) → List (Event ConfigParts)
desk_events [] = []
desk_events (d ∷ xs) = event 0 d ∷ desk_events xs

abbrev pub AllFrom : ℕ → List ℕ → Type 0
AllFrom n [] = Unit {0}
AllFrom n (m ∷ ms) = (n ≤ m) × AllFrom n ms

-- each worker's events come after n of the desk's
abbrev pub AreLate : ℕ → List (Event ConfigParts) → Type 0
AreLate n h = (w : ℕ) → AllFrom n (desk_events_before (suc w) h)

from_tail : (c : Bool) (n m : ℕ) (ms : List ℕ) → AllFrom n (if c then m ∷ ms else ms) → AllFrom n ms
from_tail true n m ms a = a.1
from_tail false n m ms a = a

late_tail : (n b : ℕ) (x : Answer ConfigParts) (h : List (Event ConfigParts)) → AreLate n (event b x ∷ h) → AreLate n h
late_tail n b x h late w = from_tail (suc w == b) n (desk_count h) (desk_events_before (suc w) h) (late w)

late_head : (n v : ℕ) (x : Answer ConfigParts) (h : List (Event ConfigParts)) → AreLate n (event (suc v) x ∷ h) → n ≤ desk_count h
late_head n v x h late = (subst (λ (c : Bool). AllFrom n (if c then desk_count h ∷ desk_events_before (suc v) h else desk_events_before (suc v) h)) (eq-eqb (suc v) (suc v) refl) (late v)).0

abbrev first_of : Answer ConfigParts → List (Answer ConfigParts) → Answer ConfigParts
first_of a [] = a
first_of a (x ∷ xs) = x

abbrev rest_of : List (Answer ConfigParts) → List (Answer ConfigParts)
rest_of [] = []
rest_of (x ∷ xs) = xs

-- only an opening is one, whatever is done with counts
unwrapped : (a o : Answer ConfigParts) → IsOpening o → with_wrapped_counts a ≡ o → a ≡ o
unwrapped (opened k x c) o is e = e
unwrapped a o is e = absurd (subst (λ (d : Answer ConfigParts). IsOpening d) (sym e) is)

count_more : (c : Bool) (n : ℕ) (gs : List (Answer ConfigParts)) (a : Answer ConfigParts) → n ≡ length gs → (if c then suc n else n) ≡ length (if c then a ∷ gs else gs)
count_more true n gs a e = ap suc e
count_more false n gs a e = e

-- as many events of the desk as it has answers
count_is : (h : List (Event ConfigParts)) → desk_count h ≡ length (answers_in 0 h)
count_is [] = refl
count_is (e ∷ h) = count_more (0 == e.by) (desk_count h) (answers_in 0 h) (with_wrapped_counts e.answer) (count_is h)

before_more : (c : Bool) (n : ℕ) (ns : List ℕ) (gs : List (Answer ConfigParts)) (a : Answer ConfigParts) → length ns ≡ length gs → length (if c then n ∷ ns else ns) ≡ length (if c then a ∷ gs else gs)
before_more true n ns gs a e = ap suc e
before_more false n ns gs a e = e

pub before_is : (a : ℕ) (h : List (Event ConfigParts)) → length (desk_events_before a h) ≡ length (answers_in a h)
before_is a [] = refl
before_is a (e ∷ h) = before_more (a == e.by) (desk_count h) (desk_events_before a h) (answers_in a h) (with_wrapped_counts e.answer) (before_is a h)

none_left : (os : List (Answer ConfigParts)) → [] ≡ os → [] ≡ desk_events os
none_left [] e = refl
none_left (o ∷ os) e = absurd (let n = ap length e in omega (arith, n))

not_desk : (v : ℕ) → (0 == suc v) ≡ false
not_desk v = ne_eqb 0 (suc v) (λ (e : 0 ≡ suc v). omega (arith, e))

same_count : (v : ℕ) (x : Answer ConfigParts) (h : List (Event ConfigParts)) → desk_count (event (suc v) x ∷ h) ≡ desk_count h
same_count v x h = let f : Bool → ℕ = (λ (c : Bool). if c then suc (desk_count h) else desk_count h) in ap f (not_desk v)

same_answers : (v : ℕ) (x : Answer ConfigParts) (h : List (Event ConfigParts)) → answers_in 0 (event (suc v) x ∷ h) ≡ answers_in 0 h
same_answers v x h = let f : Bool → List (Answer ConfigParts) = (λ (c : Bool). if c then with_wrapped_counts x ∷ answers_in 0 h else answers_in 0 h) in ap f (not_desk v)

-- h is just these openings where its answers of the desk are
abbrev JustOpens : List (Event ConfigParts) → Type 0
JustOpens h = (os : List (Answer ConfigParts)) → AreOpenings os → answers_in 0 h ≡ os → h ≡ desk_events os

desk_opens : (x : Answer ConfigParts) (h : List (Event ConfigParts)) (os : List (Answer ConfigParts)) → AreOpenings os → JustOpens h → (with_wrapped_counts x ∷ answers_in 0 h) ≡ os → (event 0 x ∷ h) ≡ desk_events os
desk_opens x h [] are rest e = absurd (let l = ap length e in omega (arith, l))
desk_opens x h (o ∷ os) are rest e =
    ap (λ (a : Answer ConfigParts). event 0 a ∷ h) (unwrapped x o are.0 (ap (first_of x) e))
    ∙ ap (λ (t : List (Event ConfigParts)). event 0 o ∷ t) (rest os are.1 (ap rest_of e))

by_actor : (n b : ℕ) (x : Answer ConfigParts) (h : List (Event ConfigParts)) → desk_count (event b x ∷ h) < n → AreLate n (event b x ∷ h) → JustOpens h → JustOpens (event b x ∷ h)
by_actor n zero x h few late rest os are e = desk_opens x h os are rest e
by_actor n (suc v) x h few late rest os are e = absurd (let m = late_head n v x h late in let k = same_count v x h in omega (arith, m, few, k))

fewer : (n b : ℕ) (x : Answer ConfigParts) (h : List (Event ConfigParts)) → desk_count (event b x ∷ h) < n → desk_count h < n
fewer n zero x h few = omega (arith, few)
fewer n (suc v) x h few = let k = same_count v x h in omega (arith, few, k)

-- fewer events of the desk than the workers come after: nobody else has any
all_openings : (n : ℕ) (h : List (Event ConfigParts)) → desk_count h < n → AreLate n h → JustOpens h
all_openings n [] few late = λ os are e. none_left os e
all_openings n (e ∷ h) few late = by_actor n e.by e.answer h few late (all_openings n h (fewer n e.by e.answer h few) (late_tail n e.by e.answer h late))

-- the history begins with the openings where the desk's answers do
abbrev StartsWith : List (Answer ConfigParts) → List (Event ConfigParts) → Type 0
StartsWith os h = (before : List (Answer ConfigParts)) → answers_in 0 h ≡ before ++ os → (later : List (Event ConfigParts)) × (h ≡ later ++ desk_events os)

desk_first : (n : ℕ) (x : Answer ConfigParts) (h : List (Event ConfigParts)) (os : List (Answer ConfigParts)) → AreOpenings os → AreLate n h → length os ≡ n → StartsWith os h
    → (before : List (Answer ConfigParts)) → (with_wrapped_counts x ∷ answers_in 0 h) ≡ before ++ os → (later : List (Event ConfigParts)) × ((event 0 x ∷ h) ≡ later ++ desk_events os)
desk_first n x h os are late l rest (a ∷ before) e = let r = rest before (ap rest_of e) in (event 0 x ∷ r.0, ap (λ (t : List (Event ConfigParts)). event 0 x ∷ t) r.1)
desk_first n x h os are late l rest [] e =
    let few : desk_count h < n = (let c = count_is h in let m = ap length e in omega (arith, c, m, l)) in
    ([], desk_opens x h os are (all_openings n h few late) e)

first_by : (n b : ℕ) (x : Answer ConfigParts) (h : List (Event ConfigParts)) (os : List (Answer ConfigParts)) → AreOpenings os → AreLate n (event b x ∷ h) → length os ≡ n → StartsWith os h → StartsWith os (event b x ∷ h)
first_by n zero x h os are late l rest before e = desk_first n x h os are (late_tail n 0 x h late) l rest before e
first_by n (suc v) x h os are late l rest before e = let r = rest before (sym (same_answers v x h) ∙ e) in (event (suc v) x ∷ r.0, ap (λ (t : List (Event ConfigParts)). event (suc v) x ∷ t) r.1)

nothing_before : (before os : List (Answer ConfigParts)) → [] ≡ before ++ os → [] ≡ desk_events os
nothing_before [] os e = none_left os e
nothing_before (a ∷ before) os e = absurd (let n = ap length e in omega (arith, n))

pub starts_with : (n : ℕ) (h : List (Event ConfigParts)) (os : List (Answer ConfigParts)) → AreOpenings os → AreLate n h → length os ≡ n → StartsWith os h
starts_with n [] os are late l = λ before e. ([], nothing_before before os e)
starts_with n (e ∷ h) os are late l = first_by n e.by e.answer h os are late l (starts_with n h os are (late_tail n e.by e.answer h late) l)

-- all that stand within a span that begins late are late
pub within_late : (n f k : ℕ) (t : Option ℕ) (ms : List ℕ) → n ≤ f → length ms ≡ k → AllWithin f t (take k ms) → AllFrom n ms
within_late n f k t [] le e a = tt
within_late n f zero t (m ∷ ms) le e a = absurd (omega (arith, e))
within_late n f (suc k) t (m ∷ ms) le e a = (omega (arith, le, a.0), within_late n f k t ms le (omega (arith, e)) a.2)
