-- What a client has behind an Accept-Session is sound again.
use Rattle.std.proofs.Common.{◌≡◌, ℕ, ◌+◌, ◌<◌, ◌≤◌, Bool, true, false, ◌&&◌, eqb, List, [], ◌∷◌, ◌++◌, length, Option, Some, None, refl, sym, ap, ◌∙◌, inl, inr, arith}
use Rattle.std.specs.Prelude.{cond}
use Rattle.std.specs.List.{filter, list_all, slice_get}
use Rattle.std.specs.Int.{w16, from_be_bytes}
use Rattle.octet_format.specs.Octets.{field}
use Rattle.std.proofs.lemmas.List.{length-append}
use Rattle.std.proofs.lemmas.List.Folds.{list_all-append}
use Rattle.std.proofs.lemmas.Option.{slice_get_within, slice_get_cases}
use Rattle.twamp_client.specs.declared.types.Wish.{Wish}
use Rattle.twamp_client.specs.declared.types.Grant.{Grant}
use Rattle.twamp_client.specs.declared.types.Grant.TheVariants.{Granted, Refused}
use Rattle.twamp_client.specs.declared.types.ClientState.{ClientState}
use Rattle.twamp_client.specs.declared.types.ClientState.TheVariants.{Accepting}
use Rattle.twamp_client.specs.Client.{ControlClient, FitsState, HoldsPart, IsSound, accept_in, answer_in, awaited, is_answer, is_granted, is_over, next_state}

next_fits : (w : Option Wish) (gs : List Grant) (n m : ℕ) → (w ≡ None → n ≡ m) → ((x : Wish) → w ≡ Some x → n < m) → FitsState (next_state w gs) n m
next_fits (Some w) gs n m none some = some w refl
next_fits None [] n m none some = none refl
next_fits None (g ∷ gs) n m none some = none refl

pub wish_fits : (wishes : List Wish) (gs : List Grant) (n : ℕ) → n ≤ length wishes → FitsState (next_state (slice_get wishes n) gs) n (length wishes)
wish_fits wishes gs n le = next_fits (slice_get wishes n) gs n (length wishes) none (λ x e. slice_get_within wishes n x e) where
  none : slice_get wishes n ≡ None → n ≡ length wishes
  none e = elim (slice_get_cases wishes n).1 [
    | inl (x, lt, found, same) ↦ let no : None ≡ Some x = sym e ∙ found in absurd cc
    | inr past ↦ omega (arith, past.0)
  ]

holds_none : (c : ControlClient) → c.held ≡ [] → (is_over c.state ≡ false → 0 < awaited c.state) → HoldsPart c
holds_none c e some = record { part = λ going. let lt = some going in omega (arith, ap length e); none = λ _. e }

next_awaits : (w : Option Wish) (gs : List Grant) → is_over (next_state w gs) ≡ false → 0 < awaited (next_state w gs)
next_awaits (Some w) gs going = omega arith
next_awaits None [] going = absurd cc
next_awaits None (g ∷ gs) going = omega arith

pub is_answer-answer_in : (octets : List ℕ) → is_answer (answer_in octets) ≡ true
is_answer-answer_in octets = either (from_be_bytes w16 (field 2 2 octets)) (field 4 16 octets) (accept_in octets) (eqb (accept_in octets) 0) where
  either : (port : ℕ) (sid : List ℕ) (accept : ℕ) (b : Bool) → is_answer (cond b (Granted port sid) (Refused accept)) ≡ true
  either port sid accept true = refl
  either port sid accept false = refl

pub sound_behind : (c : ControlClient) (a : Grant) (state : ClientState) → IsSound c → c.state ≡ Accepting → is_answer a ≡ true
    → state ≡ next_state (slice_get c.wishes (length (c.answers ++ a ∷ []))) (filter is_granted (c.answers ++ a ∷ []))
    → IsSound (record { mode = c.mode; wishes = c.wishes; answers = c.answers ++ a ∷ []; state = state; held = [] })
sound_behind c a state s at e is_next =
    let answers = c.answers ++ a ∷ [] in
    let w = slice_get c.wishes (length answers) in
    let gs = filter is_granted answers in
    let room : length c.answers < length c.wishes = fits_at c.state at s.fits in
    let len : length answers ≡ length c.answers + 1 = length-append c.answers (a ∷ []) in
    rw is_next (record {
      mode = s.mode;
      some = s.some;
      few = s.few;
      ports = s.ports;
      sized = s.sized;
      fits_mode = s.fits_mode;
      answers = list_all-append is_answer c.answers (a ∷ []) ∙ both (list_all is_answer c.answers) (is_answer a) s.answers e;
      fits = wish_fits c.wishes gs (length answers) (omega (arith, len));
      held = holds_none (record { mode = c.mode; wishes = c.wishes; answers = answers; state = next_state w gs; held = [] }) refl (next_awaits w gs);
    })
  where
    fits_at : (state : ClientState) → state ≡ Accepting → FitsState state (length c.answers) (length c.wishes) → length c.answers < length c.wishes
    fits_at Accepting e f = f
    fits_at state e f = absurd cc

    both : (x y : Bool) → x ≡ true → y ≡ true → (x && (y && true)) ≡ true
    both true true e f = refl
    both true false e f = absurd cc
    both false y e f = absurd cc
