-- Ports that are opened one after the other.
use Rattle.std.proofs.Common.{◌≡◌, ◌⊎◌, ⊎_elim, ℕ, suc, ◌+◌, ◌<◌, ◌≤◌, List, ◌∷◌, length, get_or, set, Result, Ok, Err, OnErr, sym, refl, ap, ◌∙◌, subst, arith}
use Rattle.std.proofs.lemmas.Bool.{cases_order}
use Rattle.std.proofs.lemmas.List.{length-set, get_or-set_same, get_or-set_other, get_or_default}
use Rattle.refl_types.specs.declared.types.Endpoint.{Endpoint}
use Rattle.port_io.specs.declared.outside.Failed.{Failed}
use Rattle.port_io.specs.Outside.{Rises}
use Rattle.reflector_serve.specs.Ports.{PortView, IsIdle, IsBound, Each, OneFails}

pub idle_still : {P S : Type 0} (v : PortView P S) (p q : P) → q ≡ p → IsIdle v p q
idle_still v p q e = record { log = ap (λ (p : _). (v p).log) e; coming = ap (λ (p : _). (v p).coming) e; made = ap (λ (p : _). (v p).made) e }

-- so many of the ports share the local addresses, and the others are as they were
pub record Sharing {P S : Type 0} (v : PortView P S) (locals : List Endpoint) (n : ℕ) (ps qs : List P) : Type 0 where
  pub len : length qs ≡ length ps
  pub shared : (i : ℕ) (d : P) → i < n → IsBound v locals (get_or ps i d) (get_or qs i d)
  pub rest : (i : ℕ) (d : P) → n ≤ i → get_or qs i d ≡ get_or ps i d

-- at the place n stands x now, which came of what stood there
module _ {P S : Type 0} (v : PortView P S) (locals : List Endpoint) (n : ℕ) (ps qs : List P) (d0 x : P) (s : Sharing v locals n ps qs) (inside : n < length qs) where
  was : (d : P) → get_or qs n d0 ≡ get_or ps n d
  was d = get_or_default qs n d0 d inside ∙ s.rest n d (omega arith)

  is : (i : ℕ) (d : P) → i ≡ n → x ≡ get_or (set qs n x) i d
  is i d e = sym (get_or-set_same qs n x d inside) ∙ ap (λ (j : ℕ). get_or (set qs n x) j d) (sym e)

  other : (i : ℕ) (d : P) → (i ≡ n → ⊥) → get_or qs i d ≡ get_or (set qs n x) i d
  other i d m = sym (get_or-set_other qs n i x d m)

  -- what holds of this place and of those before and after it
  at_each : (R : P → P → Type 0) → R (get_or qs n d0) x → ((i : ℕ) (d : P) → i < n → R (get_or ps i d) (get_or qs i d)) → (i : ℕ) (d : P) → (i < n + 1) → R (get_or ps i d) (get_or (set qs n x) i d)
  at_each R here before i d lt = ⊎_elim
      (λ (e : i ≡ n). subst (λ (y : P). R y (get_or (set qs n x) i d)) (was d ∙ ap (λ (j : ℕ). get_or ps j d) (sym e)) (subst (λ (y : P). R (get_or qs n d0) y) (is i d e) here))
      (λ (m : (i < n) ⊎ (n < i)). ⊎_elim
      (λ (l : i < n). subst (λ (y : P). R (get_or ps i d) y) (other i d (λ e. omega (arith, l, e))) (before i d l))
      (λ (l : n < i). absurd (omega (arith, l, lt)))
      m)
      (cases_order i n)

  pub share_more : IsBound v locals (get_or qs n d0) x → Sharing v locals (n + 1) ps (set qs n x)
  share_more h = record {
    len = length-set qs n x ∙ s.len;
    shared = at_each (IsBound v locals) h s.shared;
    rest = λ i d le. sym (other i d (λ e. omega (arith, le, e))) ∙ s.rest i d (omega (arith, le));
  }

  pub share_failed : IsIdle v (get_or qs n d0) x → Each (IsIdle v) ps (set qs n x)
  share_failed h = record {
    len = length-set qs n x ∙ s.len;
    each = λ i d lt. ⊎_elim
        (λ (e : i ≡ n). at_each (IsIdle v) h (λ j c l. (s.shared j c l).idle) i d (omega (arith, e)))
        (λ (m : (i < n) ⊎ (n < i)). ⊎_elim
        (λ (l : i < n). at_each (IsIdle v) h (λ j c k. (s.shared j c k).idle) i d (omega (arith, l)))
        (λ (l : n < i). idle_still v (get_or ps i d) (get_or (set qs n x) i d) (sym (other i d (λ e. omega (arith, l, e))) ∙ s.rest i d (omega (arith, l))))
        m)
        (cases_order i n);
  }

  pub one_fails : Rises ((v (get_or qs n d0)).faults) (v x).faults → OneFails v ps (set qs n x)
  one_fails h = record {
    place = n;
    inside = (let l = s.len in omega (arith, inside, l));
    rises = λ d. subst (λ (y : P). Rises (v y).faults ((v (get_or (set qs n x) n d)).faults)) (was d) (subst (λ (y : P). Rises ((v (get_or qs n d0)).faults) (v y).faults) (is n d refl) h);
  }

-- a port behind the first fails
pub later_fails : {P S : Type 0} (v : PortView P S) (r : Result (Unit {0}) Failed) (ps os os' : List P) (p q : P) → ps ≡ p ∷ os → OnErr r (OneFails v os os') → OnErr r (OneFails v ps (q ∷ os'))
later_fails v (Ok u) ps os os' p q e h = tt
later_fails {P} v (Err f) ps os os' p q e h = subst (λ (xs : List P). OneFails v xs (q ∷ os')) (sym e) (record { place = suc h.place; inside = (let l = h.inside in omega (arith, l)); rises = h.rises })

pub on_err : {A : Type 0} (r : Result (Unit {0}) Failed) → A → OnErr r A
on_err (Ok u) a = tt
on_err (Err f) a = a
