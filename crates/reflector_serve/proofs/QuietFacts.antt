-- The ports at the opening, one after the other.
use Rattle.std.proofs.Common.{◌≡◌, ℕ, suc, ◌<◌, List, [], ◌∷◌, length, get_or, Option, Some, None, sym, refl, ap, ◌∙◌, subst, arith}
use Rattle.std.proofs.lemmas.List.{append-nil}
use Rattle.refl_types.specs.declared.types.Endpoint.{Endpoint}
use Rattle.net_io.specs.Log.{Grows}
use Rattle.net_io.specs.Port.{PortEntry, read}
use Rattle.reflector_serve.specs.Ports.{PortView, IsIdle, IsBound, Each, FirstTold}
use Rattle.reflector_serve.specs.Served.{IsQuiet, AllPorts}
use Rattle.reflector_serve.specs.Opening.{IsOpening}

pub all_ports : {P : Type 0} (First Rest : P → P → Type 0) (ps qs : List P) → length qs ≡ length ps → ((d : P) → 0 < length ps → First (get_or ps 0 d) (get_or qs 0 d))
    → ((i : ℕ) (d : P) → 0 < i → i < length ps → Rest (get_or ps i d) (get_or qs i d)) → AllPorts First Rest ps qs
all_ports First Rest [] [] e f g = refl
all_ports First Rest [] (q ∷ qs) e f g = absurd (omega (arith, e))
all_ports First Rest (p ∷ ps) [] e f g = absurd (omega (arith, e))
all_ports First Rest (p ∷ ps) (q ∷ qs) e f g = (f p (omega arith), all_ports Rest Rest ps qs (omega (arith, e)) (λ d some. g 1 d (omega arith) (omega (arith, some))) (λ i d some lt. g (suc i) d (omega arith) (omega (arith, lt))))

pub grows_none : {E : Type 0} (a b : Option (List E)) → b ≡ a → Grows a b []
grows_none {E} a b e = subst (λ (x : Option (List E)). Grows a x []) (sym e) (same a)
  where
    same : (x : Option (List E)) → Grows x x []
    same None = tt
    same (Some xs) = sym (append-nil xs)

module _ {P S : Type 0} (v : PortView P S) (moment : ℕ) (ps ts os : List P) (told : FirstTold v moment ps ts) where
  first_quiet : (d : P) → IsIdle v (get_or ts 0 d) (get_or os 0 d) → IsQuiet v (read moment ∷ []) (get_or ps 0 d) (get_or os 0 d)
  first_quiet d idle = let f = told.first d in record {
    log = subst (λ (x : Option (List PortEntry)). Grows ((v (get_or ps 0 d)).log) x (read moment ∷ [])) (sym idle.log) f.log;
    coming = idle.coming ∙ f.coming;
    made = idle.made ∙ f.made;
  }

  other_quiet : (i : ℕ) (d : P) → 0 < i → i < length ps → IsIdle v (get_or ts i d) (get_or os i d) → IsQuiet v [] (get_or ps i d) (get_or os i d)
  other_quiet i d some lt idle = let e = told.others i d some lt in record {
    log = grows_none ((v (get_or ps i d)).log) ((v (get_or os i d)).log) (idle.log ∙ ap (λ (p : _). (v p).log) e);
    coming = idle.coming ∙ ap (λ (p : _). (v p).coming) e;
    made = idle.made ∙ ap (λ (p : _). (v p).made) e;
  }

  pub all_quiet : Each (IsIdle v) ts os → AllPorts (IsQuiet v (read moment ∷ [])) (IsQuiet v []) ps os
  all_quiet each = let l = told.len in all_ports (IsQuiet v (read moment ∷ [])) (IsQuiet v []) ps os (each.len ∙ told.len)
      (λ d some. first_quiet d (each.each 0 d (omega (arith, some, l))))
      (λ i d some lt. other_quiet i d some lt (each.each i d (omega (arith, lt, l))))

  pub all_opening : (locals : List Endpoint) → Each (IsBound v locals) ts os → AllPorts (IsOpening v locals (read moment ∷ [])) (IsOpening v locals []) ps os
  all_opening locals each = let l = told.len in all_ports (IsOpening v locals (read moment ∷ [])) (IsOpening v locals []) ps os (each.len ∙ told.len)
      (λ d some. let b = each.each 0 d (omega (arith, some, l)) in record { quiet = first_quiet d b.idle; bound = b.bound; still = b.still ∙ (told.first d).still })
      (λ i d some lt. let b = each.each i d (omega (arith, lt, l)) in record { quiet = other_quiet i d some lt b.idle; bound = b.bound; still = b.still ∙ ap (λ (p : _). (v p).faults) (told.others i d some lt) })
