-- Ports beyond the last worker.
use Rattle.std.proofs.Common.{◌≡◌, ℕ, zero, suc, ◌<◌, List, [], ◌∷◌, ◌++◌, length, get_or, sym, refl, ap, subst, arith, length-append}
use Rattle.std.proofs.lemmas.List.{get_or_append_left}
use Rattle.refl_types.specs.declared.types.Endpoint.{Endpoint}
use Rattle.refl_types.specs.declared.config.ConfigParts.{ConfigParts}
use Rattle.port_io.specs.Outside.{Rises}
use Rattle.net_io.specs.Port.{PortEntry, read}
use Rattle.session_world.specs.declared.steps.Step.{Step}
use Rattle.session_rule.specs.declared.seats.Table.{Table}
use Rattle.conf_text.specs.File.{File}
use Rattle.reflector_serve.specs.declared.post.Post.{Post}
use Rattle.receive_worker.specs.declared.tally.Tally.{Tally}
use Rattle.reflector_serve.specs.Ports.{PortView, IsBound, Each, OneFails, FirstTold}
use Rattle.reflector_serve.specs.Posts.{AllSeated, AreSeated, AreFresh, AllReady, AreReady}
use Rattle.reflector_serve.specs.Served.{IsQuiet, AllPorts, AreQuiet, AllServed}
use Rattle.reflector_serve.proofs.QuietFacts.{grows_none}

-- ---- the ports beyond the last worker are as they were

pub wide_served : {P S : Type 0} (v : PortView P S) (t : Table) (f : File) (config : ℕ → ConfigParts) (told : List PortEntry) (ps qs rest : List P) (lists : List (List Step)) (ys : List Tally)
    → AllServed v t f config told ps qs lists ys → AllServed v t f config told (ps ++ rest) (qs ++ rest) lists ys
wide_served {P} v t f config told ps qs rest [] [] a = ap (λ (xs : List P). xs ++ rest) a
wide_served v t f config told (p ∷ ps) (q ∷ qs) rest (xs ∷ lists) (y ∷ ys) a = (a.0, wide_served v t f config [] ps qs rest lists ys a.1)
wide_served v t f config told [] qs rest (xs ∷ lists) (y ∷ ys) a = absurd a
wide_served v t f config told (p ∷ ps) [] rest (xs ∷ lists) (y ∷ ys) a = absurd a
wide_served v t f config told ps qs rest [] (y ∷ ys) a = absurd a
wide_served v t f config told [] qs rest (xs ∷ lists) [] a = absurd a
wide_served v t f config told (p ∷ ps) [] rest (xs ∷ lists) [] a = absurd a
wide_served v t f config told (p ∷ ps) (q ∷ qs) rest (xs ∷ lists) [] a = absurd a

quiet_self : {P S : Type 0} (v : PortView P S) (rest : List P) → AllPorts (IsQuiet v []) (IsQuiet v []) rest rest
quiet_self v [] = refl
quiet_self v (r ∷ rest) = (record { log = grows_none (v r).log (v r).log refl; coming = refl; made = refl }, quiet_self v rest)

wide_rest : {P S : Type 0} (v : PortView P S) (ps qs rest : List P) → AllPorts (IsQuiet v []) (IsQuiet v []) ps qs → AllPorts (IsQuiet v []) (IsQuiet v []) (ps ++ rest) (qs ++ rest)
wide_rest {P} v [] qs rest a = subst (λ (xs : List P). AllPorts (IsQuiet v []) (IsQuiet v []) rest (xs ++ rest)) (sym a) (quiet_self v rest)
wide_rest v (p ∷ ps) (q ∷ qs) rest a = (a.0, wide_rest v ps qs rest a.1)
wide_rest v (p ∷ ps) [] rest a = absurd a

wide_all : {P S : Type 0} (v : PortView P S) (told : List PortEntry) (ps qs rest : List P) → 0 < length ps → AllPorts (IsQuiet v told) (IsQuiet v []) ps qs → AllPorts (IsQuiet v told) (IsQuiet v []) (ps ++ rest) (qs ++ rest)
wide_all v told [] qs rest some a = absurd (omega (arith, some))
wide_all v told (p ∷ ps) (q ∷ qs) rest some a = (a.0, wide_rest v ps qs rest a.1)
wide_all v told (p ∷ ps) [] rest some a = absurd a

pub wide_quiet : {P S : Type 0} (v : PortView P S) (ps qs rest : List P) → 0 < length ps → AreQuiet v ps qs → AreQuiet v (ps ++ rest) (qs ++ rest)
wide_quiet v ps qs rest some a = record { moment = a.moment; quiet = wide_all v (read a.moment ∷ []) ps qs rest some a.quiet }

ports_length : {P : Type 0} (First Rest : P → P → Type 0) (ps qs : List P) → AllPorts First Rest ps qs → length qs ≡ length ps
ports_length First Rest [] qs a = ap length a
ports_length First Rest (p ∷ ps) (q ∷ qs) a = ap suc (ports_length Rest Rest ps qs a.1)
ports_length First Rest (p ∷ ps) [] a = absurd a

pub wide_fails : {P S : Type 0} (v : PortView P S) (ps qs rest : List P) → AreQuiet v ps qs → OneFails v ps qs → OneFails v (ps ++ rest) (qs ++ rest)
wide_fails {P} v ps qs rest quiet o = let n = o.inside in let same = ports_length _ _ ps qs quiet.quiet in record {
  place = o.place;
  inside = (let l = length-append ps rest in omega (arith, n, l));
  rises = λ d. subst (λ (y : P). Rises (v y).faults ((v (get_or (qs ++ rest) o.place d)).faults)) (sym (get_or_append_left ps rest d o.place n))
      (subst (λ (y : P). Rises ((v (get_or ps o.place d)).faults) (v y).faults) (sym (get_or_append_left qs rest d o.place (omega (arith, n, same)))) (o.rises d));
}

-- ---- a port that fails at the opening

pub fails_since : {P S : Type 0} (v : PortView P S) (moment : ℕ) (ps ts os : List P) → FirstTold v moment ps ts → OneFails v ts os → OneFails v ps os
fails_since v moment ps ts os told o = let n = o.inside in let l = told.len in record {
  place = o.place;
  inside = omega (arith, n, l);
  rises = λ d. subst (λ (m : ℕ). Rises m ((v (get_or os o.place d)).faults)) (still o.place d (omega (arith, n, l))) (o.rises d);
}
  where
    still : (i : ℕ) (d : _) → i < length ps → (v (get_or ts i d)).faults ≡ (v (get_or ps i d)).faults
    still zero d lt = (told.first d).still
    still (suc i) d lt = ap (λ (p : _). (v p).faults) (told.others (suc i) d (omega arith) lt)

-- ---- ports that are opened, and seats that have made no step

pub all_ready : {P S : Type 0} (v : PortView P S) (t : Table) (locals : List Endpoint) (ts os : List P) (rs : List (Post P)) → Each (IsBound v locals) ts os → length rs ≡ length os → AreSeated t rs → AreFresh rs → AreReady v t locals os rs
all_ready v t locals ts os rs each len seats fresh = record { all = ready os rs len (λ i d lt. let l = each.len in (each.each i d (omega (arith, lt, l))).bound) seats.all fresh }
  where
    ready : (qs : List _) (rs : List (Post _)) → length rs ≡ length qs → ((i : ℕ) (d : _) → i < length qs → (v (get_or qs i d)).bound ≡ locals) → AllSeated t rs → AreFresh rs → AllReady v t locals qs rs
    ready qs [] e bound seats fresh = tt
    ready [] (r ∷ rs) e bound seats fresh = absurd (omega (arith, e))
    ready (q ∷ qs) (r ∷ rs) e bound seats fresh = ((bound zero q (omega arith), seats.0, fresh.0), ready qs rs (omega (arith, e)) (λ i d lt. bound (suc i) d (omega (arith, lt))) seats.1 fresh.1)
