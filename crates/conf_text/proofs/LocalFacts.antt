-- The local addresses that are read are 1 to 16, and no two of them are the same.
use Rattle.std.proofs.Common.{◌≡◌, ℕ, zero, suc, ◌+◌, ◌<◌, ◌≤◌, Bool, true, false, ◌||◌, cond, if◌then◌else◌, List, [], ◌∷◌, ◌++◌, length, get_or, codes, Result, Ok, Err, Option, Some, None, length-append, refl, ap, sym, subst, ◌∙◌, arith}
use Rattle.std.specs.List.{list_any, AllPairs}
use Rattle.std.proofs.lemmas.Bool.{or_parts}
use Rattle.std.proofs.lemmas.List.Quantifiers.{all_pairs_push}
use Rattle.toml.specs.Data.{Data, Items}
use Rattle.refl_types.specs.declared.types.Endpoint.{Endpoint}
use Rattle.refl_types.specs.Same.{same_endpoint}
use Rattle.text_forms.specs.Endpoints.{endpoint_from}
use Rattle.conf_text.specs.Faults.{Fault, BadValue, ◌>>=◌}
use Rattle.conf_text.specs.Tables.{text_of, list_of, counted, items_len, places, required}
use Rattle.conf_text.specs.File.{local_of, locals_of}
use Rattle.conf_text.specs.Sound.{AreDistinct}
use Rattle.conf_text.proofs.Binds.{bind-ok, ok-is, counted-is, places-keep}

-- where no place passes a test, none does by its number
pub none-at : {A : Type 0} (p : A → Bool) (xs : List A) (k : ℕ) (d : A) → list_any p xs ≡ false → k < length xs → p (get_or xs k d) ≡ false
none-at p [] k d none inside = absurd (omega arith)
none-at p (x ∷ xs) zero d none inside = (or_parts (p x) (list_any p xs) none).0
none-at p (x ∷ xs) (suc k) d none inside = none-at p xs k d (or_parts (p x) (list_any p xs) none).1 (omega arith)

record Holds (i : ℕ) (found : List Endpoint) : Type 0 where
  len : length found ≡ i
  apart : AreDistinct found

holds-next : (i : ℕ) (found more : List Endpoint) (path : List ℕ) (d : Data) → Holds i found → local_of found path d ≡ Ok more → Holds (suc i) more
holds-next i found more path d held is =
    bind-ok (text_of endpoint_from path d) _ _ is (λ e e-is rest. by (list_any (same_endpoint e) found) e refl rest)
  where
    by : (t : Bool) (e : Endpoint) → list_any (same_endpoint e) found ≡ t → cond t (Err (BadValue path)) (Ok (found ++ e ∷ [])) ≡ Ok more → Holds (suc i) more
    by true e test rest = absurd cc
    by false e test rest =
        subst (Holds (suc i)) (ok-is _ _ rest) (record {
          len = omega (arith, length-append found (e ∷ []), held.len);
          apart = all_pairs_push (λ a b. same_endpoint b a ≡ false) found e held.apart (λ k x inside. none-at (same_endpoint e) found k x test inside);
        })

pub locals-hold : (d : Data) (locals : List Endpoint) → locals_of d ≡ Ok locals → (1 ≤ length locals) × (length locals ≤ 16) × AreDistinct locals
locals-hold d locals is =
    bind-ok (list_of (codes "locals") d) _ _ is (λ ds ds-is more.
    bind-ok (counted (codes "locals") 1 16 (items_len ds)) _ _ more (λ u u-is rest.
    let (least, most) = counted-is (codes "locals") 1 16 (items_len ds) u u-is in
    let none : Holds 0 [] = record { len = refl; apart = λ i j x before inside. absurd (omega arith) } in
    let held : Holds (0 + items_len ds) locals = places-keep local_of (codes "locals") Holds holds-next ds 0 [] locals none rest in
    (omega (arith, held.len), omega (arith, held.len), held.apart)))

pub required-locals : (o : Option Data) (locals : List Endpoint) → required locals_of (codes "locals") o ≡ Ok locals → (1 ≤ length locals) × (length locals ≤ 16) × AreDistinct locals
required-locals None locals is = absurd cc
required-locals (Some d) locals is = locals-hold d locals is
