-- One more place of a list.
use Rattle.std.proofs.Common.{◌≡◌, ℕ, suc, ◌+◌, ◌<◌, length, get_or, drop, List, [], ◌∷◌, Result, Ok, Err, Option, Some, None, IfSome, decimal, refl, ap, sym, ◌∙◌, subst, arith}
use Rattle.std.proofs.Math.ListN.{drop_of_length-le}
use Rattle.toml.specs.Data.{Data, Items, no_items, item}
use Rattle.toml.specs.declared.value.Value.{Value}
use Rattle.toml.specs.View.{view, items_view, members_view}
use Rattle.toml.proofs.Views.{Entry, items_view-drop}
use Rattle.conf_text.specs.declared.fault.ConfFault.{ConfFault}
use Rattle.conf_text.specs.Faults.{Fault, fault_of, step, ◌>>=◌}
use Rattle.conf_text.specs.Tables.{places, items_len, members_len}

module _ {S : Type 0} (read : S → List ℕ → Data → Result S Fault) (key : List ℕ) where
  places-more : (i : ℕ) (found : S) (d : Data) (ds : Items) (more : S) → read found (step key (decimal i)) d ≡ Ok more → places read key i found (item d ds) ≡ places read key (suc i) more ds
  unfolding places
  places-more i found d ds more is = ap (λ r. r >>= (λ x. places read key (suc i) x ds)) is

  places-stop : (i : ℕ) (found : S) (d : Data) (ds : Items) (f : Fault) → read found (step key (decimal i)) d ≡ Err f → places read key i found (item d ds) ≡ Err f
  unfolding places
  places-stop i found d ds f is = ap (λ r. r >>= (λ x. places read key (suc i) x ds)) is

  places-end : (i : ℕ) (found : S) → places read key i found no_items ≡ Ok found
  unfolding places
  places-end i found = refl

  stopped_by : (o : Option Fault) (i : ℕ) (found : S) (d : Data) (ds : Items) → IfSome o (λ f. read found (step key (decimal i)) d ≡ Err f) → IfSome o (λ f. places read key i found (item d ds) ≡ Err f)
  stopped_by None i found d ds is = tt
  stopped_by (Some f) i found d ds is = places-stop i found d ds f is

  first_place : (vs : List Value) (i : ℕ) (v : Value) → i < length vs → get_or vs i v ≡ v → items_view (drop i vs) ≡ item (view v) (items_view (drop (i + 1) vs))
  first_place vs i v inside at = items_view-drop vs i v inside ∙ ap (λ w. item (view w) (items_view (drop (i + 1) vs))) at

  -- the fault of one place is that of the list
  pub place-stopped : (vs : List Value) (i : ℕ) (found : S) (v : Value) (path : List ℕ) (o : Option Fault) → i < length vs → get_or vs i v ≡ v → path ≡ step key (decimal i) → IfSome o (λ f. read found path (view v) ≡ Err f) → IfSome o (λ f. places read key i found (items_view (drop i vs)) ≡ Err f)
  place-stopped vs i found v path o inside at is told =
      let P : List ℕ → Type 0 = λ p. IfSome o (λ f. read found p (view v) ≡ Err f) in
      let Q : Items → Type 0 = λ ds. IfSome o (λ f. places read key i found ds ≡ Err f) in
      subst Q (sym (first_place vs i v inside at)) (stopped_by o i found (view v) _ (subst P is told))

  -- reading on behind one place gives what reading from it on does
  pub place-read : (vs : List Value) (i : ℕ) (found : S) (v : Value) (path : List ℕ) (more : S) → i < length vs → get_or vs i v ≡ v → path ≡ step key (decimal i) → read found path (view v) ≡ Ok more → places read key i found (items_view (drop i vs)) ≡ places read key (i + 1) more (items_view (drop (i + 1) vs))
  place-read vs i found v path more inside at is told =
      let P : List ℕ → Type 0 = λ p. read found p (view v) ≡ Ok more in
      let next : suc i ≡ i + 1 = omega arith in
      ap (places read key i found) (first_place vs i v inside at) ∙ places-more i found (view v) _ more (subst P is told)
      ∙ ap (λ n. places read key n more (items_view (drop (i + 1) vs))) next

  -- behind the last place, all is found
  pub place-done : (vs : List Value) (i : ℕ) (found : S) → drop i vs ≡ [] → places read key i found (items_view (drop i vs)) ≡ Ok found
  place-done vs i found done = ap (λ l. places read key i found (items_view l)) done ∙ places-end i found

pub items_len-view : (vs : List Value) → length vs ≡ items_len (items_view vs)
items_len-view [] = refl
items_len-view (v ∷ vs) = ap suc (items_len-view vs)

pub members_len-view : (es : List Entry) → length es ≡ members_len (members_view es)
members_len-view [] = refl
members_len-view (e ∷ es) = ap suc (members_len-view es)
