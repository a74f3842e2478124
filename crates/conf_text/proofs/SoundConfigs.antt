-- The configurations that are read have the names of their table, in its order.
use Rattle.std.proofs.Common.{◌≡◌, ℕ, zero, suc, ◌+◌, ◌<◌, ◌≤◌, Bool, true, false, not, ◌||◌, ◌&&◌, cond, if◌then◌else◌, is_some, bytes_eq, List, [], ◌∷◌, ◌++◌, length, map, get_or, codes, Result, Ok, Err, Option, Some, None, Ordering, Less, Equal, Greater, nat_cmp, is_eq, length-append, refl, ap, sym, subst, ◌∙◌, arith, append-nil, append_assoc, String, Global, string_bytes}
use Rattle.std.specs.Cmp.Lexicographic.{slice_cmp}
use Rattle.std.specs.Ordering.{match_ordering}
use Rattle.std.specs.List.{list_any, All, AllByRecursion}
use Rattle.std.specs.List.Sorted.{IsStrictlySortedBy}
use Rattle.std.specs.Map.{keys_of}
use Rattle.std.specs.String.{string_cmp}
use Rattle.toml.specs.View.{members_view}
use Rattle.toml.proofs.Views.{Entry}
use Rattle.conf_text.specs.Sound.{AreAscending}
use Rattle.std.proofs.lemmas.List.Elements.{All-push}
use Rattle.std.proofs.lemmas.Bool.{and_parts}
use Rattle.std.proofs.lemmas.Map.Text.{is_eq-slice_cmp}
use Rattle.toml.specs.Data.{Data, Members, no_members, member, get_member, string, integer, float, boolean, datetime, array, table}
use Rattle.refl_types.specs.declared.config.ConfigParts.{ConfigParts}
use Rattle.text_forms.specs.Names.{is_name}
use Rattle.conf_text.specs.declared.configs.Named.{Named}
use Rattle.conf_text.specs.Faults.{Fault, BadValue, within, ◌>>=◌}
use Rattle.conf_text.specs.Tables.{table_of, required, counted, members_len}
use Rattle.conf_text.specs.Configs.{config_at, named_of, all_named, configs_of, find_config}
use Rattle.conf_text.specs.File.{has_config}
use Rattle.conf_text.proofs.Binds.{bind-ok, ok-is, counted-is}

abbrev pub AreNames : List Named → Type 0
AreNames configs = All (λ c. is_name c.name ≡ true) configs

abbrev pub names_of : List Named → List (List ℕ)
names_of configs = map (λ c. c.name) configs

abbrev pub member_keys : Members → List (List ℕ)
member_keys no_members = []
member_keys (member k d ms) = k ∷ member_keys ms

named-name : (name : List ℕ) (d : Data) (n : Named) → named_of name d ≡ Ok n → (n.name ≡ name) × (is_name name ≡ true)
unfolding named_of
named-name name d n is = by (is_name name) refl is
  where
    by : (t : Bool) → is_name name ≡ t → (if t then (within (codes "configs") (config_at name d) >>= (λ c. Ok (record { name = name; config = c }))) else Err (BadValue (codes "configs"))) ≡ Ok n → (n.name ≡ name) × (is_name name ≡ true)
    by false test e = absurd cc
    by true test e = bind-ok (within (codes "configs") (config_at name d)) _ _ e (λ c c-is end. (sym (ap (λ (m : Named). m.name) (ok-is _ _ end)), test))

map-append : {A B : Type 0} (f : A → B) (xs ys : List A) → map f (xs ++ ys) ≡ map f xs ++ map f ys
map-append f [] ys = refl
map-append f (x ∷ xs) ys = ap (λ l. f x ∷ l) (map-append f xs ys)

record Holds (found : List Named) (ms : Members) (all : List Named) : Type 0 where
  names : names_of all ≡ names_of found ++ member_keys ms
  sound : AreNames all

all-hold : (ms : Members) (found all : List Named) → AreNames found → all_named found ms ≡ Ok all → Holds found ms all
unfolding all_named
all-hold no_members found all sound is =
    let same : found ≡ all = ok-is found all is in
    record { names = ap names_of (sym same) ∙ sym (append-nil (names_of found)); sound = subst AreNames same sound }
all-hold (member k d ms) found all sound is =
    bind-ok (named_of k d) _ _ is (λ n n-is rest.
    let (name, good) = named-name k d n n-is in
    let more : Holds (found ++ n ∷ []) ms all = all-hold ms (found ++ n ∷ []) all (All-push (λ (c : Named). is_name c.name ≡ true) found n sound (ap is_name name ∙ good)) rest in
    record {
      names = more.names ∙ ap (λ l. l ++ member_keys ms) (map-append (λ (c : Named). c.name) found (n ∷ [])) ∙ append_assoc (names_of found) (n.name ∷ []) (member_keys ms)
          ∙ ap (λ (x : List ℕ). names_of found ++ x ∷ member_keys ms) name;
      sound = more.sound;
    })

pub record AreConfigs (ms : Members) (configs : List Named) : Type 0 where
  pub len : (1 ≤ length configs) × (length configs ≤ 256)
  pub names : names_of configs ≡ member_keys ms
  pub sound : AreNames configs

length-map_ : {A B : Type 0} (f : A → B) (xs : List A) → length (map f xs) ≡ length xs
length-map_ f [] = refl
length-map_ f (x ∷ xs) = ap suc (length-map_ f xs)

length-keys : (ms : Members) → length (member_keys ms) ≡ members_len ms
length-keys no_members = refl
length-keys (member k d ms) = ap suc (length-keys ms)

pub all-configs : (ms : Members) (configs : List Named) → all_named [] ms ≡ Ok configs → (names_of configs ≡ member_keys ms) × AreNames configs
all-configs ms configs is =
    let none : AreNames [] = λ k d inside. absurd (omega arith) in
    let held : Holds [] ms configs = all-hold ms [] configs none is in
    (held.names, held.sound)

pub table-configs : (d : Data) (configs : List Named) → configs_of d ≡ Ok configs → (ms : Members) × (d ≡ table ms) × AreConfigs ms configs
table-configs d configs is =
    bind-ok (table_of (codes "configs") d) _ _ is (λ ms ms-is more.
    bind-ok (counted (codes "configs") 1 256 (members_len ms)) _ _ more (λ u u-is rest.
    let (least, most) = counted-is (codes "configs") 1 256 (members_len ms) u u-is in
    let (names, sound) = all-configs ms configs rest in
    let count : length configs ≡ members_len ms = sym (length-map_ (λ (c : Named). c.name) configs) ∙ ap length names ∙ length-keys ms in
    (ms, is-table d ms ms-is, record { len = (omega (arith, least, count), omega (arith, most, count)); names = names; sound = sound })))
  where
    is-table : (d : Data) (ms : Members) → table_of (codes "configs") d ≡ Ok ms → d ≡ table ms
    is-table (table ns) ms e = ap table (ok-is ns ms e)
    is-table (string s) ms e = absurd cc
    is-table (integer z) ms e = absurd cc
    is-table (float x) ms e = absurd cc
    is-table (boolean b) ms e = absurd cc
    is-table (datetime x) ms e = absurd cc
    is-table (array ds) ms e = absurd cc

pub required-configs : (o : Option Data) (configs : List Named) → required configs_of (codes "configs") o ≡ Ok configs → (ms : Members) × (o ≡ Some (table ms)) × AreConfigs ms configs
required-configs None configs is = absurd cc
required-configs (Some d) configs is = let (ms, same, held) = table-configs d configs is in (ms, ap Some same, held)

-- ---- a name of the table finds its configuration

find-name : (name : List ℕ) (configs : List Named) → is_some (find_config name configs) ≡ list_any (λ k. bytes_eq name k) (names_of configs)
find-name name [] = refl
find-name name (c ∷ cs) = by (bytes_eq name c.name) (find-name name cs)
  where
    by : (t : Bool) → is_some (find_config name cs) ≡ list_any (λ k. bytes_eq name k) (names_of cs) → is_some (if t then Some c.config else find_config name cs) ≡ (t || list_any (λ k. bytes_eq name k) (names_of cs))
    by true later = refl
    by false later = later

or_right : (a b : Bool) → b ≡ true → (a || b) ≡ true
or_right true b f = refl
or_right false b f = f

found-key : (name : List ℕ) (ms : Members) → is_some (get_member name ms) ≡ true → list_any (λ k. bytes_eq name k) (member_keys ms) ≡ true
found-key name no_members is = absurd cc
found-key name (member k d ms) is = by (slice_cmp nat_cmp name k) refl (λ found. found-key name ms found) is
  where
    by : (o : Ordering) → slice_cmp nat_cmp name k ≡ o → (is_some (get_member name ms) ≡ true → list_any (λ l. bytes_eq name l) (member_keys ms) ≡ true) → is_some (match_ordering o (get_member name ms) (Some d) (get_member name ms)) ≡ true → (bytes_eq name k || list_any (λ l. bytes_eq name l) (member_keys ms)) ≡ true
    by Equal e later found = let same : bytes_eq name k ≡ true = sym (is_eq-slice_cmp name k) ∙ ap is_eq e in rw same refl
    by Less e later found = or_right (bytes_eq name k) _ (later found)
    by Greater e later found = or_right (bytes_eq name k) _ (later found)

pub key-found : (name : List ℕ) (ms : Members) (configs : List Named) → AreConfigs ms configs → is_some (get_member name ms) ≡ true → is_some (find_config name configs) ≡ true
key-found name ms configs held is = find-name name configs ∙ ap (list_any (λ k. bytes_eq name k)) held.names ∙ found-key name ms is

-- ---- the keys of a table ascend

keys-view : (es : List Entry) → member_keys (members_view es) ≡ map string_bytes (keys_of es)
keys-view [] = refl
keys-view (e ∷ es) = ap (λ l. string_bytes e.0 ∷ l) (keys-view es)

below-bytes : (k : String Global) (ks : List (String Global)) → AllByRecursion (λ l. string_cmp k l ≡ Less) ks → AllByRecursion (λ l. slice_cmp nat_cmp (string_bytes k) l ≡ Less) (map string_bytes ks)
below-bytes k [] below = tt
below-bytes k (l ∷ ls) below = (below.0, below-bytes k ls below.1)

ascending-bytes : (ks : List (String Global)) → IsStrictlySortedBy string_cmp ks → IsStrictlySortedBy (slice_cmp nat_cmp) (map string_bytes ks)
unfolding IsStrictlySortedBy
ascending-bytes [] sorted = tt
ascending-bytes (k ∷ ks) sorted = (below-bytes k ks sorted.0, ascending-bytes ks sorted.1)

pub all-ascend : (es : List Entry) (configs : List Named) → IsStrictlySortedBy string_cmp (keys_of es) → all_named [] (members_view es) ≡ Ok configs → AreAscending configs
all-ascend es configs sorted is =
    let (names, sound) = all-configs (members_view es) configs is in
    subst (IsStrictlySortedBy (slice_cmp nat_cmp)) (sym (names ∙ keys-view es)) (ascending-bytes (keys_of es) sorted)
