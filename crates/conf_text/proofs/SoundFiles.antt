-- What a file that some text stands for has.
use Rattle.std.proofs.Common.{◌≡◌, ℕ, ◌+◌, ◌-◌, ◌<◌, ◌≤◌, ◌^◌, Bool, true, false, ◌&&◌, if◌then◌else◌, is_some, IsSome, List, [], length, codes, Result, Ok, Err, Option, Some, None, refl, ap, sym, subst, ◌∙◌, arith}
use Rattle.std.specs.List.{All}
use Rattle.std.specs.Str.{is_utf8}
use Rattle.std.proofs.lemmas.Bool.{and_parts}
use Rattle.toml.specs.Data.{Data, Members, get_member, string, integer, float, boolean, datetime, array, table}
use Rattle.toml.specs.Parse.{parse_document}
use Rattle.refl_types.specs.declared.types.Endpoint.{Endpoint}
use Rattle.refl_types.specs.declared.config.ConfigParts.{ConfigParts}
use Rattle.text_forms.specs.Endpoints.{endpoint_from}
use Rattle.text_forms.specs.Names.{is_name}
use Rattle.conf_text.specs.declared.root.Numbers.{Numbers}
use Rattle.conf_text.specs.declared.configs.Named.{Named}
use Rattle.conf_text.specs.Faults.{Fault, NotToml, BadValue, ◌>>=◌}
use Rattle.conf_text.specs.Tables.{known_keys, needed, number_at, text_of, or_default, or_bad, maybe, required, counted}
use Rattle.conf_text.specs.Configs.{configs_of, find_config}
use Rattle.conf_text.specs.Sessions.{sessions_of}
use Rattle.conf_text.specs.Rows.{distinct, in_use}
use Rattle.conf_text.specs.File.{File, file_keys, needed_with, keys_of, locals_of, numbers_of, has_config, twamp_from, config_named, file_of, in_document, file_in, IsSound}
use Rattle.conf_text.specs.Sound.{AreDistinct, AreApart, IsOpenable, IsWithin}
use Rattle.conf_text.proofs.Binds.{bind-ok, ok-is, counted-is, number_at-range}
use Rattle.conf_text.proofs.LocalFacts.{required-locals}
use Rattle.conf_text.proofs.SoundConfigs.{AreNames, AreConfigs, required-configs, key-found}
use Rattle.conf_text.proofs.SoundSessions.{AreServed, sessions-served}

record AreNumbers (n : Numbers) : Type 0 where
  workers : (1 ≤ n.workers) × (n.workers ≤ 64)
  slots : (1 ≤ n.slots) × (n.slots ≤ 16384)
  rows : (1 ≤ n.rows) × (n.rows ≤ 8191)
  limit : n.limit < 2 ^ 63
  turns : n.turns < 2 ^ 63

are-numbers : (t : Members) (n : Numbers) → numbers_of t ≡ Ok n → AreNumbers n
unfolding numbers_of
are-numbers t n is =
    bind-ok (number_at (codes "workers") 1 64 1 t) _ _ is (λ workers workers-is m1.
    bind-ok (number_at (codes "slots") 1 16384 1024 t) _ _ m1 (λ slots slots-is m2.
    bind-ok (number_at (codes "rows") 1 8191 64 t) _ _ m2 (λ rows rows-is m3.
    bind-ok (number_at (codes "limit") 0 (2 ^ 63 - 1) 0 t) _ _ m3 (λ limit limit-is m4.
    bind-ok (number_at (codes "turns") 0 (2 ^ 63 - 1) (2 ^ 63 - 1) t) _ _ m4 (λ turns turns-is end.
    let (l0, l1) = number_at-range (codes "limit") 0 (2 ^ 63 - 1) 0 t limit (omega arith) (omega arith) limit-is in
    let (t0, t1) = number_at-range (codes "turns") 0 (2 ^ 63 - 1) (2 ^ 63 - 1) t turns (omega arith) (omega arith) turns-is in
    subst AreNumbers (ok-is _ _ end) (record {
      workers = number_at-range (codes "workers") 1 64 1 t workers (omega arith) (omega arith) workers-is;
      slots = number_at-range (codes "slots") 1 16384 1024 t slots (omega arith) (omega arith) slots-is;
      rows = number_at-range (codes "rows") 1 8191 64 t rows (omega arith) (omega arith) rows-is;
      limit = omega (arith, l1);
      turns = omega (arith, t1);
    }))))))

pub record Holds (f : File) : Type 0 where
  pub within : IsWithin f
  pub distinct : AreDistinct f.locals
  pub names : AreNames f.configs
  pub openable : All (IsOpenable (length f.locals)) f.sessions
  pub apart : AreApart f.sessions
  pub twamp : IsSome f.control → IsSome f.twamp

-- ---- the configuration for control connections

named-some : (o : Option Data) (path text name : List ℕ) → or_bad path (twamp_from o text) ≡ Ok name → (is_name name ≡ true) × (has_config o name ≡ true)
named-some o path text name is = by (is_name text && has_config o text) refl is
  where
    by : (t : Bool) → (is_name text && has_config o text) ≡ t → or_bad path (if t then Some text else None) ≡ Ok name → (is_name name ≡ true) × (has_config o name ≡ true)
    by false test e = absurd cc
    by true test e =
        let same : text ≡ name = ok-is text name e in
        let (good, there) = and_parts (is_name text) (has_config o text) test in
        (ap is_name (sym same) ∙ good, ap (has_config o) (sym same) ∙ there)

twamp-name : (o : Option Data) (d : Data) (name : List ℕ) → text_of (twamp_from o) (codes "twamp") d ≡ Ok name → has_config o name ≡ true
twamp-name o (string s) name is = (named-some o (codes "twamp") s name is).1
twamp-name o (integer z) name is = absurd cc
twamp-name o (float x) name is = absurd cc
twamp-name o (boolean b) name is = absurd cc
twamp-name o (datetime x) name is = absurd cc
twamp-name o (array ds) name is = absurd cc
twamp-name o (table ms) name is = absurd cc

-- a `control` that was read stood there
control-there : (o : Option Data) (control : Option Endpoint) → maybe (text_of endpoint_from (codes "control")) o ≡ Ok control → IsSome control → IsSome o
control-there (Some d) control is some = refl
control-there None control is some = subst IsSome (sym (ok-is None control is)) some

twamp-there : (control twamp : Option Data) (u : Unit {0}) → needed_with control twamp ≡ Ok u → IsSome control → IsSome twamp
twamp-there None twamp u is some = absurd cc
twamp-there (Some d) None u is some = absurd cc
twamp-there (Some d) (Some e) u is some = refl

name-some : (o twamp : Option Data) (name : Option (List ℕ)) (configs : List Named) (ms : Members) → o ≡ Some (table ms) → AreConfigs ms configs → maybe (text_of (twamp_from o) (codes "twamp")) twamp ≡ Ok name → IsSome twamp → IsSome (config_named configs name)
name-some o None name configs ms there held is some = absurd cc
name-some o (Some d) name configs ms there held is some =
    bind-ok (text_of (twamp_from o) (codes "twamp") d) _ _ is (λ n n-is end.
    let key : is_some (get_member n ms) ≡ true = ap (λ p. has_config p n) (sym there) ∙ twamp-name o d n n-is in
    subst (λ m. IsSome (config_named configs m)) (ok-is (Some n) name end) (key-found n ms configs held key))

-- ---- the whole

control-keys : (t : Members) (u : Unit {0}) → keys_of t ≡ Ok u → IsSome (get_member (codes "control") t) → IsSome (get_member (codes "twamp") t)
control-keys t u is some =
    bind-ok (known_keys file_keys t) _ _ is (λ u0 is0 m0.
    bind-ok (needed (codes "locals") (get_member (codes "locals") t)) _ _ m0 (λ u1 is1 m1.
    bind-ok (needed (codes "configs") (get_member (codes "configs") t)) _ _ m1 (λ u2 is2 end.
    twamp-there (get_member (codes "control") t) (get_member (codes "twamp") t) u end some)))

file-holds : (t : Members) (f : File) → file_of t ≡ Ok f → Holds f
unfolding file_of
file-holds t f is =
    let at = λ (key : List ℕ). get_member key t in
    bind-ok (keys_of t) _ _ is (λ u keys-is m1.
    bind-ok (required locals_of (codes "locals") (at (codes "locals"))) _ _ m1 (λ locals locals-is m2.
    bind-ok (numbers_of t) _ _ m2 (λ n n-is m3.
    bind-ok (maybe (text_of endpoint_from (codes "control")) (at (codes "control"))) _ _ m3 (λ control control-is m4.
    bind-ok (maybe (text_of endpoint_from (codes "operator")) (at (codes "operator"))) _ _ m4 (λ operator operator-is m5.
    bind-ok (maybe (text_of (twamp_from (at (codes "configs"))) (codes "twamp")) (at (codes "twamp"))) _ _ m5 (λ name name-is m6.
    bind-ok (required configs_of (codes "configs") (at (codes "configs"))) _ _ m6 (λ configs configs-is m7.
    bind-ok (or_default [] (sessions_of (length locals) n.slots configs) (at (codes "sessions"))) _ _ m7 (λ sessions sessions-is m8.
    bind-ok (counted (codes "rows") 0 n.rows (length (distinct (in_use (config_named configs name) sessions)))) _ _ m8 (λ v v-is end.
    let (least, most, apart) = required-locals (at (codes "locals")) locals locals-is in
    let numbers = are-numbers t n n-is in
    let (ms, there, held) = required-configs (at (codes "configs")) configs configs-is in
    let served = sessions-served (length locals) configs least n.slots (at (codes "sessions")) sessions sessions-is in
    let (r0, r1) = counted-is (codes "rows") 0 n.rows (length (distinct (in_use (config_named configs name) sessions))) v v-is in
    subst Holds (ok-is _ _ end) (record {
      within = record {
        workers = numbers.workers;
        slots = numbers.slots;
        rows = numbers.rows;
        limit = numbers.limit;
        turns = numbers.turns;
        locals = (least, most);
        configs = held.len;
        sessions = served.len;
        in_use = r1;
      };
      distinct = apart;
      names = held.sound;
      openable = served.openable;
      apart = served.apart;
      twamp = λ some. name-some (at (codes "configs")) (at (codes "twamp")) name configs ms there held name-is (control-keys t u keys-is (control-there (at (codes "control")) control control-is some));
    }))))))))))

pub sound-holds : (f : File) → IsSound f → Holds f
sound-holds f sound = by (is_utf8 text) sound.1
  where
    text : List ℕ
    text = sound.0

    parsed : (o : Option Members) → in_document o ≡ Ok f → Holds f
    parsed None is = absurd cc
    parsed (Some t) is = file-holds t f is

    by : (b : Bool) → (if b then in_document (parse_document text) else Err NotToml) ≡ Ok f → Holds f
    by true is = parsed (parse_document text) is
    by false is = absurd cc

pub kept-holds : (f g : File) → IsSound f → f ≡ g → Holds g
kept-holds f g sound same = subst Holds same (sound-holds f sound)
