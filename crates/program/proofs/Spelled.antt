-- The words are a command exactly where they are its words.
use Rattle.std.proofs.Common.{◌≡◌, ℕ, ◌<◌, ◌≤◌, ◌^◌, ◌-◌, Bool, true, false, nat_eq, cond, List, [], ◌∷◌, Option, Some, None, bytes_eq, codes, decimal, refl, ap, subst, ◌∙◌, arith}
use Rattle.std.specs.List.{starts_with}
use Rattle.std.proofs.lemmas.Slice.Eq.{bytes_eq-Decides}
use Rattle.text_forms.specs.Numbers.{number_from}
use Rattle.load_report.specs.Report.{count_limit}
use Rattle.program.specs.Command.{CommandParts, Replay, Audit, Check, Gen, Run, seeded, load_command, named_command, command_in}
use Rattle.program.specs.Spelled.{AreWords}

-- what a text says of its number, and a number of its text
pub record Numbers : Type 0 where
  pub read : (low high n : ℕ) (s : List ℕ) → number_from low high s ≡ Some n → (s ≡ decimal n) × (low ≤ n) × (n ≤ high)
  pub written : (low high n : ℕ) → n < 2 ^ 64 → low ≤ n → n ≤ high → number_from low high (decimal n) ≡ Some n

-- ---- the words of a command are that command

named_check : (name : List ℕ) → starts_with nat_eq name (codes "-") ≡ false → named_command (codes "check") name ≡ Some (Check name)
named_check name h = rw h refl

named_run : (name : List ℕ) → starts_with nat_eq name (codes "-") ≡ false → named_command (codes "run") name ≡ Some (Run name)
named_run name h = rw h refl

module _ (numbers : Numbers) where
  load_written : (seed count : ℕ) → seed < 10 ^ 10 → count ≤ count_limit → load_command (decimal seed) (decimal count) ≡ Some (Gen seed count)
  load_written seed count digits within =
      ap (λ (o : Option ℕ). seeded o (number_from 0 count_limit (decimal count))) (numbers.written 0 (10 ^ 10 - 1) seed (omega arith) (omega arith) (omega arith))
      ∙ ap (λ (o : Option ℕ). seeded (Some seed) o) (numbers.written 0 count_limit count (omega arith) (omega arith) within)

  pub words_written : (words : List (List ℕ)) (c : CommandParts) → AreWords c words → command_in words ≡ Some c
  words_written words Replay is = ap command_in is
  words_written words Audit is = ap command_in is
  words_written words (Check name) is = ap command_in is.0 ∙ named_check name is.1
  words_written words (Gen seed count) is = ap command_in is.0 ∙ load_written seed count is.1 is.2
  words_written words (Run name) is = ap command_in is.0 ∙ named_run name is.1

  -- ---- and a command is of its words

  one_read : (word : List ℕ) (c : CommandParts) (replay audit : Bool) → bytes_eq word (codes "replay") ≡ replay → bytes_eq word (codes "audit") ≡ audit
      → cond replay (Some Replay) (cond audit (Some Audit) None) ≡ Some c → AreWords c (word ∷ [])
  one_read word c true audit r a e =
      let same : Replay ≡ c = cc in
      subst (λ (x : CommandParts). AreWords x (word ∷ [])) same (ap (λ (t : List ℕ). t ∷ []) ((bytes_eq-Decides word (codes "replay")).0 r))
  one_read word c false true r a e =
      let same : Audit ≡ c = cc in
      subst (λ (x : CommandParts). AreWords x (word ∷ [])) same (ap (λ (t : List ℕ). t ∷ []) ((bytes_eq-Decides word (codes "audit")).0 a))
  one_read word c false false r a e = absurd cc

  named_read : (word name : List ℕ) (c : CommandParts) (dash check run : Bool) → starts_with nat_eq name (codes "-") ≡ dash → bytes_eq word (codes "check") ≡ check
      → bytes_eq word (codes "run") ≡ run → cond dash None (cond check (Some (Check name)) (cond run (Some (Run name)) None)) ≡ Some c → AreWords c (word ∷ name ∷ [])
  named_read word name c true check run d h r e = absurd cc
  named_read word name c false true run d h r e =
      let same : Check name ≡ c = cc in
      subst (λ (x : CommandParts). AreWords x (word ∷ name ∷ [])) same (ap (λ (t : List ℕ). t ∷ name ∷ []) ((bytes_eq-Decides word (codes "check")).0 h), d)
  named_read word name c false false true d h r e =
      let same : Run name ≡ c = cc in
      subst (λ (x : CommandParts). AreWords x (word ∷ name ∷ [])) same (ap (λ (t : List ℕ). t ∷ name ∷ []) ((bytes_eq-Decides word (codes "run")).0 r), d)
  named_read word name c false false false d h r e = absurd cc

  load_read : (word first second : List ℕ) (c : CommandParts) (s n : Option ℕ) → number_from 0 (10 ^ 10 - 1) first ≡ s → number_from 0 count_limit second ≡ n
      → bytes_eq word (codes "gen") ≡ true → seeded s n ≡ Some c → AreWords c (word ∷ first ∷ second ∷ [])
  load_read word first second c (Some seed) (Some count) hs hn is e =
      let same : Gen seed count ≡ c = cc in
      let a = numbers.read 0 (10 ^ 10 - 1) seed first hs in
      let b = numbers.read 0 count_limit count second hn in
      let most : seed ≤ 10 ^ 10 - 1 = a.2 in
      subst (λ (x : CommandParts). AreWords x (word ∷ first ∷ second ∷ [])) same (
        ap (λ (t : List ℕ). t ∷ first ∷ second ∷ []) ((bytes_eq-Decides word (codes "gen")).0 is)
            ∙ ap (λ (t : List ℕ). codes "gen" ∷ t ∷ second ∷ []) a.0
            ∙ ap (λ (t : List ℕ). codes "gen" ∷ decimal seed ∷ t ∷ []) b.0,
        omega (arith, most),
        b.2,
      )
  load_read word first second c (Some seed) None hs hn is e = absurd cc
  load_read word first second c None n hs hn is e = absurd cc

  three_read : (word first second : List ℕ) (c : CommandParts) (b : Bool) → bytes_eq word (codes "gen") ≡ b → cond b (load_command first second) None ≡ Some c
      → AreWords c (word ∷ first ∷ second ∷ [])
  three_read word first second c true is e = load_read word first second c (number_from 0 (10 ^ 10 - 1) first) (number_from 0 count_limit second) refl refl is e
  three_read word first second c false is e = absurd cc

  pub words_read : (words : List (List ℕ)) (c : CommandParts) → command_in words ≡ Some c → AreWords c words
  words_read [] c e = absurd cc
  words_read (word ∷ []) c e = one_read word c (bytes_eq word (codes "replay")) (bytes_eq word (codes "audit")) refl refl e
  words_read (word ∷ name ∷ []) c e =
      named_read word name c (starts_with nat_eq name (codes "-")) (bytes_eq word (codes "check")) (bytes_eq word (codes "run")) refl refl refl e
  words_read (word ∷ first ∷ second ∷ []) c e = three_read word first second c (bytes_eq word (codes "gen")) refl e
  words_read (word ∷ first ∷ second ∷ third ∷ words) c e = absurd cc
