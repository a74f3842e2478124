-- Where a name stands among files.
use Rattle.std.proofs.Common.{◌≡◌, ℕ, ◌+◌, ◌<◌, ◌≤◌, List, [], ◌∷◌, length, get_or, drop, Some, None, true, false, refl, sym, ap, ◌∙◌, add-zero, arith}
use Rattle.std.proofs.lemmas.List.{get_or-drop, drop-drop, length-drop}
use Rattle.std.proofs.Math.ListN.{drop_of_length-le}
use Rattle.std.specs.Prelude.{String, string_bytes, Vec, bytes_eq}
use Rattle.std.specs.declared.alloc.Global.{Global}
use Rattle.port_io.specs.Files.{content}
use Rattle.port_io.specs.MemFiles.{files_of}

-- the first file has another name
passes_first : (name : List ℕ) (names : List (String Global)) (contents : List (Vec ℕ Global)) (n : String Global)
    → 0 < length names → length names ≡ length contents → n ≡ get_or names 0 n → bytes_eq (string_bytes n) name ≡ false
    → content name (files_of (drop 1 names) (drop 1 contents)) ≡ content name (files_of names contents)
passes_first name [] contents n some same is other = absurd (omega arith)
passes_first name (first ∷ names) [] n some same is other = absurd (omega arith)
passes_first name (first ∷ names) (c ∷ contents) n some same is other =
    let e : bytes_eq (string_bytes first) name ≡ false = ap (λ (s : String Global). bytes_eq (string_bytes s) name) (sym is) ∙ other in
    rw e refl

-- the first file has this name
finds_first : (name : List ℕ) (names : List (String Global)) (contents : List (Vec ℕ Global)) (n : String Global) (c : Vec ℕ Global)
    → 0 < length names → length names ≡ length contents → n ≡ get_or names 0 n → c ≡ get_or contents 0 c → bytes_eq (string_bytes n) name ≡ true
    → content name (files_of names contents) ≡ Some c.items
finds_first name [] contents n c some same is held here = absurd (omega arith)
finds_first name (first ∷ names) [] n c some same is held here = absurd (omega arith)
finds_first name (first ∷ names) (d ∷ contents) n c some same is held here =
    let e : bytes_eq (string_bytes first) name ≡ true = ap (λ (s : String Global). bytes_eq (string_bytes s) name) (sym is) ∙ here in
    rw e (ap (λ (v : Vec ℕ Global). Some v.items) (sym held))

module _ (name : List ℕ) (names : List (String Global)) (contents : List (Vec ℕ Global)) (at : ℕ) (same : length names ≡ length contents) where
  first_at : {A : Type 0} (xs : List A) (x : A) → x ≡ get_or xs at x → x ≡ get_or (drop at xs) 0 x
  first_at xs x is = is ∙ ap (λ (i : ℕ). get_or xs i x) (sym (add-zero at)) ∙ sym (get_or-drop at xs 0 x)

  rest_same : length (drop at names) ≡ length (drop at contents)
  rest_same = omega (arith, length-drop at names, length-drop at contents, same)

  -- the file at a place has another name
  pub passes_at : (n : String Global) → at < length names → n ≡ get_or names at n → bytes_eq (string_bytes n) name ≡ false
      → content name (files_of (drop (at + 1) names) (drop (at + 1) contents)) ≡ content name (files_of (drop at names) (drop at contents))
  passes_at n some is other =
      let more : (A : Type 0) (xs : List A) → drop (at + 1) xs ≡ drop 1 (drop at xs) = λ A xs. sym (drop-drop 1 at xs) in
      rw (more (String Global) names, more (Vec ℕ Global) contents) (passes_first name (drop at names) (drop at contents) n (omega (arith, length-drop at names)) rest_same (first_at names n is) other)

  -- the file at a place has this name
  pub finds_at : (n : String Global) (c : Vec ℕ Global) → at < length names → n ≡ get_or names at n → c ≡ get_or contents at c → bytes_eq (string_bytes n) name ≡ true
      → content name (files_of (drop at names) (drop at contents)) ≡ Some c.items
  finds_at n c some is held here =
      finds_first name (drop at names) (drop at contents) n c (omega (arith, length-drop at names)) rest_same (first_at names n is) (first_at contents c held) here

  -- no file is left
  pub passes_all : length names ≤ at → content name (files_of (drop at names) (drop at contents)) ≡ None
  passes_all all = rw (drop_of_length-le names all) refl
