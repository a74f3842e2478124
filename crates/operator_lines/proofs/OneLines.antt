-- The line that asks for a session is whole, and has one answer.
use Rattle.std.proofs.Common.{◌≡◌, ℕ, ◌+◌, ◌<◌, ◌≤◌, ◌^◌, Bool, true, false, List, [], ◌∷◌, ◌++◌, length, Option, Some, None, decimal, codes, refl, ap, sym, subst, ◌∙◌, arith, append_assoc, eqb}
use Rattle.std.proofs.lemmas.Bool.Decides.{nat_tests}
use Rattle.refl_types.specs.declared.types.Endpoint.{Endpoint}
use Rattle.refl_types.specs.declared.types.Key.{Key}
use Rattle.refl_types.specs.declared.types.Mode.{Mode}
use Rattle.refl_types.specs.declared.types.Mode.TheVariants.{Plain, Auth, Twamp}
use Rattle.refl_types.specs.Spelling.{FitsEndpoint, FitsKey}
use Rattle.text_forms.specs.Steps.{◌>>=◌}
use Rattle.text_forms.specs.Numbers.{number_from}
use Rattle.text_forms.specs.Names.{is_name, is_name_octet, name_from}
use Rattle.text_forms.specs.Endpoints.{address_text, endpoint_text, cut}
use Rattle.operator_lines.specs.declared.line.Line.{Line}
use Rattle.operator_lines.specs.declared.line.Line.TheVariants as lines
use Rattle.operator_lines.specs.Lines.{mode_text, key_text, open_text, longest_wait, nanoseconds, line_limit}
use Rattle.operator_lines.specs.Reading.{space, line_end, key_at, open_from, asked, words_from, body_of, line_from}
use Rattle.operator_lines.specs.OneLine.{has_one_answer, HasNoEnd, IsOneLine}
use Rattle.operator_lines.proofs.Above.{AreAbove, above-append, above-lower, above-decimal, above-all, above-address, name_octet-above, cut-word}
use Rattle.std.proofs.lemmas.Bool.{and_parts}
use Rattle.std.specs.Prelude.{◌&&◌, nat_le}
use Rattle.std.specs.List.{list_all}

one-bind : {A : Type 0} (o : Option A) (f : A → Option Line) → ((a : A) → has_one_answer (f a) ≡ true) → has_one_answer (o >>= f) ≡ true
one-bind None f h = refl
one-bind (Some a) f h = h a

one-open : (s : List ℕ) → has_one_answer (open_from s) ≡ true
unfolding open_from
one-open s =
    one-bind (key_at s) _ (λ k. one-bind (cut space k.1) _ (λ p. one-bind (name_from p.0) _ (λ name. one-bind (number_from 0 longest_wait p.1) _ (λ seconds. refl))))

-- words behind `open`
one-words : (s : List ℕ) → has_one_answer (words_from (codes "open " ++ s)) ≡ true
unfolding words_from asked
one-words s = one-open s

no_end : (s : List ℕ) → AreAbove 10 s → HasNoEnd s
no_end [] above = tt
no_end (c ∷ cs) above = let first : 10 < c = above.0 in (grind (arith, nat_tests), no_end cs above.1)

above-mode : (m : Mode) → AreAbove 10 (mode_text m)
above-mode Plain = (omega arith, (omega arith, (omega arith, (omega arith, (omega arith, tt)))))
above-mode Auth = (omega arith, (omega arith, (omega arith, (omega arith, tt))))
above-mode Twamp = (omega arith, (omega arith, (omega arith, (omega arith, (omega arith, tt)))))

above-number : (n : ℕ) → n < 2 ^ 64 → AreAbove 10 (decimal n)
above-number n small = above-lower 10 32 (decimal n) (omega arith) (above-decimal n small)

above-space : AreAbove 10 (codes " ")
above-space = (omega arith, tt)

above-ends : (e : Endpoint) → FitsEndpoint e → AreAbove 10 (endpoint_text e)
above-ends e fits =
    let small : e.port < 2 ^ 16 = fits.port in
    above-append 10 (address_text e.address ++ codes ":") (decimal e.port)
    (above-append 10 (address_text e.address) (codes ":") (above-lower 10 32 (address_text e.address) (omega arith) (above-address e.address fits.address)) (omega arith, tt))
    (above-number e.port (omega arith))

above-key : (k : Key) → FitsKey k → AreAbove 10 (key_text k)
above-key k fits =
    let local : k.local < 2 ^ 16 = fits.local in
    let ssid : k.ssid < 2 ^ 16 = fits.ssid in
    let a = decimal k.local in
    let b = endpoint_text k.peer in
    let m = mode_text k.mode in
    above-append 10 (a ++ codes " " ++ b ++ codes " " ++ m ++ codes " ") (decimal k.ssid)
    (above-append 10 (a ++ codes " " ++ b ++ codes " " ++ m) (codes " ")
    (above-append 10 (a ++ codes " " ++ b ++ codes " ") m
    (above-append 10 (a ++ codes " " ++ b) (codes " ")
    (above-append 10 (a ++ codes " ") b (above-append 10 a (codes " ") (above-number k.local (omega arith)) above-space) (above-ends k.peer fits.peer))
    above-space) (above-mode k.mode)) above-space) (above-number k.ssid (omega arith))

above-name : (name : List ℕ) → is_name name ≡ true → AreAbove 10 name
above-name name is =
    let all : list_all is_name_octet name ≡ true = (and_parts (nat_le 1 (length name) && nat_le (length name) 16) (list_all is_name_octet name) is).1 in
    let low : 10 ≤ 32 = omega arith in
    above-lower 10 32 name low (above-all is_name_octet name name_octet-above all)

abbrev open_words : Key → List ℕ → ℕ → List ℕ
open_words k name seconds = key_text k ++ codes " " ++ name ++ codes " " ++ decimal seconds

above-words : (k : Key) (name : List ℕ) (seconds : ℕ) → FitsKey k → is_name name ≡ true → seconds < 2 ^ 64 → AreAbove 10 (open_words k name seconds)
above-words k name seconds fits named small =
    above-append 10 (key_text k ++ codes " " ++ name ++ codes " ") (decimal seconds)
    (above-append 10 (key_text k ++ codes " " ++ name) (codes " ")
    (above-append 10 (key_text k ++ codes " ") name (above-append 10 (key_text k) (codes " ") (above-key k fits) above-space) (above-name name named))
    above-space) (above-number seconds small)

body-is : (words : List ℕ) → AreAbove 10 words → body_of (words ++ line_end ∷ []) ≡ Some words
body-is words above = rw (cut-word line_end words [] above) refl

one-line : (words : List ℕ) → AreAbove 10 (codes "open " ++ words) → length ((codes "open " ++ words) ++ line_end ∷ []) ≤ line_limit → IsOneLine ((codes "open " ++ words) ++ line_end ∷ [])
unfolding line_from
one-line words above short = record {
  words = codes "open " ++ words;
  is = refl;
  whole = no_end (codes "open " ++ words) above;
  short = short;
  asks = ap (λ (o : Option (List ℕ)). has_one_answer (o >>= words_from)) (body-is (codes "open " ++ words) above) ∙ one-words words;
}

pub open_one : (k : Key) (name : List ℕ) (seconds : ℕ) → FitsKey k → is_name name ≡ true → seconds < 2 ^ 64 → length (open_text k name seconds) ≤ line_limit → IsOneLine (open_text k name seconds)
open_one k name seconds fits named small short =
    let same : open_text k name seconds ≡ (codes "open " ++ open_words k name seconds) ++ line_end ∷ [] = simp append_assoc in
    let above : AreAbove 10 (codes "open ") = (omega arith, (omega arith, (omega arith, (omega arith, (omega arith, tt))))) in
    subst IsOneLine (sym same)
    (one-line (open_words k name seconds) (above-append 10 (codes "open ") (open_words k name seconds) above (above-words k name seconds fits named small))
    (subst (λ (l : List ℕ). length l ≤ line_limit) same short))
