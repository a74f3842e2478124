-- What reading a record says, by its spelling alone.
use Rattle.std.proofs.Common.{◌≡◌, ℕ, ◌-◌, ◌≤◌, List, [], ◌++◌, length, drop, Ok, Err, sym, ap, ◌∙◌, append_assoc, arith}
use Rattle.std.proofs.lemmas.List.{append-nil, drop_at, length-append}
use Rattle.octet_format.specs.declared.reading.Unread.TheVariants.{More, Bad}
use Rattle.octet_format.specs.Octets.{IsBytes}
use Rattle.replay_format.specs.Records.{Item, Fits, spelling}
use Rattle.replay_format.specs.InnerReading.{item_at}
use Rattle.replay_format.specs.View.{item_of, IsFront, IsBegun, IsForeign, IsParsed, IsRecord}
use Rattle.replay_format.specs.declared.record.Parsed.{Parsed}
use Rattle.replay_format.specs.declared.record.Parsed.TheVariants as parsed
use Rattle.octet_format.proofs.Obeys.{ok_is, ok_err}
use Rattle.replay_format.proofs.Formats.{item_obeys}

pub rest_shorter : (octets rest : List ℕ) (item : Item) → IsBytes octets → item_at octets ≡ Ok (item, rest) → length rest ≤ length octets
rest_shorter octets rest item bytes e = let g = item_obeys.got octets item rest bytes e in omega (arith, ap length g.0, length-append (spelling item) rest)

pub is_front : (octets rest : List ℕ) (item : Item) → IsBytes octets → item_at octets ≡ Ok (item, rest) → IsFront octets item (length octets - length rest)
is_front octets rest item bytes e =
    let g = item_obeys.got octets item rest bytes e in
    let n : length octets - length rest ≡ length (spelling item) = omega (arith, ap length g.0, length-append (spelling item) rest) in
    record {
      fits = g.1;
      len = n;
      spelled = g.0 ∙ ap (λ (r : List ℕ). spelling item ++ r) (sym (ap (drop (length octets - length rest)) g.0 ∙ drop_at (spelling item) rest (length octets - length rest) (sym n)));
    }

pub is_begun : (octets : List ℕ) → IsBytes octets → item_at octets ≡ Err More → IsBegun octets
is_begun octets bytes e = item_obeys.more octets bytes e

pub is_foreign : (octets : List ℕ) → IsBytes octets → item_at octets ≡ Err Bad → IsForeign octets
is_foreign octets bytes e = λ item rest tail fits same.
    ok_err (item, tail) Bad (sym (item_obeys.again item tail fits) ∙ ap item_at (sym same) ∙ item_obeys.bad octets rest bytes e)

pub one_front : (a b : Item) (x y : List ℕ) → Fits a → Fits b → spelling a ++ x ≡ spelling b ++ y → (a ≡ b) × (x ≡ y)
one_front a b x y fa fb e =
    let p = ok_is (a, x) (b, y) (sym (item_obeys.again a x fa) ∙ ap item_at e ∙ item_obeys.again b y fb) in
    (ap (λ (z : Item × List ℕ). z.0) p, ap (λ (z : Item × List ℕ). z.1) p)

-- a record that was written is read again
pub read_back : (p : Parsed) (item : Item) (rest : List ℕ) → Fits item → IsParsed p (spelling item ++ rest) → IsRecord p item
read_back (parsed.Record r n) item rest fits is =
    let same = one_front (item_of r) item (drop n (spelling item ++ rest)) rest is.0.fits fits (sym is.0.spelled) in
    (same.0, is.0.len ∙ ap (λ (i : Item). length (spelling i)) same.0)
read_back parsed.More item rest fits is =
    let other = is.0 in
    let more = is.1 in
    let whole : spelling item ++ (rest ++ more) ≡ spelling other ++ [] = sym (append_assoc (spelling item) rest more) ∙ is.4 ∙ sym (append-nil (spelling other)) in
    let none = (one_front item other (rest ++ more) [] fits is.2 whole).1 in
    omega (arith, is.3, ap length none, length-append rest more)
read_back parsed.Bad item rest fits is = is item [] rest fits (append-nil (spelling item ++ rest))
