-- No answer begins another one: an answer is had back from its tag and its body.
use Rattle.std.proofs.Common.{◌≡◌, ℕ, ◌+◌, ◌^◌, ◌<◌, Bool, false, cond, eqb, List, [], ◌∷◌, ◌++◌, length, take, drop, get_or, Option, Some, None, Result, Ok, refl, sym, ap, ◌∙◌, append_assoc, arith}
use Rattle.std.specs.Int.{w16, w32, w64, to_be_bytes, from_be_bytes}
use Rattle.std.proofs.lemmas.Bool.Decides.{nat_tests}
use Rattle.std.proofs.lemmas.List.{take_at, drop_at, length-append}
use Rattle.std.proofs.lemmas.Nat.{from_be_bytes-to_be_bytes_4, from_be_bytes-to_be_bytes_8}
use Rattle.octet_format.specs.declared.reading.Unread.{Unread}
use Rattle.octet_format.specs.Reading.{◌>>=◌, number_at}
use Rattle.octet_format.proofs.Obeys.{ok_is, u16_obeys, u32_obeys}
use Rattle.refl_types.specs.Spelling.{endpoint_octets}
use Rattle.session_octets.specs.Reading.{endpoint_at}
use Rattle.session_octets.proofs.Formats.{endpoint_obeys, endpoint_octets_length}
use Rattle.replay_format.specs.declared.code.OpenAnswer.{OpenAnswer}
use Rattle.replay_format.specs.declared.code.OpenAnswer.TheVariants as opens
use Rattle.replay_format.specs.declared.code.SetAnswer.{SetAnswer}
use Rattle.replay_format.specs.declared.code.SetAnswer.TheVariants as sets
use Rattle.replay_format.specs.declared.code.UnsentCause.{UnsentCause}
use Rattle.replay_format.specs.declared.code.UnsentCause.TheVariants as causes
use Rattle.replay_format.specs.Codes.{open_code, set_code, unsent_code}
use Rattle.replay_format.specs.Records.{framed}
use Rattle.replay_format.specs.Answers.{Answer, Opened, Set, Closed, Listed, Sent, Unsent, Left, Sending, sending_octets, sent_octets, closed_octets, answer_octets, FitsSending, IsInRange}

-- ---- codes

open_from : ℕ → OpenAnswer
open_from n = cond (eqb n 0) opens.Opened (cond (eqb n 1) opens.Duplicate (cond (eqb n 2) opens.ModeClash (cond (eqb n 3) opens.Full (cond (eqb n 4) opens.RowsFull opens.NoKey))))

open_back : (a : OpenAnswer) → open_from (open_code a) ≡ a
unfolding open_from
open_back opens.Opened = refl
open_back opens.Duplicate = refl
open_back opens.ModeClash = refl
open_back opens.Full = refl
open_back opens.RowsFull = refl
open_back opens.NoKey = refl

set_from : ℕ → SetAnswer
set_from n = cond (eqb n 0) sets.Set (cond (eqb n 4) sets.RowsFull (cond (eqb n 5) sets.NoKey sets.NoSuch))

set_back : (a : SetAnswer) → set_from (set_code a) ≡ a
unfolding set_from
set_back sets.Set = refl
set_back sets.RowsFull = refl
set_back sets.NoKey = refl
set_back sets.NoSuch = refl

pub cause_from : ℕ → UnsentCause
cause_from n = cond (eqb n 1) causes.NoSession (cond (eqb n 2) causes.Short (cond (eqb n 3) causes.BadHmac causes.NoReply))

pub cause_back : (a : UnsentCause) → cause_from (unsent_code a) ≡ a
unfolding cause_from
cause_back causes.NoSession = refl
cause_back causes.Short = refl
cause_back causes.BadHmac = refl
cause_back causes.NoReply = refl

-- ---- a reply that was sent

sending_from : List ℕ → Result Sending Unread
sending_from body = number_at w16 (drop 1 body) >>= λ f. endpoint_at f.1 >>= λ e. number_at w32 e.1 >>= λ n. Ok (record { from = f.0; to = e.0; number = n.0; octets = n.1 })

behind : (a b c d : List ℕ) → ((a ++ b) ++ c) ++ d ≡ a ++ (b ++ (c ++ d))
behind a b c d = simp append_assoc

sending_back : (s : Sending) → FitsSending s → sending_from (sending_octets s) ≡ Ok s
unfolding sending_from
sending_back s f =
    let a : number_at w16 (drop 1 (sending_octets s)) ≡ Ok (s.from, endpoint_octets s.to ++ (to_be_bytes w32 s.number ++ s.octets)) =
    ap (number_at w16) (behind (to_be_bytes w16 s.from) (endpoint_octets s.to) (to_be_bytes w32 s.number) s.octets) ∙ u16_obeys.again s.from (endpoint_octets s.to ++ (to_be_bytes w32 s.number ++ s.octets)) f.from in
    let b : endpoint_at (endpoint_octets s.to ++ (to_be_bytes w32 s.number ++ s.octets)) ≡ Ok (s.to, to_be_bytes w32 s.number ++ s.octets) = endpoint_obeys.again s.to (to_be_bytes w32 s.number ++ s.octets) f.to in
    let c : number_at w32 (to_be_bytes w32 s.number ++ s.octets) ≡ Ok (s.number, s.octets) = u32_obeys.again s.number s.octets f.number in
    ap (λ r. r >>= λ x. endpoint_at x.1 >>= λ e. number_at w32 e.1 >>= λ n. Ok (record { from = x.0; to = e.0; number = n.0; octets = n.1 })) a
    ∙ ap (λ r. r >>= λ e. number_at w32 e.1 >>= λ n. Ok (record { from = s.from; to = e.0; number = n.0; octets = n.1 })) b
    ∙ ap (λ r. r >>= λ n. Ok (record { from = s.from; to = s.to; number = n.0; octets = n.1 })) c

-- ---- tags and bodies

tag_of : Answer → ℕ
tag_of (Opened a) = 129
tag_of (Set a) = 130
tag_of (Closed count) = 131
tag_of Listed = 133
tag_of (Sent s) = 132
tag_of (Unsent cause) = 132
tag_of (Left offset) = 255

body_of : Answer → List ℕ
body_of (Opened a) = open_code a ∷ []
body_of (Set a) = set_code a ∷ []
body_of (Closed count) = closed_octets count
body_of Listed = 0 ∷ []
body_of (Sent s) = sending_octets s
body_of (Unsent cause) = unsent_code cause ∷ []
body_of (Left offset) = to_be_bytes w64 offset

in_parts : (a : Answer) → answer_octets a ≡ framed (tag_of a) (body_of a)
unfolding answer_octets sent_octets tag_of body_of
in_parts (Opened a) = refl
in_parts (Set a) = refl
in_parts (Closed count) = refl
in_parts Listed = refl
in_parts (Sent s) = refl
in_parts (Unsent cause) = refl
in_parts (Left offset) = refl

count_from : List ℕ → Option ℕ
count_from body = cond (eqb (get_or body 0 0) 6) None (Some (from_be_bytes w32 (drop 1 body)))

-- what has the tag 132: one octet is a cause
arrival_from : List ℕ → Result Answer Unread
arrival_from body = cond (eqb (length body) 1) (Ok (Unsent (cause_from (get_or body 0 0)))) (sending_from body >>= λ s. Ok (Sent s))

answer_from : ℕ → List ℕ → Result Answer Unread
answer_from tag body =
    cond (eqb tag 129) (Ok (Opened (open_from (get_or body 0 0))))
    (cond (eqb tag 130) (Ok (Set (set_from (get_or body 0 0))))
    (cond (eqb tag 131) (Ok (Closed (count_from body)))
    (cond (eqb tag 133) (Ok Listed)
    (cond (eqb tag 255) (Ok (Left (from_be_bytes w64 body)))
    (arrival_from body)))))

count_back : (count : Option ℕ) → IsInRange (Closed count) → count_from (closed_octets count) ≡ count
unfolding count_from
count_back None f = refl
count_back (Some n) f = ap (λ (m : ℕ). Some m) (from_be_bytes-to_be_bytes_4 n f)

length-sending : (s : Sending) → FitsSending s → length (sending_octets s) ≡ 26 + length s.octets
length-sending s f =
    let a : length (0 ∷ to_be_bytes w16 s.from) ≡ 3 = refl in
    let b : length (to_be_bytes w32 s.number) ≡ 4 = refl in
    omega (arith, endpoint_octets_length s.to f.to, length-append (0 ∷ to_be_bytes w16 s.from) (endpoint_octets s.to), length-append ((0 ∷ to_be_bytes w16 s.from) ++ endpoint_octets s.to) (to_be_bytes w32 s.number), length-append ((0 ∷ to_be_bytes w16 s.from) ++ endpoint_octets s.to ++ to_be_bytes w32 s.number) s.octets)

sent_back : (s : Sending) → FitsSending s → arrival_from (sending_octets s) ≡ Ok (Sent s)
unfolding arrival_from
sent_back s f =
    let size = length-sending s f in
    let long : eqb (length (sending_octets s)) 1 ≡ false = grind (arith, nat_tests, size) in
    ap (λ (b : Bool). cond b (Ok (Unsent (cause_from (get_or (sending_octets s) 0 0)))) (sending_from (sending_octets s) >>= λ s. Ok (Sent s))) long
    ∙ ap (λ r. r >>= λ s. Ok (Sent s)) (sending_back s f)

answer_back : (a : Answer) → IsInRange a → answer_from (tag_of a) (body_of a) ≡ Ok a
unfolding answer_from arrival_from tag_of body_of
answer_back (Opened a) f = ap (λ (x : OpenAnswer). Ok (Opened x)) (open_back a)
answer_back (Set a) f = ap (λ (x : SetAnswer). Ok (Set x)) (set_back a)
answer_back (Closed count) f = ap (λ (x : Option ℕ). Ok (Closed x)) (count_back count f)
answer_back Listed f = refl
answer_back (Sent s) f = sent_back s f
answer_back (Unsent cause) f = ap (λ (x : UnsentCause). Ok (Unsent x)) (cause_back cause)
answer_back (Left offset) f = ap (λ (n : ℕ). Ok (Left n)) (from_be_bytes-to_be_bytes_8 offset f)

short_body : (a : Answer) → IsInRange a → length (body_of a) < 2 ^ 32
unfolding body_of
short_body (Opened a) f = omega arith
short_body (Set a) f = omega arith
short_body (Closed None) f = omega arith
short_body (Closed (Some n)) f = omega arith
short_body Listed f = omega arith
short_body (Sent s) f = omega (arith, length-sending s f, f.len)
short_body (Unsent cause) f = omega arith
short_body (Left offset) f = omega arith

-- ---- frames

pub framed_one : (t u : ℕ) (a b x y : List ℕ) → length a < 2 ^ 32 → length b < 2 ^ 32 → framed t a ++ x ≡ framed u b ++ y → (t ≡ u) × (a ≡ b) × (x ≡ y)
framed_one t u a b x y la lb e =
    let tag : t ≡ u = ap (λ (l : List ℕ). get_or l 0 0) e in
    let rest : to_be_bytes w32 (length a) ++ (a ++ x) ≡ to_be_bytes w32 (length b) ++ (b ++ y) =
    sym (append_assoc (to_be_bytes w32 (length a)) a x) ∙ ap (drop 1) e ∙ append_assoc (to_be_bytes w32 (length b)) b y in
    let p = ok_is (length a, a ++ x) (length b, b ++ y) (sym (u32_obeys.again (length a) (a ++ x) la) ∙ ap (number_at w32) rest ∙ u32_obeys.again (length b) (b ++ y) lb) in
    let size : length a ≡ length b = ap (λ (z : ℕ × List ℕ). z.0) p in
    let all : a ++ x ≡ b ++ y = ap (λ (z : ℕ × List ℕ). z.1) p in (
      tag,
      sym (take_at a x (length b) size) ∙ ap (take (length b)) all ∙ take_at b y (length b) refl,
      sym (drop_at a x (length b) size) ∙ ap (drop (length b)) all ∙ drop_at b y (length b) refl,
    )

pub one_front : (a b : Answer) (x y : List ℕ) → IsInRange a → IsInRange b → answer_octets a ++ x ≡ answer_octets b ++ y → (a ≡ b) × (x ≡ y)
one_front a b x y fa fb e =
    let p = framed_one (tag_of a) (tag_of b) (body_of a) (body_of b) x y (short_body a fa) (short_body b fb) (ap (λ (l : List ℕ). l ++ x) (sym (in_parts a)) ∙ e ∙ ap (λ (l : List ℕ). l ++ y) (in_parts b)) in
    (ok_is a b (sym (answer_back a fa) ∙ ap (λ (n : ℕ). answer_from n (body_of a)) p.0 ∙ ap (answer_from (tag_of b)) p.1 ∙ answer_back b fb), p.2)
