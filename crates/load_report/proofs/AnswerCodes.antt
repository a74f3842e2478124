-- The kind of an answer shows in its tag and its code.
use Rattle.std.proofs.Common.{◌≡◌, ℕ, ◌+◌, ◌≤◌, ◌&&◌, ◌==◌, Bool, true, List, length, get_or, nat_lt, Some, None, refl, ap, ◌∙◌, arith}
use Rattle.std.proofs.lemmas.Bool.Decides.{nat_tests}
use Rattle.replay_format.specs.declared.code.UnsentCause.TheVariants as causes
use Rattle.replay_format.specs.Answers.{Answer, Opened, Set, Closed, Listed, Sent, Unsent, Left, answer_octets, sent_octets}
use Rattle.load_report.specs.declared.counting.Counts.{Counts}
use Rattle.load_report.specs.Kinds.{is_sent, lacks_session, one_if}
use Rattle.load_report.specs.Counting.{counted}

abbrev pub has_code : ℕ → List ℕ → Bool
has_code code octets = nat_lt 5 (length octets) && get_or octets 0 0 == 132 && get_or octets 5 0 == code

abbrev codes_say : ℕ → List ℕ → Bool
codes_say code octets = get_or octets 0 0 == 132 && get_or octets 5 0 == code

sent_code : (a : Answer) → codes_say 0 (answer_octets a) ≡ is_sent a
unfolding answer_octets sent_octets
sent_code (Sent s) = refl
sent_code (Unsent causes.NoSession) = refl
sent_code (Unsent causes.Short) = refl
sent_code (Unsent causes.BadHmac) = refl
sent_code (Unsent causes.NoReply) = refl
sent_code (Opened a) = refl
sent_code (Set a) = refl
sent_code (Closed count) = refl
sent_code Listed = refl
sent_code (Left offset) = refl

no_session_code : (a : Answer) → codes_say 1 (answer_octets a) ≡ lacks_session a
unfolding answer_octets sent_octets
no_session_code (Sent s) = refl
no_session_code (Unsent causes.NoSession) = refl
no_session_code (Unsent causes.Short) = refl
no_session_code (Unsent causes.BadHmac) = refl
no_session_code (Unsent causes.NoReply) = refl
no_session_code (Opened a) = refl
no_session_code (Set a) = refl
no_session_code (Closed count) = refl
no_session_code Listed = refl
no_session_code (Left offset) = refl

-- no answer is shorter
six_octets : (a : Answer) → 6 ≤ length (answer_octets a)
unfolding answer_octets sent_octets
six_octets (Sent s) = omega arith
six_octets (Unsent cause) = omega arith
six_octets (Opened a) = omega arith
six_octets (Set a) = omega arith
six_octets (Closed None) = omega arith
six_octets (Closed (Some n)) = omega arith
six_octets Listed = omega arith
six_octets (Left offset) = omega arith

long : (code : ℕ) (a : Answer) → has_code code (answer_octets a) ≡ codes_say code (answer_octets a)
long code a =
    let six = six_octets a in
    let test : nat_lt 5 (length (answer_octets a)) ≡ true = grind (arith, nat_tests) in
    ap (λ (b : Bool). b && get_or (answer_octets a) 0 0 == 132 && get_or (answer_octets a) 5 0 == code) test

pub same_counts : (a b : Counts) → a.sent ≡ b.sent → a.no_session ≡ b.no_session → a.octets ≡ b.octets → a ≡ b
same_counts a b sent no_session octets =
    ap (λ (n : ℕ). record { sent = n; no_session = a.no_session; octets = a.octets }) sent
    ∙ ap (λ (n : ℕ). record { sent = b.sent; no_session = n; octets = a.octets }) no_session
    ∙ ap (λ (n : ℕ). record { sent = b.sent; no_session = b.no_session; octets = n }) octets

-- what is counted of octets that are an answer
pub counted_by_codes : (c new : Counts) (a : Answer) (octets : List ℕ) → octets ≡ answer_octets a → new.sent ≡ c.sent + one_if (has_code 0 octets) → new.no_session ≡ c.no_session + one_if (has_code 1 octets)
    → new.octets ≡ c.octets + length octets → new ≡ counted c a
counted_by_codes c new a octets same sent no_session len =
    same_counts new (counted c a)
    (sent ∙ ap (λ (l : List ℕ). c.sent + one_if (has_code 0 l)) same ∙ ap (λ (b : Bool). c.sent + one_if b) (long 0 a ∙ sent_code a))
    (no_session ∙ ap (λ (l : List ℕ). c.no_session + one_if (has_code 1 l)) same ∙ ap (λ (b : Bool). c.no_session + one_if b) (long 1 a ∙ no_session_code a))
    (len ∙ ap (λ (l : List ℕ). c.octets + length l) same)
