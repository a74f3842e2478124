-- A server reads the request that a client wrote.
use Rattle.std.proofs.Common.{◌≡◌, ℕ, ◌%◌, ◌^◌, ◌<◌, Bool, true, false, eqb, List, [], ◌∷◌, ◌++◌, length, take, drop, replicate, get_or, Option, Some, None, Ok, refl, ap, ◌∙◌, arith, append_assoc}
use Rattle.std.proofs.lemmas.List.{take_at, drop_at, length-append}
use Rattle.std.proofs.lemmas.Nat.{from_be_bytes-to_be_bytes_2}
use Rattle.std.proofs.lemmas.Bool.Decides.{nat_tests}
use Rattle.std.specs.Int.{w16, w32, to_be_bytes, from_be_bytes}
use Rattle.octet_format.specs.Octets.{field}
use Rattle.refl_types.specs.declared.types.Address.{Address}
use Rattle.refl_types.specs.declared.types.Address.TheVariants.{V4, V6}
use Rattle.control_msgs.specs.declared.types.Request.{Request}
use Rattle.control_msgs.specs.Layout.{address_field, ip_version, request_message}
use Rattle.control_msgs.specs.Reads.{IsAddress, IsWritable, address_read, asks_for_more, first_fault, is_version, request_of, request_read, sender_port_of, slots_of, type_p_of, version_of}

-- a field between others
field-between : (front f rest o : List ℕ) (at n : ℕ) → o ≡ front ++ f ++ rest → length front ≡ at → length f ≡ n → field at n o ≡ f
field-between front f rest o at n e len count =
    ap (λ (l : List ℕ). take n (drop at l)) (e ∙ append_assoc front f rest)
    ∙ ap (take n) (drop_at front (f ++ rest) at len)
    ∙ take_at f rest n count

-- ---- from its fields alone

fault_free : (o : List ℕ) → get_or o 0 0 ≡ 5 → is_version (version_of o) ≡ true → asks_for_more o ≡ false → slots_of o ≡ 0 → type_p_of o ≡ 0 → eqb (sender_port_of o) 0 ≡ false → first_fault o ≡ None
unfolding first_fault
fault_free o command version conf slots type_p port = rw (command, version, conf, slots, type_p, port) refl

read_clean : (o : List ℕ) (r : Request) → first_fault o ≡ None → request_of o ≡ r → request_read o ≡ Ok r
unfolding request_read
read_clean o r clean same = rw (clean, same) refl

made_same : (o : List ℕ) (r : Request)
    → address_read (eqb (version_of o) 6) (field 16 16 o) ≡ r.sender
    → address_read (eqb (version_of o) 6) (field 32 16 o) ≡ r.receiver
    → eqb (version_of o) 6 ≡ r.v6
    → sender_port_of o ≡ r.sender_port
    → from_be_bytes w16 (field 14 2 o) ≡ r.receiver_port
    → field 76 8 o ≡ r.timeout
    → field 88 2 o ≡ r.octets
    → from_be_bytes w16 (field 90 2 o) ≡ r.reflect
    → request_of o ≡ r
unfolding request_of
made_same o r sender receiver v6 port other timeout octets reflect = rw (sender, receiver, v6, port, other, timeout, octets, reflect) refl

-- ---- addresses

-- octets of an address of the length of its type
abbrev Fits : Option Address → Type 0
Fits None = Unit {0}
Fits (Some (V4 a)) = length a ≡ 4
Fits (Some (V6 a)) = length a ≡ 16

fits_field : (a : Option Address) → length (address_field a) ≡ 16 → Fits a
fits_field None len = tt
fits_field (Some (V4 a)) len = omega (arith, length-append a (replicate 12 0), len)
fits_field (Some (V6 a)) len = len

address_again : (v6 : Bool) (a : Option Address) → IsAddress v6 a → Fits a → address_read v6 (address_field a) ≡ a
address_again true None ok fits = refl
address_again false None ok fits = refl
address_again true (Some (V6 a)) ok fits = rw ok refl
address_again false (Some (V4 a)) ok fits = rw (take_at a (replicate 12 0) 4 fits, ok) refl
address_again true (Some (V4 a)) ok fits = absurd ok
address_again false (Some (V6 a)) ok fits = absurd ok

-- ---- the whole message

-- lengths and numbers of the types
pub record IsSized (r : Request) : Type 0 where
  pub sender_port : r.sender_port < 2 ^ 16
  pub receiver_port : r.receiver_port < 2 ^ 16
  pub reflect : r.reflect < 2 ^ 16
  pub timeout : length r.timeout ≡ 8
  pub octets : length r.octets ≡ 2
  pub sender : length (address_field r.sender) ≡ 16
  pub receiver : length (address_field r.receiver) ≡ 16

version_again : (v6 : Bool) → is_version (ip_version v6 % 16) ≡ true
version_again true = refl
version_again false = refl

family_again : (v6 : Bool) → eqb (ip_version v6 % 16) 6 ≡ v6
family_again true = refl
family_again false = refl

positive : (n : ℕ) → 0 < n → eqb n 0 ≡ false
positive n lt = grind (arith, nat_tests)

-- the fields from the addresses on
record IsLaidOut (o front s r z1 z2 z3 t y q w z4 z5 : List ℕ) : Type 0 where
  sum : o ≡ front ++ s ++ r ++ z1 ++ z2 ++ z3 ++ t ++ y ++ q ++ w ++ z4 ++ z5
  front16 : length front ≡ 16
  s16 : length s ≡ 16
  r16 : length r ≡ 16
  z16 : length z1 ≡ 16
  z4l : length z2 ≡ 4
  z8l : length z3 ≡ 8
  t8 : length t ≡ 8
  y4 : length y ≡ 4
  q2 : length q ≡ 2
  w2 : length w ≡ 2

record AreFields (o s r t y q w : List ℕ) : Type 0 where
  sender : field 16 16 o ≡ s
  receiver : field 32 16 o ≡ r
  timeout : field 76 8 o ≡ t
  type_p : field 84 4 o ≡ y
  octets : field 88 2 o ≡ q
  reflect : field 90 2 o ≡ w

laid_out : (o front s r z1 z2 z3 t y q w z4 z5 : List ℕ) → IsLaidOut o front s r z1 z2 z3 t y q w z4 z5 → AreFields o s r t y q w
laid_out o front s r z1 z2 z3 t y q w z4 z5 l =
    let l1 = length-append front s in
    let l2 = length-append (front ++ s) r in
    let l3 = length-append (front ++ s ++ r) z1 in
    let l4 = length-append (front ++ s ++ r ++ z1) z2 in
    let l5 = length-append (front ++ s ++ r ++ z1 ++ z2) z3 in
    let l6 = length-append (front ++ s ++ r ++ z1 ++ z2 ++ z3) t in
    let l7 = length-append (front ++ s ++ r ++ z1 ++ z2 ++ z3 ++ t) y in
    let l8 = length-append (front ++ s ++ r ++ z1 ++ z2 ++ z3 ++ t ++ y) q in
    record {
      sender = field-between front s (r ++ z1 ++ z2 ++ z3 ++ t ++ y ++ q ++ w ++ z4 ++ z5) o 16 16 (l.sum ∙ simp append_assoc) l.front16 l.s16;
      receiver = field-between (front ++ s) r (z1 ++ z2 ++ z3 ++ t ++ y ++ q ++ w ++ z4 ++ z5) o 32 16 (l.sum ∙ simp append_assoc) (omega (arith, l)) l.r16;
      timeout = field-between (front ++ s ++ r ++ z1 ++ z2 ++ z3) t (y ++ q ++ w ++ z4 ++ z5) o 76 8 (l.sum ∙ simp append_assoc) (omega (arith, l)) l.t8;
      type_p = field-between (front ++ s ++ r ++ z1 ++ z2 ++ z3 ++ t) y (q ++ w ++ z4 ++ z5) o 84 4 (l.sum ∙ simp append_assoc) (omega (arith, l)) l.y4;
      octets = field-between (front ++ s ++ r ++ z1 ++ z2 ++ z3 ++ t ++ y) q (w ++ z4 ++ z5) o 88 2 (l.sum ∙ simp append_assoc) (omega (arith, l)) l.q2;
      reflect = field-between (front ++ s ++ r ++ z1 ++ z2 ++ z3 ++ t ++ y ++ q) w (z4 ++ z5) o 90 2 (l.sum ∙ simp append_assoc) (omega (arith, l)) l.w2;
    }

front_of : Request → List ℕ
front_of r = (5 ∷ []) ++ (ip_version r.v6 ∷ []) ++ (0 ∷ []) ++ (0 ∷ []) ++ replicate 4 0 ++ replicate 4 0 ++ to_be_bytes w16 r.sender_port ++ to_be_bytes w16 r.receiver_port

message_fields : (r : Request) → IsSized r → AreFields (request_message r) (address_field r.sender) (address_field r.receiver) r.timeout (replicate 4 0) r.octets (to_be_bytes w16 r.reflect)
unfolding request_message front_of
message_fields r z =
    laid_out (request_message r) (front_of r) (address_field r.sender) (address_field r.receiver) (replicate 16 0) (replicate 4 0) (replicate 8 0) r.timeout (replicate 4 0) r.octets (to_be_bytes w16 r.reflect) (replicate 4 0) (replicate 16 0)
    (record { sum = refl; front16 = refl; s16 = z.sender; r16 = z.receiver; z16 = refl; z4l = refl; z8l = refl; t8 = z.timeout; y4 = refl; q2 = z.octets; w2 = refl })

-- the fields before the addresses, at their places
record AreFirst (o : List ℕ) (r : Request) : Type 0 where
  command : get_or o 0 0 ≡ 5
  version : version_of o ≡ ip_version r.v6 % 16
  conf : asks_for_more o ≡ false
  slots : slots_of o ≡ 0
  sender_port : field 12 2 o ≡ to_be_bytes w16 r.sender_port
  receiver_port : field 14 2 o ≡ to_be_bytes w16 r.receiver_port

first_fields : (r : Request) → AreFirst (request_message r) r
unfolding request_message
first_fields r = record { command = refl; version = refl; conf = refl; slots = refl; sender_port = refl; receiver_port = refl }

request_again : (o : List ℕ) (r : Request) → IsWritable r → IsSized r → AreFirst o r → AreFields o (address_field r.sender) (address_field r.receiver) r.timeout (replicate 4 0) r.octets (to_be_bytes w16 r.reflect) → request_read o ≡ Ok r
request_again o r ok z a f =
    let port : sender_port_of o ≡ r.sender_port = ap (from_be_bytes w16) a.sender_port ∙ from_be_bytes-to_be_bytes_2 r.sender_port z.sender_port in
    let other : from_be_bytes w16 (field 14 2 o) ≡ r.receiver_port = ap (from_be_bytes w16) a.receiver_port ∙ from_be_bytes-to_be_bytes_2 r.receiver_port z.receiver_port in
    let reflect : from_be_bytes w16 (field 90 2 o) ≡ r.reflect = ap (from_be_bytes w16) f.reflect ∙ from_be_bytes-to_be_bytes_2 r.reflect z.reflect in
    let type_p : type_p_of o ≡ 0 = ap (from_be_bytes w32) f.type_p in
    let v6 : eqb (version_of o) 6 ≡ r.v6 = ap (λ (n : ℕ). eqb n 6) a.version ∙ family_again r.v6 in
    let sender : address_read (eqb (version_of o) 6) (field 16 16 o) ≡ r.sender = ap (λ (b : Bool). address_read b (field 16 16 o)) v6 ∙ ap (address_read r.v6) f.sender ∙ address_again r.v6 r.sender ok.sender (fits_field r.sender z.sender) in
    let receiver : address_read (eqb (version_of o) 6) (field 32 16 o) ≡ r.receiver = ap (λ (b : Bool). address_read b (field 32 16 o)) v6 ∙ ap (address_read r.v6) f.receiver ∙ address_again r.v6 r.receiver ok.receiver (fits_field r.receiver z.receiver) in
    read_clean o r
    (fault_free o a.command (ap is_version a.version ∙ version_again r.v6) a.conf a.slots type_p (ap (λ (n : ℕ). eqb n 0) port ∙ positive r.sender_port ok.sender_port))
    (made_same o r sender receiver v6 port other f.timeout f.octets reflect)

pub read_again : (r : Request) → IsWritable r → IsSized r → request_read (request_message r) ≡ Ok r
read_again r ok z = request_again (request_message r) r ok z (first_fields r) (message_fields r z)
