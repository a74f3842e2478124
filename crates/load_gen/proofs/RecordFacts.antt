-- The records of the generator have a spelling.
use Rattle.std.proofs.Common.{◌≡◌, ℕ, zero, suc, ◌+◌, ◌-◌, true, false, nat_lt, ◌<◌, ◌≤◌, ◌^◌, List, [], ◌∷◌, ◌++◌, length, take, replicate, refl, sym, ap, ◌∙◌, arith}
use Rattle.std.proofs.Math.Seq.{take-append-add}
use Rattle.std.proofs.lemmas.Bool.Decides.{nat_tests}
use Rattle.octet_format.specs.Octets.{IsBytes}
use Rattle.refl_types.specs.declared.types.Endpoint.{Endpoint}
use Rattle.refl_types.specs.Configs.{IsConfig, are_known_tlvs}
use Rattle.refl_types.specs.Spelling.{FitsEndpoint, FitsConfig}
use Rattle.replay_format.specs.Records.{Fits, Arrives}
use Rattle.load_gen.specs.Generator.{peer, config, opening, datagram_by, datagram_from, state, record_of}

bytes_none : IsBytes []
bytes_none zero = omega arith
bytes_none (suc i) = omega arith

bytes_more : (b : ℕ) (l : List ℕ) → b < 256 → IsBytes l → IsBytes (b ∷ l)
bytes_more b l small rest zero = small
bytes_more b l small rest (suc i) = rest i

pub fits_peer : (p : ℕ) → p < 255 → FitsEndpoint (peer p)
fits_peer p small = record {
  address = (refl, bytes_more 10 (0 ∷ 0 ∷ (p + 1) ∷ []) (omega arith) (bytes_more 0 (0 ∷ (p + 1) ∷ []) (omega arith) (bytes_more 0 ((p + 1) ∷ []) (omega arith) (bytes_more (p + 1) [] (omega arith) bytes_none))));
  port = omega arith;
}

pub is_config : IsConfig config
unfolding are_known_tlvs config
is_config = record { multiplier = omega arith; scale = omega arith; tlvs = refl }

pub fits_config : FitsConfig config
unfolding config
fits_config = record {
  is_config = is_config;
  offset = omega arith;
  multiplier = omega arith;
  info = (refl, bytes_more 0 (replicate 3 0) (omega arith) (bytes_more 0 (replicate 2 0) (omega arith) (bytes_more 0 (replicate 1 0) (omega arith) (bytes_more 0 [] (omega arith) bytes_none))));
  tlvs = omega arith;
  block = record {};
}

pub fits_opening : (i : ℕ) → i < 8 → Fits (opening i)
fits_opening i small = record {
  session = record {
    key = record { local = omega arith; peer = fits_peer i (omega arith); ssid = omega arith };
    reflect = omega arith;
    sound = refl;
  };
  config = fits_config;
}

-- what is taken past a front
pub take_behind : (front rest : List ℕ) (at n : ℕ) → length front ≡ at → take (at + n) (front ++ rest) ≡ front ++ take n rest
take_behind front rest at n len = ap (λ (k : ℕ). take (k + n) (front ++ rest)) (sym len) ∙ take-append-add front rest n

pub fits_arrival : (e : Endpoint) (arrival : ℕ) (octets : List ℕ) → FitsEndpoint e → arrival < 2 ^ 63 → length octets ≤ 111 → IsBytes octets → Fits (Arrives (datagram_from e arrival octets))
fits_arrival e arrival octets sender early limit bytes = record {
  local = omega arith;
  peer = sender;
  ttl = record {};
  arrival = omega (arith, early);
  t3 = omega (arith, early);
  octets = bytes;
  len = omega (arith, limit);
}

-- ---- which record an index has

pub record_opening : (seed i : ℕ) → i < 8 → record_of seed i ≡ opening i
unfolding record_of
record_opening seed i early =
    let test : nat_lt i 8 ≡ true = grind (arith, nat_tests) in
    rw test refl

pub record_datagram : (seed i : ℕ) → 8 ≤ i → record_of seed i ≡ datagram_by (i - 8) (state seed (i - 8 + 1))
unfolding record_of
record_datagram seed i late =
    let test : nat_lt i 8 ≡ false = grind (arith, nat_tests) in
    rw test refl
