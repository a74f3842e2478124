-- Where no call fails, what the source holds decides how a replay ends.
use Rattle.std.proofs.Common.{◌≡◌, inl, inr, refl, arith}
use Rattle.program.specs.Decides.{StreamDecides, LeftNoStream}
use Rattle.program.proofs.Going.{left_no_stream, left_none, done_none}

pub stream_decides : StreamDecides
stream_decides octets left' failed failed' old new status (inl h) reads writes = (λ records stream. inl h.0, λ none. absurd (done_none _ _ _ _ octets h.1 refl none))
stream_decides octets left' failed failed' old new status (inr (inl h)) reads writes = (λ records stream. inr h.0, λ none. inr h.0)
stream_decides octets left' failed failed' old new status (inr (inr (inl h))) reads writes = (λ records stream. absurd (left_none _ _ _ _ octets records h.1 refl stream), λ none. inl h.0)
stream_decides octets left' failed failed' old new status (inr (inr (inr (inl h)))) reads writes = absurd (reads h.3)
stream_decides octets left' failed failed' old new status (inr (inr (inr (inr h)))) reads writes = absurd (writes h.2)

pub no_stream : LeftNoStream
no_stream left left' failed failed' old new status (inl h) six = let e : status ≡ 0 = h.0 in absurd (omega (arith, e, six))
no_stream left left' failed failed' old new status (inr (inl h)) six = let e : status ≡ 4 = h.0 in absurd (omega (arith, e, six))
no_stream left left' failed failed' old new status (inr (inr (inl h))) six = left_no_stream left left' old.written new.written h.1
no_stream left left' failed failed' old new status (inr (inr (inr (inl h)))) six = let e : status ≡ 7 = h.0 in absurd (omega (arith, e, six))
no_stream left left' failed failed' old new status (inr (inr (inr (inr h)))) six = let e : status ≡ 8 = h.0 in absurd (omega (arith, e, six))
