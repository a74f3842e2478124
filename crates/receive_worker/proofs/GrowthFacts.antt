-- What a seat gains, what a log is told, and what a port's count rises by, call after call.
use Rattle.std.proofs.Common.{◌≡◌, inl, inr, ℕ, ◌+◌, List, [], ◌∷◌, ◌++◌, Option, Some, None, Result, Ok, refl, sym, ap, subst, ◌∙◌, append_assoc, take, length, arith}
use Rattle.std.proofs.lemmas.List.{append-nil}
use Rattle.std.proofs.Math.Seq.{take-append_seam}
use Rattle.session_world.specs.declared.steps.Step.{Step}
use Rattle.session_world.specs.Loads.{row_loads}
use Rattle.session_rule.specs.declared.seats.Table.{Table}
use Rattle.session_rule.specs.declared.seats.WorkerSeat.{WorkerSeat}
use Rattle.session_rule.specs.Seats.{worker_steps}
use Rattle.refl_types.specs.declared.types.Meta.{Meta}
use Rattle.net_io.specs.Log.{Grows}
use Rattle.port_io.specs.declared.outside.Failed.{Failed}
use Rattle.net_io.specs.declared.port.Got.{Got}
use Rattle.net_io.specs.declared.port.Got.TheVariants.{Datagram}
use Rattle.net_io.specs.Port.{PortEntry, took, got_entry, recv_entry, Receives}
use Rattle.port_io.specs.Outside.{Rises}
use Rattle.session_table.specs.Steps.{HasCome}
use Rattle.session_table.specs.Knowing.{MaybeLoads}
use Rattle.receive_worker.specs.Faults.{RisesBy}
use Rattle.receive_worker.specs.Turn.{LastTook}
use Rattle.receive_worker.specs.Work.{Gives, GivesAway}

pub grows_none : {E : Type 0} (l : Option (List E)) → Grows l l []
grows_none None = tt
grows_none (Some l) = sym (append-nil l)

pub grows_then : {E : Type 0} (a b c : Option (List E)) (x y : List E) → Grows a b x → Grows b c y → Grows a c (x ++ y)
grows_then a b None x y p q = tt
grows_then a None (Some n) x y p q = absurd q
grows_then None (Some m) (Some n) x y p q = absurd p
grows_then (Some l) (Some m) (Some n) x y p q = q ∙ ap (λ (r : List _). r ++ y) p ∙ append_assoc l x y

pub given_none : (coming : Option (List PortEntry)) → GivesAway coming coming []
given_none None = tt
given_none (Some coming) = refl

gives_then : (coming xs mid ys rest : List PortEntry) → Gives coming xs mid → Gives mid ys rest → Gives coming (xs ++ ys) rest
gives_then coming [] mid ys rest p q = subst (λ (l : List PortEntry). Gives l ys rest) p q
gives_then [] (item ∷ xs) mid ys rest p q = (p.0, gives_then [] xs mid ys rest p.1 q)
gives_then (first ∷ coming) (item ∷ xs) mid ys rest p q = (p.0, gives_then coming xs mid ys rest p.1 q)

pub given_then : (a b c : Option (List PortEntry)) (xs ys : List PortEntry) → GivesAway a b xs → GivesAway b c ys → GivesAway a c (xs ++ ys)
given_then None b c xs ys p q = tt
given_then (Some a) None c xs ys p q = absurd p
given_then (Some a) (Some b) None xs ys p q = absurd q
given_then (Some a) (Some b) (Some c) xs ys p q = gives_then a xs b ys c p q

-- what a receive gave, it gave away
pub received_gives : (a b : Option (List PortEntry)) (buf : List ℕ) (got : Got) → Receives a b buf (Ok got) → GivesAway a b (got_entry buf got ∷ [])
received_gives None b buf got h = tt
received_gives (Some a) None buf got h = absurd h
received_gives (Some []) (Some b) buf got h = h
received_gives (Some (first ∷ a)) (Some b) buf got h = h

-- one that failed gave nothing
pub failed_gives : (a b : Option (List PortEntry)) → b ≡ a → GivesAway a b []
failed_gives a b e = subst (λ (coming : Option (List PortEntry)). GivesAway a coming []) (sym e) (given_none a)

-- a log that grew by a taking has it as its last entry
grown_took : (a b : Option (List PortEntry)) (meta : Meta) (octets : List ℕ) → Grows a b (took meta octets ∷ []) → LastTook b meta octets
grown_took a None meta octets h = tt
grown_took None (Some l) meta octets h = absurd h
grown_took (Some k) (Some l) meta octets h = (k, h)

-- so has one that grew by a receive which gave a datagram
pub received_took : (a b : Option (List PortEntry)) (buf : List ℕ) (r : Result Got Failed) → Grows a b (recv_entry buf r ∷ []) → (meta : Meta) → r ≡ Ok (Datagram meta) → LastTook b meta (take meta.len buf)
received_took a b buf r grown meta e = grown_took a b meta (take meta.len buf) (subst (λ (x : Result Got Failed). Grows a b (recv_entry buf x ∷ [])) e grown)

-- a buffer to whose front these octets were written, as many as it has
pub whole_buffer : (n : ℕ) (octets rest : List ℕ) → n ≡ length octets → octets ≡ take n (octets ++ rest)
whole_buffer n octets rest e = sym (ap (λ (k : ℕ). take k (octets ++ rest)) e ∙ take-append_seam octets rest)

pub come_then : {t : Table} {a b c : WorkerSeat} {xs : List Step} → HasCome t a b (worker_steps b) → HasCome t b c xs → HasCome t a c (worker_steps c)
come_then p q = record { steps = refl; number = q.number ∙ p.number; seat = q.seat; schedule = q.schedule }

-- the steps that a look-up or a draw added, with the loads of a row or without
pub gained_by : (r : ℕ) (walk before after : List Step) → MaybeLoads r (walk ++ before) after → (gained : List Step) × (after ≡ gained ++ before)
gained_by r walk before after (inl e) = (walk, e)
gained_by r walk before after (inr (word, e)) = (row_loads r word walk, e)

pub gained_then : (a b c g h : List Step) → b ≡ g ++ a → c ≡ h ++ b → c ≡ (h ++ g) ++ a
gained_then a b c g h p q = q ∙ ap (λ (l : List Step). h ++ l) p ∙ sym (append_assoc h g a)

pub rises_none : (n m : ℕ) → m ≡ n → RisesBy 0 n m
rises_none n m e = record { none = λ z. e; each = omega (arith, e) }

pub rises_then : (a b x y z : ℕ) → RisesBy a x y → RisesBy b y z → RisesBy (a + b) x z
rises_then a b x y z p q = record {
  none = λ e. q.none (omega (arith, e)) ∙ p.none (omega (arith, e));
  each = let e = p.each in let f = q.each in omega (arith, e, f);
}

pub rises_one : (x y : ℕ) → Rises x y → RisesBy 1 x y
rises_one x y (inl below) = record { none = λ e. absurd (omega (arith, e)); each = omega (arith, below) }
rises_one x y (inr (full, still)) = record { none = λ e. absurd (omega (arith, e)); each = omega (arith, full, still) }
