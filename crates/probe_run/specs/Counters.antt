-- What a measurement's loop keeps of its turns (this project's own). It is for contracts of private functions alone.
use Rattle.std.specs.Prelude.{◌≡◌, ◌+◌, Bool, true, false, List, [], ◌∷◌, Option, None}
use Rattle.probe_run.specs.declared.progress.Came.{Came}
use Rattle.probe_run.specs.declared.progress.Came.TheVariants.{Idle, Over, Failed, Reply, Foreign}
use Rattle.probe_run.specs.declared.progress.ProbeEnd.{ProbeEnd}
use Rattle.probe_run.specs.declared.progress.Progress.{Progress}
use Rattle.probe_run.specs.Ends.{end_by}
use Rattle.probe_run.specs.Turns.{Turn, Incoming, idle, over, failed, reply, foreign}

abbrev pub kind_of : Incoming → Came
kind_of idle = Idle
kind_of over = Over
kind_of failed = Failed
kind_of (reply meta octets) = Reply
kind_of (foreign meta octets) = Foreign

abbrev pub was_over : Came → Bool
was_over Over = true
was_over Idle = false
was_over Failed = false
was_over Reply = false
was_over Foreign = false

abbrev pub at_first : Progress
at_first = record { calls = 0; failed = 0; foreign = 0 }

-- one call of `recv` more
abbrev pub with_call : Progress → Came → Progress
with_call p Idle = record { calls = p.calls + 1; failed = 0; foreign = p.foreign }
with_call p Over = record { calls = p.calls + 1; failed = 0; foreign = p.foreign }
with_call p Failed = record { calls = p.calls + 1; failed = p.failed + 1; foreign = p.foreign }
with_call p Reply = record { calls = p.calls + 1; failed = 0; foreign = p.foreign }
with_call p Foreign = record { calls = p.calls + 1; failed = 0; foreign = p.foreign + 1 }

abbrev pub with_turn : Progress → Turn → Progress
with_turn p t = with_call p (kind_of t.incoming)

abbrev pub progress_after : Progress → List Turn → Progress
progress_after p [] = p
progress_after p (t ∷ ts) = progress_after (with_turn p t) ts

abbrev pub end_at : Progress → Came → Option ProbeEnd
end_at p came = end_by (was_over came) p.failed p.calls

-- no end is due after any of these turns
abbrev pub NoneAt : Progress → List Turn → Type 0
NoneAt p [] = Unit {0}
NoneAt p (t ∷ ts) = (end_at (with_turn p t) (kind_of t.incoming) ≡ None) × NoneAt (with_turn p t) ts
