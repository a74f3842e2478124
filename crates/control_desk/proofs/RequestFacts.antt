-- The candidates of a request, one local more.
use Rattle.std.proofs.Common.{◌≡◌, ℕ, ◌+◌, ◌<◌, Bool, true, false, List, [], ◌∷◌, ◌++◌, length, drop, get_or, leb, Some, refl, sym, ap, ◌∙◌, append_assoc}
use Rattle.refl_types.specs.declared.types.Address.{Address}
use Rattle.refl_types.specs.declared.types.Endpoint.{Endpoint}
use Rattle.refl_types.specs.declared.types.Extra.{Extra}
use Rattle.refl_types.specs.declared.config.ConfigParts.{ConfigParts}
use Rattle.control_msgs.specs.declared.types.Request.{Request as SessionRequest}
use Rattle.control_msgs.specs.declared.codes.Accept.TheVariants.{NotSupported, PermanentLimit, TemporaryLimit}
use Rattle.twamp_control.specs.declared.types.DeskAnswer.TheVariants.{Refused}
use Rattle.control_desk.specs.declared.requests.Tried.{Tried}
use Rattle.control_desk.specs.declared.requests.Tried.TheVariants.{Taken, RefusedAll, TriesNext}
use Rattle.control_desk.specs.Plan.{Plan, reserve}
use Rattle.control_desk.specs.Control.{NextAnswer, Candidate, chosen_one, chosen, reserved_wait, key_at, tried, try_all, after_tried, tries_next, or_else, extra_of, is_served, candidates, between, under_twamp, request_plan}
use Rattle.control_desk.specs.State.{Setting}
use Rattle.control_desk.specs.declared.sides.ControlSide.{ControlSide}
use Rattle.control_desk.proofs.Choices.{next_item, if_true, if_false}

pub done_with : (o : Tried) (next : NextAnswer) (m m' : Plan) → tries_next o ≡ false → after_tried o next m ≡ after_tried o next m'
done_with (Taken own port) next m m' h = refl
done_with RefusedAll next m m' h = refl
done_with TriesNext next m m' h = absurd cc

pub goes_on : (o : Tried) (next : NextAnswer) (m : Plan) → tries_next o ≡ true → after_tried o next m ≡ m
goes_on (Taken own port) next m h = absurd cc
goes_on RefusedAll next m h = absurd cc
goes_on TriesNext next m h = refl

pub try_none : (config : ConfigParts) (x : Extra) (a : Address) (r : SessionRequest) (next : NextAnswer) → try_all config x a r next [] ≡ next (Refused TemporaryLimit) []
unfolding try_all
try_none config x a r next = refl

pub try_more : (config : ConfigParts) (x : Extra) (a : Address) (r : SessionRequest) (next : NextAnswer) (c : Candidate) (cs : List Candidate)
    → try_all config x a r next (c ∷ cs) ≡ reserve (key_at c a r.sender_port) x config reserved_wait (tried (key_at c a r.sender_port) c.port r next (try_all config x a r next cs))
unfolding try_all
try_more config x a r next c cs = refl

pub next_chosen : (test : Endpoint → Bool) (ls : List Endpoint) (i : ℕ) (x : Endpoint) (rest : List Candidate) → i < length ls
    → chosen test i (drop i ls) ++ rest ≡ chosen_one test i (get_or ls i x) ++ (chosen test (i + 1) (drop (i + 1) ls) ++ rest)
next_chosen test ls i x rest h =
    ap (λ (l : List Endpoint). chosen test i l ++ rest) (next_item ls i x h)
    ∙ append_assoc (chosen_one test i (get_or ls i x)) (chosen test (i + 1) (drop (i + 1) ls)) rest

-- a request that is served tries all candidates
pub served : (f : Setting) (side : ControlSide) (r : SessionRequest) (next : NextAnswer) (config : ConfigParts) (ls : List Endpoint) (from to : Address) (x : Extra) (mode : ℕ)
    → leb 16 (length side.sessions) ≡ false → f.twamp ≡ Some config → f.locals ≡ ls → from ≡ or_else r.sender side.peer → to ≡ or_else r.receiver side.local
    → mode ≡ side.machine.mode → x ≡ extra_of mode r → is_served ls r from to ≡ true
    → request_plan f side r next ≡ try_all config x from r next (candidates ls r.v6 to r.receiver_port)
served f side r next config ls from to x mode full twamp locals of of' em ex is =
    if_false _ (next (Refused PermanentLimit) []) (under_twamp f side r next f.twamp) full
    ∙ ap (under_twamp f side r next) twamp
    ∙ ap (λ (a : Address). between f side r next config a (or_else r.receiver side.local)) (sym of)
    ∙ ap (between f side r next config from) (sym of')
    ∙ if_true _ (try_all config (extra_of side.machine.mode r) from r next (candidates f.locals r.v6 to r.receiver_port)) (next (Refused NotSupported) []) (ap (λ (l : List Endpoint). is_served l r from to) locals ∙ is)
    ∙ ap (λ (l : List Endpoint). try_all config (extra_of side.machine.mode r) from r next (candidates l r.v6 to r.receiver_port)) locals
    ∙ ap (λ (y : Extra). try_all config y from r next (candidates ls r.v6 to r.receiver_port)) (ap (λ (m : ℕ). extra_of m r) (sym em) ∙ sym ex)
