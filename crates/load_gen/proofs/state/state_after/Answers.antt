use Rattle.std.proofs.Common.{◌≡◌, ◌∙◌, rules}
use Rattle.rand_pcg.specs.Lcg.{state_after}
use Rattle.load_gen.proofs.StateFacts.{factor, summand, same_state}
use Rattle.load_gen.proofs.state.state_after.Goals as goal

pub returns : goal.returns
returns c =
    let stepped : c.state.result ≡ state_after 64 factor summand c.args.steps c.args.seed = search rules in
    stepped ∙ same_state c.args.steps c.args.seed
