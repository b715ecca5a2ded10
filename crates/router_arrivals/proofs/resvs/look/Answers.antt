use Rattle.router_state.specs.Whole.{state_of}
use Rattle.router_arrivals.proofs.Here.{all_styles}
use Rattle.router_arrivals.proofs.resvs.look.Goals as goal

pub returns : goal.returns
returns c = λ said. all_styles (state_of c.args.tables.now said) c.limits-wild.ensures.style c.limits-fixed.ensures.style c.limits-shared.ensures.style
