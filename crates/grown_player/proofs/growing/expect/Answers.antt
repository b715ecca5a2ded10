use Rattle.std.proofs.Common.{ap, ◌∙◌}
use Rattle.network_demand.specs.Asked.{locals_of}
use Rattle.tree_model.specs.Ranks.{longest}
use Rattle.grown_player.proofs.Grown.{askable, expected}
use Rattle.grown_player.proofs.growing.expect.Goals as goal

pub demand_text-requires : goal.demand_text-requires
demand_text-requires c =
    askable c.args.seed c.args.grown.now.routing (locals_of c.in_ok-locals.locals) c.as_slice.result.now c.as_slice-2.result.now c.requires.routing c.in_ok-locals.ensures
    (c.as_slice.ensures.value ∙ c.requires.senders) (c.as_slice-2.ensures.value ∙ c.requires.wants)

pub returns : goal.returns
returns c = record {
  wires = c.in_ok-wires.ensures ∙ c.in_ok-copy.ensures ∙ c.requires.routing;
  longest_is = c.longest.ensures ∙ ap longest c.requires.routing;
  rounds = c.requires.rounds;
  demand =
      expected c.args.seed c.as_slice-3.result.now c.args.grown.now.routing (locals_of c.in_ok-locals.locals) c.as_slice.result.now c.as_slice-2.result.now c.in_ok-demand.demand.items
      (c.as_slice-3.ensures.value ∙ c.requires.names) c.requires.routing
      c.in_ok-locals.ensures (c.as_slice.ensures.value ∙ c.requires.senders) (c.as_slice-2.ensures.value ∙ c.requires.wants) c.in_ok-demand.ensures;
}
