-- What is told of the run of a seed's plan: of its network, of its last world, and whether it reports what is demanded.
use Rattle.std.specs.Prelude.{ℕ, ◌-◌, ◌^◌, min, Bool, List, length, None, bytes_eq}
use Rattle.network_model.specs.DemandTexts.{demand_text}
use Rattle.tree_model.specs.Ranks.{longest}
use Rattle.network_model.specs.Runs.{last_world, run_text}
use Rattle.grown_network.specs.Grown.{asked, grown_net, grown_plan, rounds_of}
use Rattle.grown_network.specs.Nodes.{names_up_to}
use Rattle.grown_network.specs.Booked.{booked}
use Rattle.grown_network.specs.Texts.{summary_text}
use Rattle.grown_network.specs.declared.summary.Summary.{Summary}

-- the demand of all ends of the network, for what its hosts ask, as a report would tell it
abbrev pub demanded : ℕ → List ℕ
demanded seed = demand_text (names_up_to 63) (grown_net seed) (asked seed) None

-- the run reports exactly that
abbrev pub is_as_demanded : ℕ → Bool
is_as_demanded seed = bytes_eq (run_text (grown_plan seed)) (demanded seed)

-- datagrams that were delivered in the run, as far as 64 bits count them
abbrev pub delivered : ℕ → ℕ
delivered seed = min (last_world (grown_plan seed)).delivered (2 ^ 64 - 1)

abbrev pub summary_of : ℕ → Summary
summary_of seed = record {
  seed = seed;
  nodes = (grown_net seed).nodes;
  hops = length (grown_net seed).hops;
  longest = longest (grown_net seed);
  rounds = rounds_of seed;
  delivered = delivered seed;
  booked = booked (grown_net seed) (last_world (grown_plan seed));
  equal = is_as_demanded seed;
}

-- a shut front, which contracts cite
unfoldable pub summary : ℕ → List ℕ
summary seed = summary_text (summary_of seed)
